-- What the catalog has (OSB API 2.17, "Catalog Management").
use Rattle.std.specs.Prelude.{Bool, ◌&&◌, Option, Some, None, is_some, Result, Ok, Err, if◌then◌else◌}
use Rattle.osb_text.specs.Names.{Id}
use Rattle.osb_catalog.specs.Rules.{Rules}
use Rattle.osb_asks.specs.declared.ask.Ask.{Ask}
use Rattle.osb_asks.specs.declared.ask_fault.AskFault.{AskFault}
use Rattle.osb_asks.specs.declared.ask_fault.AskFault.TheVariants.{NotInCatalog}

-- the catalog has the service, and the plan is one of that service
abbrev pub has_plan : Rules → Id → Id → Bool
has_plan rules service plan = is_some (rules.service service) && is_some (rules.plan service plan)

abbrev pub has_given_plan : Rules → Id → Option Id → Bool
has_given_plan rules service None = is_some (rules.service service)
has_given_plan rules service (Some plan) = has_plan rules service plan

abbrev pub if_offered : Bool → Ask → Result Ask AskFault
if_offered offered ask = if offered then Ok ask else Err NotInCatalog
