-- What an instance is (OSB API 2.17, "Fetching a Service Instance"; that one that failed isn't found, and one that is being
-- deleted can't be fetched, is this project's own).
use Rattle.std.specs.Prelude.{Option}
use Rattle.std.specs.Option.{option_map_or}
use Rattle.osb_replies.specs.declared.status.Status.TheVariants as status
use Rattle.osb_replies.specs.declared.fixed_error.FixedError.TheVariants.{ConcurrencyError}
use Rattle.osb_orders.specs.declared.order.Attributes.{Attributes}
use Rattle.osb_orders.specs.declared.view.InstancePhase.{InstancePhase}
use Rattle.osb_orders.specs.declared.view.InstancePhase.TheVariants as phase
use Rattle.osb_orders.specs.declared.view.Standing.{Standing}
use Rattle.osb_machine.specs.Decision.{Decision, says, refuses, not_found}
use Rattle.osb_machine.specs.Texts.{instance_body}

abbrev pub fetch_over : InstancePhase → Attributes → Decision
fetch_over phase.Creating instance = not_found
fetch_over phase.Failed instance = not_found
fetch_over phase.Updating instance = refuses ConcurrencyError
fetch_over phase.Deleting instance = refuses ConcurrencyError
fetch_over phase.Ready instance = says status.Ok (instance_body instance)

abbrev pub fetch : Option Standing → Decision
fetch standing = option_map_or (λ there. fetch_over there.phase there.attributes) standing not_found
