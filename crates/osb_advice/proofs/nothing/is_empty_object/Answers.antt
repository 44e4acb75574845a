use Rattle.std.proofs.Common.{ap, ◌∙◌}
use Rattle.osb_catalog.specs.Kinds.{is_some_and}
use Rattle.osb_advice.specs.Nothing.{has_no_members}
use Rattle.osb_advice.proofs.NothingLemmas.{without_entries}
use Rattle.osb_advice.proofs.nothing.is_empty_object.Goals as goal

pub returns-in-Some : goal.returns-in-Some
returns-in-Some c =
    without_entries c.is_empty.result c.in-Some.members.now.entries c.is_empty.ensures
    ∙ ap (is_some_and has_no_members) c.in-Some.ensures
