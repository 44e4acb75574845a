use Rattle.std.proofs.Common.{◌≡◌}
use Rattle.serde_json.specs.View.{members_view}
use Rattle.osb_catalog.specs.Items.{first_of_members}
use Rattle.osb_catalog.specs.Tables.{first_broken}
use Rattle.osb_catalog.proofs.missing.first_broken_of_members.Given as goal

abbrev pub invariant-loop-member : goal.invariant-loop-member
invariant-loop-member l = first_of_members (first_broken l.rules) (members_view l.member-iterator) ≡ first_of_members (first_broken l.rules) (members_view l.members.entries)
