use Rattle.std.proofs.Common.{◌≡◌}
use Rattle.serde_json.specs.View.{members_view}
use Rattle.osb_catalog.specs.Items.{all_members}
use Rattle.osb_catalog.specs.Kinds.{is_object_or_null}
use Rattle.osb_catalog.proofs.kind.are_objects_or_null.Given as goal

abbrev pub invariant-loop-member : goal.invariant-loop-member
invariant-loop-member l = all_members is_object_or_null (members_view l.member-iterator) ≡ all_members is_object_or_null (members_view l.members.entries)
