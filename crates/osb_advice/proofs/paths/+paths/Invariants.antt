use Rattle.std.proofs.Common.{◌≡◌, drop}
use Rattle.serde_json.specs.View.{items_view, members_view}
use Rattle.osb_advice.specs.Paths.{path_in_items, path_in_members}
use Rattle.osb_advice.proofs.paths.+paths.Given as goal

abbrev pub invariant-path_in_items-loop-at : goal.invariant-path_in_items-loop-at
invariant-path_in_items-loop-at l = path_in_items l.at (items_view (drop l.at l.items)) ≡ path_in_items 0 (items_view l.items)

abbrev pub invariant-path_in_members-loop-name : goal.invariant-path_in_members-loop-name
invariant-path_in_members-loop-name l = path_in_members l.dot (members_view l.name-iterator) ≡ path_in_members l.dot (members_view l.members.entries)
