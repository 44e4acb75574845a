use Rattle.std.proofs.Common.{◌≡◌, drop}
use Rattle.serde_json.specs.Written.{items_have_float, members_have_float}
use Rattle.serde_json.specs.View.{items_view, members_view}
use Rattle.osb_text.proofs.reading.+floats.Given as goal

-- what is left has a float exactly where the whole has one
abbrev pub invariant-items_hold_float-loop-item : goal.invariant-items_hold_float-loop-item
invariant-items_hold_float-loop-item l = items_have_float (items_view (drop l.item-index l.items)) ≡ items_have_float (items_view l.items)

abbrev pub invariant-members_hold_float-loop-member : goal.invariant-members_hold_float-loop-member
invariant-members_hold_float-loop-member l = members_have_float (members_view l.member-iterator) ≡ members_have_float (members_view l.members.entries)
