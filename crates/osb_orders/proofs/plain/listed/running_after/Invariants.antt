use Rattle.std.proofs.Common.{◌≡◌, ◌++◌, map, filter}
use Rattle.std.specs.Prelude.{filter_map}
use Rattle.osb_orders.specs.Listing.{with_last, is_listed}
use Rattle.osb_orders.specs.Plain.{life_in}
use Rattle.osb_orders.proofs.plain.listed.running_after.Given as goal

abbrev pub invariant-loop-id : goal.invariant-loop-id
invariant-loop-id l = l.pairs.items ++ filter (is_listed l.after) (filter_map with_last (map life_in l.id-iterator)) ≡ filter (is_listed l.after) (filter_map with_last (map life_in l.lives.entries))
