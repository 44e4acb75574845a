use Rattle.std.proofs.Common.{◌≡◌, ◌+◌, ◌≤◌, drop}
use Rattle.osb_trim.proofs.CountLemmas.{left_count}
use Rattle.osb_trim.proofs.counted.trimmed_count.Given as goal

abbrev pub invariant-loop-order : goal.invariant-loop-order
invariant-loop-order l = record {
  counted : l.count + left_count (drop l.order-index l.order-items) ≡ left_count l.order-items;
  within : l.count ≤ l.order-index;
}
