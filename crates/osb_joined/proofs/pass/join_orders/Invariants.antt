use Rattle.std.proofs.Common.{drop}
use Rattle.osb_joined.specs.Join.{is_of_order}
use Rattle.osb_joined.specs.Fits.{fits_order}
use Rattle.osb_joined.proofs.PassLemmas.{Passes}
use Rattle.osb_joined.proofs.WithLemmas.{order_joins}
use Rattle.osb_joined.proofs.pass.join_orders.Given as goal

abbrev pub invariant-loop-context : goal.invariant-loop-context
invariant-loop-context l = Passes is_of_order fits_order order_joins l.contexts l.orders l.joined.items (drop l.context-index l.contexts) l.left
