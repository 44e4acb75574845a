use Rattle.std.proofs.Common.{◌≡◌, ◌||◌, drop}
use Rattle.osb_catalog.specs.Ids.{has_double}
use Rattle.osb_catalog.specs.IdSet.{texts}
use Rattle.osb_catalog.proofs.IdLemmas.{has_some}
use Rattle.osb_catalog.proofs.ids.has_double.Given as goal

abbrev pub invariant-loop-id : goal.invariant-loop-id
invariant-loop-id l = (has_some l.seen (texts (drop l.id-index l.ids)) || has_double (texts (drop l.id-index l.ids))) ≡ has_double (texts l.ids)
