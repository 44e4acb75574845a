use Rattle.std.proofs.Common.{◌≡◌, drop}
use Rattle.osb_catalog.specs.IdSet.{texts}
use Rattle.osb_catalog.specs.Ids as of_ids
use Rattle.osb_catalog.proofs.found.is_among.Given as goal

abbrev pub invariant-loop-other : goal.invariant-loop-other
invariant-loop-other l = of_ids.is_among l.id (texts (drop l.other-index l.ids)) ≡ of_ids.is_among l.id (texts l.ids)
