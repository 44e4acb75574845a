use Rattle.std.proofs.Common.{◌≡◌, cond, drop}
use Rattle.osb_catalog.specs.IdSet.{texts}
use Rattle.osb_catalog.specs.Ids.{is_among}
use Rattle.osb_catalog.specs.Found as spec
use Rattle.osb_catalog.proofs.found.stands_twice.Given as goal

abbrev pub invariant-loop-other : goal.invariant-loop-other
invariant-loop-other l =
    let rest = texts (drop l.other-index l.ids) in
    cond l.seen (is_among l.id rest) (spec.stands_twice rest l.id) ≡ spec.stands_twice (texts l.ids) l.id
