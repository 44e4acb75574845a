use Rattle.std.proofs.Common.{drop}
use Rattle.std.specs.Prelude.{◌↔◌}
use Rattle.osb_audit.specs.Audit.{AreSorted, AreConsistent}
use Rattle.osb_audit.proofs.audit.stand.Given as goal

abbrev pub invariant-loop-id : goal.invariant-loop-id
invariant-loop-id l = AreSorted l.orders l.instances l.bindings → AreSorted l.later (drop l.id-index l.instances) l.others × (AreConsistent l.later (drop l.id-index l.instances) l.others ↔ AreConsistent l.orders l.instances l.bindings)
