use Rattle.std.proofs.Common.{◌∙◌, ap}
use Rattle.osb_catalog.proofs.IdLemmas.{double_at, empty_has_none_of}
use Rattle.osb_catalog.specs.IdSet.{texts}
use Rattle.osb_catalog.specs.Ids.{has_double}
use Rattle.std.proofs.Common.{◌||◌}
use Rattle.osb_catalog.proofs.ids.has_double.Goals as goal

pub loop-id-init : goal.loop-id-init
loop-id-init c = ap (λ b. b || has_double (texts c.args.ids.now)) (empty_has_none_of c.new-seen.result c.new-seen.ensures.empty (texts c.args.ids.now))

pub loop-id-preserved : goal.loop-id-preserved
loop-id-preserved c = double_at c.args.ids.now c.loop-id.id-index c.loop-id.seen c.insert.new.self c.in_ok-insert.field-0 c.loop-id-test.true c.in_ok-insert.ensures.updates c.in_ok-insert.ensures.added c.if-not-branch.false ∙ c.loop-id.invariant
