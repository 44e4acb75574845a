use Rattle.std.proofs.Common.{◌∙◌}
use Rattle.osb_catalog.proofs.IdLemmas.{among_at}
use Rattle.osb_catalog.proofs.ids.id_set.Goals as goal

pub loop-id-preserved : goal.loop-id-preserved
loop-id-preserved c = λ id. among_at c.args.ids.now c.loop-id.id-index c.loop-id.set c.insert.new.self c.loop-id-test.true c.in_ok-insert.ensures.updates id ∙ c.loop-id.invariant id
