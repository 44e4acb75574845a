use Rattle.std.proofs.Common.{refl}
use Rattle.osb_contexts.specs.Reads.{behind}
use Rattle.osb_contexts.proofs.PageLemmas.{no_page_yet}
use Rattle.osb_contexts.proofs.pages.read_on.Goals as goal

pub loop-init : goal.loop-init
loop-init g c = (refl, no_page_yet (behind g.S.Store c.args.tx.now) _ (λ is. is) c.requires)
