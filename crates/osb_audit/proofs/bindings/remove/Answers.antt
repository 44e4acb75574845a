use Rattle.osb_audit.proofs.TreeLemmas.{holds_removed}
use Rattle.osb_audit.proofs.bindings.remove.Goals as goal

pub returns : goal.returns
returns c = λ rows held. holds_removed rows c.args.bindings.now c.remove.new.self _ held c.remove.ensures.updates.0
