use Rattle.osb_audit.proofs.TreeLemmas.{holds_put}
use Rattle.osb_audit.proofs.bindings.put.Goals as goal

pub returns : goal.returns
returns c = λ rows held. holds_put rows c.args.bindings.now c.insert.new.self c.args.id.now held c.in_ok-key.key c.args.binding c.in_ok-key.ensures.cases c.in_ok-insert.ensures.updates.0
