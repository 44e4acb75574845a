use Rattle.std.proofs.Common.{◌∙◌, sym}
use Rattle.osb_standing.proofs.PushLemmas.{birth_failed-push}
use Rattle.osb_audit.proofs.LifeLemmas.{birth_failed-create}
use Rattle.osb_audit.proofs.life.birth_failed_after.Goals as goal

pub returns-then-is_a : goal.returns-then-is_a
returns-then-is_a c = λ before failed. c.is_now.ensures ∙ birth_failed-create before c.args.order.now (sym c.is_a.ensures ∙ c.if-is_a.true)

pub returns-else-is_a : goal.returns-else-is_a
returns-else-is_a c = λ before failed. failed ∙ sym (birth_failed-push before c.args.order.now (sym c.is_a.ensures ∙ c.if-is_a.false))
