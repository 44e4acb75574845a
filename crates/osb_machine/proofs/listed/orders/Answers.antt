use Rattle.std.proofs.Common.{List, ℕ, ap, ◌∙◌}
use Rattle.osb_replies.specs.declared.status.Status.TheVariants.{Ok}
use Rattle.osb_machine.specs.Decision.{says}
use Rattle.osb_machine.proofs.BodyLemmas.{orders_are}
use Rattle.osb_machine.proofs.listed.orders.Goals as goal

pub returns : goal.returns
returns c = c.says.ensures ∙ ap (λ (text : List ℕ). says Ok text) (c.in_ok-text.ensures ∙ orders_are c.args.listing.now)
