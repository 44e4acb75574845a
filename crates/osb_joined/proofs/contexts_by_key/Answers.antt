use Rattle.osb_joined.proofs.LivesLemmas.{numbered, contexts_rise, context_of_order_is, context_of_standing_is, no_life, no_later_number}
use Rattle.osb_joined.proofs.contexts_by_key.Goals as goal

pub returns : goal.returns
returns c = record { rise = λ lives whole. contexts_rise lives (numbered lives whole); orders = context_of_order_is; standing = context_of_standing_is; absent = no_life; above = no_later_number }
