use Rattle.std.proofs.Common.{rules, is_lt}
use Rattle.std.proofs.lemmas.List.Sorted.{answers_always}
use Rattle.osb_joined.specs.Contexts.{context_cmp}
use Rattle.osb_joined.proofs.WithLemmas.{contexts_rising}
use Rattle.osb_joined.proofs.pass.contexts_rise.Goals as goal

pub returns : goal.returns
returns c = contexts_rising _ _ (c.is_sorted_by.ensures.cases (λ x y. is_lt (context_cmp x y)) (answers_always _ _ _ (λ f a r g h. search rules)))
