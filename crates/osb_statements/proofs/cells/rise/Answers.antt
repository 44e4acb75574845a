use Rattle.std.proofs.Common.{rules, nat_lt}
use Rattle.std.proofs.lemmas.List.Sorted.{answers_always}
use Rattle.osb_statements.proofs.cells.rise.Goals as goal
use Rattle.osb_contexts.proofs.WholeLemmas.{rises}

pub returns : goal.returns
returns c told = rises c.args.ids.now c.is_sorted_by.result (c.is_sorted_by.ensures.cases nat_lt (answers_always _ _ _ (λ f a r g h. search rules))) told
