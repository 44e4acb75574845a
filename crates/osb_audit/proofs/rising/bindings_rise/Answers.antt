use Rattle.std.proofs.Common.{rules, is_lt}
use Rattle.osb_audit.specs.Bindings.{binding_cmp}
use Rattle.std.proofs.lemmas.List.Sorted.{answers_always}
use Rattle.osb_audit.proofs.RisingLemmas.{rising, bindings_total}
use Rattle.osb_audit.proofs.rising.bindings_rise.Goals as goal

pub returns : goal.returns
returns c = rising bindings_total _ _ (c.is_sorted_by.ensures.cases (λ x y. is_lt (binding_cmp x y)) (answers_always _ _ _ (λ f a r g h. search rules)))
