use Rattle.std.proofs.Common.{rules, is_lt}
use Rattle.osb_audit.specs.Instances.{instance_cmp}
use Rattle.std.proofs.lemmas.List.Sorted.{answers_always}
use Rattle.osb_audit.proofs.RisingLemmas.{rising, instances_total}
use Rattle.osb_audit.proofs.rising.instances_rise.Goals as goal

pub returns : goal.returns
returns c = rising instances_total _ _ (c.is_sorted_by.ensures.cases (λ x y. is_lt (instance_cmp x y)) (answers_always _ _ _ (λ f a r g h. search rules)))
