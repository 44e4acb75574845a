use Rattle.std.proofs.Common.{false, refl, ◌≡◌, ◌∙◌, true, List, ℕ, map, ap, sym, subst}
use Rattle.std.specs.Prelude.{◌↔◌}
use Rattle.osb_orders.specs.declared.view.BindingNow.{BindingNow}
use Rattle.osb_audit.specs.Bindings.{binding_entry}
use Rattle.osb_audit.proofs.TreeLemmas.{entries_held, none_left, other_first, both_end, through, refused}
use Rattle.osb_audit.proofs.bindings.are_bindings.Goals as goal

pub returns-in-None-split_first : goal.returns-in-None-split_first
returns-in-None-split_first c = λ rows held.
    let f = binding_entry c.args.instance.now in
    let es = entries_held rows c.args.bindings.now held c.into_iter-id-iterator.ensures.into_iter_gives.5 in
    refused false refl (λ same. none_left f c.loop-id.left.now c.loop-id.id-iterator _ _ c.in-None-split_first.ensures.cases c.in-Some.ensures.steps (c.loop-id.invariant.1 (same ∙ ap (map f) (sym es))))

pub returns-then-not-is_entry : goal.returns-then-not-is_entry
returns-then-not-is_entry c = λ rows held.
    let f = binding_entry c.args.instance.now in
    let es = entries_held rows c.args.bindings.now held c.into_iter-id-iterator.ensures.into_iter_gives.5 in
    refused false refl (λ same. other_first f c.loop-id.left.now c.loop-id.id-iterator _ _ _ _ c.in-Some-split_first.ensures.cases.0 c.in-Some.ensures.steps (λ is. let e = c.is_entry.ensures.1 is in let g = c.if-not-is_entry.true in cc) (c.loop-id.invariant.1 (same ∙ ap (map f) (sym es))))

pub returns : goal.returns
returns c = λ rows held.
    let f = binding_entry c.args.instance.now in
    let es = entries_held rows c.args.bindings.now held c.into_iter-id-iterator.ensures.into_iter_gives.5 in
    subst (λ (entries : List (List ℕ × BindingNow)). (c.is_empty.result ≡ true) ↔ (c.args.bound.now ≡ map f entries)) es
    (through (both_end f c.loop-id.left.now c.loop-id.id-iterator c.is_empty.result c.is_empty.ensures c.in-None.ensures.steps.0) c.loop-id.invariant)
