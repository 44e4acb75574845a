use Rattle.std.proofs.Common.{◌≡◌, suc, string_bytes, ◌<◌, ◌+◌, ◌++◌, ◌∷◌, List, ℕ, Bool, true, length, get_or, drop, append_assoc, add-one, ap, sym, ◌∙◌}
use Rattle.std.proofs.Math.Seq.{drop-cons}
use Rattle.osb_orders.specs.declared.order.Order.{Order}
use Rattle.osb_machine.specs.Spliced.{spliced_from, spliced_after}
use Rattle.osb_machine.proofs.listed.orders_body.Goals as goal

-- one more order, with what follows it
more : (text piece new whole : List ℕ) (later : Bool) (listing : List (List ℕ × Order)) (index : ℕ) (pair : List ℕ × Order) → index < length listing → pair ≡ get_or listing index pair → piece ≡ spliced_after later pair.0 pair.1 → new ≡ text ++ piece → text ++ spliced_from later (drop index listing) ≡ whole → new ++ spliced_from true (drop (index + 1) listing) ≡ whole
more text piece new whole later listing index pair inside is said pushed kept =
    let front : drop index listing ≡ pair ∷ drop (index + 1) listing = rw (add-one) (drop-cons listing index pair inside ∙ ap (λ y. y ∷ drop (suc index) listing) (sym is)) in
    rw (pushed, said) (append_assoc text (spliced_after later pair.0 pair.1) (spliced_from true (drop (index + 1) listing)) ∙ ap (λ rest. text ++ spliced_from later rest) (sym front) ∙ kept)

pub loop-id-preserved : goal.loop-id-preserved
loop-id-preserved c =
    let pushed = c.in_ok-push_str.ensures.bytes ∙ ap (λ p. string_bytes c.loop-id.text ++ p) c.as_str.ensures.value in
    more _ _ _ _ c.loop-id.later c.args.listing.now c.loop-id.id-index c.loop-id-item.result c.loop-id-test.true c.loop-id-item.is c.in_ok-piece.ensures pushed c.loop-id.invariant
