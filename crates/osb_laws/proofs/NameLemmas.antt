-- A poll that names an order is of that order.
use Rattle.std.proofs.Common.{◌≡◌, ℕ, suc, ◌^◌, ◌+◌, ◌<◌, ◌≤◌, Bool, true, false, cond, List, [], ◌∷◌, ◌++◌, length, take, filter, codes, bytes_eq, Some, refl, sym, ap, subst, ◌∙◌, length-append, arith}
use Rattle.std.specs.Fmt.{decimal}
use Rattle.std.proofs.lemmas.Fmt.{decimal_injective}
use Rattle.std.proofs.lemmas.List.{append_cancel_left}
use Rattle.std.proofs.lemmas.Bool.{true≢false}
use Rattle.std.proofs.lemmas.Slice.Eq.{bytes_eq-Decides}
use Rattle.osb_orders.specs.declared.order.OrderKind.{OrderKind}
use Rattle.osb_orders.specs.declared.order.OrderKind.TheVariants as kind
use Rattle.osb_orders.specs.declared.order.Order.{Order}
use Rattle.osb_orders.specs.Orders.{kind_text, name_of}
use Rattle.osb_orders.specs.Life.{Life}
use Rattle.osb_orders.specs.Named.{order_named}
use Rattle.osb_orders.specs.IsLife.{IsLifeAfter, IsLife}
use Rattle.osb_orders.proofs.GrowLemmas.{choose}

-- texts that a test tells apart
apart : (a b : List ℕ) → a ≡ b → bytes_eq a b ≡ false → ⊥
apart a b e no_match = true≢false (sym ((bytes_eq-Decides a b).1 e) ∙ no_match)

abbrev first : OrderKind → List ℕ
first k = take 2 (kind_text k)

kind_of_first : (k l : OrderKind) → first k ≡ first l → k ≡ l
kind_of_first kind.Create kind.Create e = refl
kind_of_first kind.Create kind.Update e = absurd (apart (first kind.Create) (first kind.Update) e refl)
kind_of_first kind.Create kind.Delete e = absurd (apart (first kind.Create) (first kind.Delete) e refl)
kind_of_first kind.Create kind.Bind e = absurd (apart (first kind.Create) (first kind.Bind) e refl)
kind_of_first kind.Create kind.Unbind e = absurd (apart (first kind.Create) (first kind.Unbind) e refl)
kind_of_first kind.Update kind.Create e = absurd (apart (first kind.Update) (first kind.Create) e refl)
kind_of_first kind.Update kind.Update e = refl
kind_of_first kind.Update kind.Delete e = absurd (apart (first kind.Update) (first kind.Delete) e refl)
kind_of_first kind.Update kind.Bind e = absurd (apart (first kind.Update) (first kind.Bind) e refl)
kind_of_first kind.Update kind.Unbind e = absurd (apart (first kind.Update) (first kind.Unbind) e refl)
kind_of_first kind.Delete kind.Create e = absurd (apart (first kind.Delete) (first kind.Create) e refl)
kind_of_first kind.Delete kind.Update e = absurd (apart (first kind.Delete) (first kind.Update) e refl)
kind_of_first kind.Delete kind.Delete e = refl
kind_of_first kind.Delete kind.Bind e = absurd (apart (first kind.Delete) (first kind.Bind) e refl)
kind_of_first kind.Delete kind.Unbind e = absurd (apart (first kind.Delete) (first kind.Unbind) e refl)
kind_of_first kind.Bind kind.Create e = absurd (apart (first kind.Bind) (first kind.Create) e refl)
kind_of_first kind.Bind kind.Update e = absurd (apart (first kind.Bind) (first kind.Update) e refl)
kind_of_first kind.Bind kind.Delete e = absurd (apart (first kind.Bind) (first kind.Delete) e refl)
kind_of_first kind.Bind kind.Bind e = refl
kind_of_first kind.Bind kind.Unbind e = absurd (apart (first kind.Bind) (first kind.Unbind) e refl)
kind_of_first kind.Unbind kind.Create e = absurd (apart (first kind.Unbind) (first kind.Create) e refl)
kind_of_first kind.Unbind kind.Update e = absurd (apart (first kind.Unbind) (first kind.Update) e refl)
kind_of_first kind.Unbind kind.Delete e = absurd (apart (first kind.Unbind) (first kind.Delete) e refl)
kind_of_first kind.Unbind kind.Bind e = absurd (apart (first kind.Unbind) (first kind.Bind) e refl)
kind_of_first kind.Unbind kind.Unbind e = refl

begins : (k : OrderKind) (rest : List ℕ) → take 2 (kind_text k ++ codes "-" ++ rest) ≡ first k
begins kind.Create rest = refl
begins kind.Update rest = refl
begins kind.Delete rest = refl
begins kind.Bind rest = refl
begins kind.Unbind rest = refl

same_number : (k l : OrderKind) (m n : ℕ) → m < 2 ^ 64 → n < 2 ^ 64 → kind_text k ++ codes "-" ++ decimal m ≡ kind_text l ++ codes "-" ++ decimal n → m ≡ n
same_number k l m n fits fits_too e =
    let same : k ≡ l = kind_of_first k l (sym (begins k (decimal m)) ∙ ap (take 2) e ∙ begins l (decimal n)) in
    decimal_injective m n fits fits_too (append_cancel_left (kind_text k ++ codes "-") (decimal m) (decimal n) (e ∙ ap (λ l. kind_text l ++ codes "-" ++ decimal n) (sym same)))

number_at : (front before later : Life) (o : Order) → IsLifeAfter front (before ++ o ∷ later) → o.number ≡ length front + length before + 1
number_at front [] later o h = grown (length front) o.number h.0.number
  where
    grown : (n m : ℕ) → m ≡ n + 1 → m ≡ n + 0 + 1
    grown n m e = omega (arith, e)
number_at front (x ∷ before) later o h = moved (length front) (length (front ++ x ∷ [])) (length before) o.number (length-append front (x ∷ [])) (number_at (front ++ x ∷ []) before later o h.1)
  where
    moved : (n p b m : ℕ) → p ≡ n + 1 → m ≡ p + b + 1 → m ≡ n + suc b + 1
    moved n p b m e f = omega (arith, e, f)

fits : (m : ℕ) → m ≤ 1000000 → m < 2 ^ 64
fits m e = omega (arith, e)

below : (n b m p : ℕ) → m ≡ n + 1 → p ≡ n + suc b + 1 → p ≤ 1000000 → m ≤ 1000000
below n b m p e f g = omega (arith, e, f, g)

differ : (n b m p : ℕ) → m ≡ n + 1 → p ≡ n + suc b + 1 → m ≡ p → ⊥
differ n b m p e f g = omega (arith, e, f, g)

module _ (passes : Order → Bool) (o : Order) (its : passes o ≡ true) (bound : o.number ≤ 1000000) where
  earlier : (x : Order) (n b : ℕ) → x.number ≡ n + 1 → o.number ≡ n + suc b + 1 → name_of x ≡ name_of o → ⊥
  earlier x n b one other e =
      differ n b x.number o.number one other
      (same_number x.kind o.kind x.number o.number (fits x.number (below n b x.number o.number one other bound)) (fits o.number bound) e)

  found : (front before later : Life) → IsLifeAfter front (before ++ o ∷ later) → order_named (name_of o) (filter passes (before ++ o ∷ later)) ≡ Some o
  found front [] later h =
      ap (λ b. order_named (name_of o) (cond b (o ∷ filter passes later) (filter passes later))) its
      ∙ ap (λ b. cond b (Some o) (order_named (name_of o) (filter passes later))) ((bytes_eq-Decides (name_of o) (name_of o)).1 refl)
  found front (x ∷ before) later h =
      let rest = found (front ++ x ∷ []) before later h.1 in
      choose (λ (l : Life). order_named (name_of o) l ≡ Some o) (passes x) (x ∷ filter passes (before ++ o ∷ later)) (filter passes (before ++ o ∷ later))
      (λ _. choose (λ f. f ≡ Some o) (bytes_eq (name_of x) (name_of o)) (Some x) (order_named (name_of o) (filter passes (before ++ o ∷ later)))
      (λ e. absurd (earlier x (length front) (length before) h.0.number (number_at front (x ∷ before) later o h) ((bytes_eq-Decides (name_of x) (name_of o)).0 e)))
      (λ _. rest)) (λ _. rest)

most : (n b r l : ℕ) → n ≡ 0 + b + 1 → l ≡ b + suc r → l ≤ 1000000 → n ≤ 1000000
most n b r l e f g = omega (arith, e, f, g)

pub names_find : (life before later : Life) (o : Order) (passes : Order → Bool) → IsLife life → life ≡ before ++ o ∷ later → passes o ≡ true → order_named (name_of o) (filter passes life) ≡ Some o
names_find life before later o passes h is its =
    let orders = subst (IsLifeAfter []) is h.orders in
    let long : length life ≡ length before + suc (length later) = ap (λ (l : Life). length l) is ∙ length-append before (o ∷ later) in
    ap (λ (l : Life). order_named (name_of o) (filter passes l)) is
    ∙ found passes o its (most o.number (length before) (length later) (length life) (number_at [] before later o orders) long h.count) [] before later orders
