-- The number in the name of an order.
use Rattle.std.proofs.Common.{◌≡◌, ℕ, ◌<◌, eqb, List, ◌++◌, codes, decimal, Bor, Some, Option, Ok, Err, Result, refl, sym, ap, subst, ◌∙◌, arith}
use Rattle.std.specs.List.{after_first}
use Rattle.std.proofs.lemmas.Fmt.{parse-decimal}
use Rattle.std.proofs.lemmas.Str.Pattern.{IsSplitOnceResult, split_once_first}
use Rattle.std.specs.Str.Parse.{ParsesUnsigned}
use Rattle.osb_orders.specs.declared.order.OrderKind.{OrderKind}
use Rattle.osb_orders.specs.declared.order.OrderKind.TheVariants.{Create, Update, Delete, Bind, Unbind}
use Rattle.osb_orders.specs.declared.order.Order.{Order}
use Rattle.osb_orders.specs.Orders.{kind_text, name_of}

-- the first dash stands before the digits
after_kind : (kind : OrderKind) (digits : List ℕ) → after_first (λ b. eqb b 45) (kind_text kind ++ codes "-" ++ digits) ≡ digits
after_kind Create digits = refl
after_kind Update digits = refl
after_kind Delete digits = refl
after_kind Bind digits = refl
after_kind Unbind digits = refl

digits_of : (name : List ℕ) (parts : Option (Bor (List ℕ) × Bor (List ℕ))) → IsSplitOnceResult 45 name parts → (before after : Bor (List ℕ)) → parts ≡ Some (before, after) → (order : Order) → name_of order ≡ name → after.now ≡ decimal order.number
digits_of name parts split before after is order named =
    let cut = split_once_first 45 name (Some (before, after)) (subst (IsSplitOnceResult 45 name) is split) (omega arith) in
    cut.2 ∙ sym (ap (after_first (λ b. eqb b 45)) named) ∙ after_kind order.kind (decimal order.number)

-- what is parsed of the name of an order is its number
pub parsed_number : {E : Type 0} (name : List ℕ) (parts : Option (Bor (List ℕ) × Bor (List ℕ))) → IsSplitOnceResult 45 name parts → (before after : Bor (List ℕ)) → parts ≡ Some (before, after) → (parsed : Result ℕ E) → ParsesUnsigned 32 10 after.now parsed
    → (order : Order) → order.number < 4294967296 → name_of order ≡ name → parsed ≡ Ok order.number
parsed_number name parts split before after is parsed parses order low named =
    parse-decimal 32 order.number after.now parsed (omega (arith, low)) (omega (arith, low)) (digits_of name parts split before after is order named) parses

pub some_number : {E : Type 0} (parsed : Result ℕ E) (a b : ℕ) → parsed ≡ Ok a → parsed ≡ Ok b → Some a ≡ Some b
some_number parsed a b is found = cc

pub no_error : {E : Type 0} (parsed : Result ℕ E) (e : E) (n : ℕ) → parsed ≡ Err e → parsed ≡ Ok n → ⊥
no_error parsed e n is found = cc
