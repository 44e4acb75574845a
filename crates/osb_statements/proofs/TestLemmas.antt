-- What the tests of WHERE and the keys of ORDER BY say of entries.
use Rattle.std.proofs.Common.{◌≡◌, inl, inr, ℕ, ◌==◌, pos, List, [], ◌∷◌, Bool, true, false, cond, ◌&&◌, bytes_eq, Ordering, Less, Equal, Greater, is_eq, is_gt, nat_cmp, refl, sym, ap, ◌∙◌, true≢false}
use Rattle.std.specs.Cmp.Lexicographic.{slice_cmp}
use Rattle.std.specs.List.{list_all}
use Rattle.std.proofs.lemmas.Bool.{cases_Bool, and_parts}
use Rattle.std.proofs.lemmas.Map.Text.{is_eq-slice_cmp}
use Rattle.std.proofs.lemmas.Slice.Eq.{bytes_eq-Decides}
use Rattle.sqlite.specs.declared.types.Value.TheVariants.{Null, Int, Text}
use Rattle.sqlite.specs.Order.{Row}
use Rattle.sqlite_value.proofs.OrderLemmas.{value_cmp-Text}
use Rattle.sqlite_value.specs.declared.keys.Collation.TheVariants.{Binary}
use Rattle.sqlite_sql.specs.declared.ops.BinaryOp.TheVariants.{Compare}
use Rattle.sqlite_sql.specs.declared.ops.CompareOp.TheVariants.{Gt}
use Rattle.sqlite.specs.Ops.{binary, is_true}
use Rattle.sqlite.specs.Term.{holds}
use Rattle.osb_orders.specs.declared.order.Outcome.{Outcome}
use Rattle.osb_orders.specs.Changed.{with_outcome}
use Rattle.osb_audit.specs.Orders.{Entry, entry_cmp, is_of}
use Rattle.osb_statements.specs.Stored.{entry_row}
use Rattle.osb_contexts.proofs.TestLemmas.{truth_back, same_text, same_number, and_true, same_bytes, number_itself, same_nat}
use Rattle.osb_audit.proofs.RunLemmas.{text_itself as bytes_itself}
use Rattle.osb_contexts.proofs.Texts.{is_at}

-- the entry has this key
abbrev pub is_keyed : List ℕ → ℕ → Entry → Bool
is_keyed id number entry = bytes_eq entry.0 id && (entry.1.number == number)

pub later_text : (a b : List ℕ) → is_true (binary (Compare Gt Binary) (Text a) (Text b)) ≡ is_gt (slice_cmp nat_cmp a b)
unfolding binary
later_text a b = truth_back _ ∙ ap is_gt (value_cmp-Text a b)

-- ---- the tests of WHERE

pub at_key : (id : List ℕ) (number : ℕ) (more : Row) (entry : Entry) → list_all (holds ((Text id ∷ Int (pos number) ∷ more) ∷ (Null ∷ entry_row entry) ∷ [])) (is_at 1 0 ∷ is_at 2 1 ∷ []) ≡ is_keyed id number entry
at_key id number more entry = rw (same_text entry.0 id, same_number entry.1.number number, and_true (entry.1.number == number)) refl

pub at_instance : (id : List ℕ) (more : Row) (entry : Entry) → list_all (holds ((Text id ∷ more) ∷ (Null ∷ entry_row entry) ∷ [])) (is_at 1 0 ∷ []) ≡ is_of id entry
at_instance id more entry = rw (same_text entry.0 id) (and_true _)

-- ---- the keys

pub bytes_back : (a b : List ℕ) → bytes_eq a b ≡ false → bytes_eq b a ≡ false
bytes_back a b h = elim (cases_Bool (bytes_eq b a)) [ inl same ↦ absurd (true≢false (sym ((bytes_eq-Decides a b).1 (sym (same_bytes b a same))) ∙ h)) | inr other ↦ other ]

pub text_itself : (a : List ℕ) → slice_cmp nat_cmp a a ≡ Equal
text_itself a = equal _ (is_eq-slice_cmp a a ∙ bytes_itself a)
  where
    equal : (o : Ordering) → is_eq o ≡ true → o ≡ Equal
    equal Less h = absurd (cc)
    equal Equal h = refl
    equal Greater h = absurd (cc)

-- one key, one entry
pub one_keyed : (id : List ℕ) (number : ℕ) (a b : Entry) → is_keyed id number a ≡ true → is_keyed id number b ≡ true → entry_cmp a b ≡ Equal
one_keyed id number a b p q =
    let a' = and_parts _ _ p in let b' = and_parts _ _ q in
    let ids : a.0 ≡ b.0 = same_bytes a.0 id a'.0 ∙ sym (same_bytes b.0 id b'.0) in
    let numbers : a.1.number ≡ b.1.number = same_nat a.1.number number a'.1 ∙ sym (same_nat b.1.number number b'.1) in
    rw (ids, numbers, text_itself b.0, number_itself b.1.number) refl

-- the entry with the outcome
abbrev pub entry_ended : Outcome → Entry → Entry
entry_ended outcome entry = (entry.0, with_outcome outcome entry.1)

pub ended_keeps : (hit : Entry → Bool) (outcome : Outcome) (a b : Entry) → entry_cmp (cond (hit a) (entry_ended outcome a) a) (cond (hit b) (entry_ended outcome b) b) ≡ entry_cmp a b
ended_keeps hit outcome a b = go (hit a) (hit b)
  where
    go : (x y : Bool) → entry_cmp (cond x (entry_ended outcome a) a) (cond y (entry_ended outcome b) b) ≡ entry_cmp a b
    go true true = refl
    go true false = refl
    go false true = refl
    go false false = refl
