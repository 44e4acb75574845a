-- What the tests of WHERE and the keys of ORDER BY say of entries.
use Rattle.std.proofs.Common.{◌≡◌, inl, inr, ℕ, ◌==◌, pos, List, [], ◌∷◌, filter, Bool, true, false, cond, not, ◌&&◌, bytes_eq, Some, Ordering, Less, Equal, Greater, is_eq, ltb, nat_cmp, refl, sym, ap, ap₂, ◌∙◌, arith, true≢false}
use Rattle.std.specs.Cmp.Lexicographic.{slice_cmp}
use Rattle.std.specs.Ordering.{is_ne, ordering_then}
use Rattle.std.specs.List.{AllByRecursion, list_all}
use Rattle.std.proofs.lemmas.Bool.{cases_Bool, and_parts}
use Rattle.std.proofs.lemmas.Bool.Decides.{nat_tests}
use Rattle.std.proofs.lemmas.Map.Text.{is_eq-slice_cmp}
use Rattle.std.proofs.lemmas.Slice.Eq.{bytes_eq-Decides}
use Rattle.sqlite.specs.declared.types.Value.TheVariants.{Null, Int, Text}
use Rattle.sqlite_keyed.specs.Lists.{update_where}
use Rattle.sqlite.specs.Order.{value_cmp}
use Rattle.sqlite.specs.Query.{key_cmp}
use Rattle.sqlite_value.specs.Keys.{ascending}
use Rattle.sqlite_value.proofs.OrderLemmas.{value_cmp-Text, value_cmp-Int}
use Rattle.sqlite_value.specs.declared.keys.Collation.TheVariants.{Binary}
use Rattle.sqlite_sql.specs.declared.ops.BinaryOp.TheVariants.{Compare}
use Rattle.sqlite_sql.specs.declared.ops.CompareOp.TheVariants.{Eq, Ne}
use Rattle.sqlite.specs.Ops.{binary, is_true, from_truth}
use Rattle.sqlite.specs.Term.{holds}
use Rattle.osb_joined.specs.declared.entry.ContextEntry.{ContextEntry}
use Rattle.osb_joined.specs.Contexts.{context_cmp, is_context, context_entry, with_context}
use Rattle.osb_contexts.specs.Contexts.{context_row}
use Rattle.osb_contexts.proofs.Texts.{is_at, is_not_at}

pub truth_back : (b : Bool) → is_true (from_truth (Some b)) ≡ b
truth_back true = refl
truth_back false = refl

pub same_text : (a b : List ℕ) → is_true (binary (Compare Eq Binary) (Text a) (Text b)) ≡ bytes_eq a b
unfolding binary
same_text a b = truth_back _ ∙ ap is_eq (value_cmp-Text a b) ∙ is_eq-slice_cmp a b

other_text : (a b : List ℕ) → is_true (binary (Compare Ne Binary) (Text a) (Text b)) ≡ not (bytes_eq a b)
unfolding binary
other_text a b = truth_back _ ∙ ap is_ne (value_cmp-Text a b) ∙ turned (slice_cmp nat_cmp a b) ∙ ap not (is_eq-slice_cmp a b)
  where
    turned : (o : Ordering) → is_ne o ≡ not (is_eq o)
    turned Less = refl
    turned Equal = refl
    turned Greater = refl

pub same_number : (m n : ℕ) → is_true (binary (Compare Eq Binary) (Int (pos m)) (Int (pos n))) ≡ (m == n)
unfolding binary
same_number m n = truth_back _ ∙ ap is_eq (value_cmp-Int (pos m) (pos n)) ∙ number m n
  where
    number : (m n : ℕ) → is_eq (cond (ltb m n) Less (cond (ltb n m) Greater Equal)) ≡ (m == n)
    number m n = grind (arith, nat_tests)

pub and_true : (a : Bool) → (a && true) ≡ a
and_true true = refl
and_true false = refl

pub number_cmp : (m n : ℕ) → value_cmp (Int (pos m)) (Int (pos n)) ≡ nat_cmp m n
number_cmp m n = value_cmp-Int (pos m) (pos n) ∙ same m n
  where
    same : (m n : ℕ) → cond (ltb m n) Less (cond (ltb n m) Greater Equal) ≡ nat_cmp m n
    same m n = grind (arith, nat_tests)

-- ---- WHERE

-- the test of the key
pub at_key : (id : List ℕ) (number : ℕ) (entry : ContextEntry) → list_all (holds ((Text id ∷ Int (pos number) ∷ []) ∷ (Null ∷ context_row entry) ∷ [])) (is_at 1 0 ∷ is_at 2 1 ∷ []) ≡ is_context id number entry
at_key id number entry = rw (same_text entry.instance id, same_number entry.number number, and_true (entry.number == number)) refl

-- the entry has the key and another context
abbrev pub has_other : List ℕ → List ℕ → ℕ → ContextEntry → Bool
has_other context id number entry = is_context id number entry && not (bytes_eq entry.context context)

pub at_updated : (context id : List ℕ) (number : ℕ) (entry : ContextEntry) → list_all (holds ((Text context ∷ Text id ∷ Int (pos number) ∷ []) ∷ (Null ∷ context_row entry) ∷ [])) (is_at 1 1 ∷ is_at 2 2 ∷ is_not_at 3 0 ∷ []) ≡ has_other context id number entry
at_updated context id number entry = rw (same_text entry.instance id, same_number entry.number number, other_text entry.context context, and_true (not (bytes_eq entry.context context))) (grouped (bytes_eq entry.instance id) (entry.number == number) (not (bytes_eq entry.context context)))
  where
    grouped : (a b c : Bool) → (a && (b && c)) ≡ ((a && b) && c)
    grouped true b c = refl
    grouped false b c = refl

-- ---- ORDER BY

pub then_equal : (o : Ordering) → ordering_then o Equal ≡ o
then_equal Less = refl
then_equal Equal = refl
then_equal Greater = refl

-- ORDER BY the whole key is the order of entries
pub by_both : (a b : ContextEntry) → key_cmp 0 (ascending Binary ∷ ascending Binary ∷ []) (Text a.instance ∷ Int (pos a.number) ∷ []) (Text b.instance ∷ Int (pos b.number) ∷ []) ≡ context_cmp a b
by_both a b = rw (value_cmp-Text a.instance b.instance, number_cmp a.number b.number, then_equal (nat_cmp a.number b.number)) refl

-- ---- the keys

pub same_bytes : (a b : List ℕ) → bytes_eq a b ≡ true → a ≡ b
same_bytes a b = (bytes_eq-Decides a b).0

text_itself : (a : List ℕ) → slice_cmp nat_cmp a a ≡ Equal
text_itself a = equal _ (is_eq-slice_cmp a a ∙ (bytes_eq-Decides a a).1 refl)
  where
    equal : (o : Ordering) → is_eq o ≡ true → o ≡ Equal
    equal Less h = absurd (cc)
    equal Equal h = refl
    equal Greater h = absurd (cc)

pub number_itself : (n : ℕ) → nat_cmp n n ≡ Equal
number_itself n = grind (arith, nat_tests)

pub same_nat : (m n : ℕ) → (m == n) ≡ true → m ≡ n
same_nat m n h = grind (arith, nat_tests)

-- the key that was hit is the entry's
pub hit_key : (id : List ℕ) (number : ℕ) (entry : ContextEntry) → is_context id number entry ≡ true → (entry.instance ≡ id) × (entry.number ≡ number)
hit_key id number entry hit = let parts = and_parts _ _ hit in (same_bytes entry.instance id parts.0, same_nat entry.number number parts.1)

-- one key, one entry
pub one_keyed : (id : List ℕ) (number : ℕ) (a b : ContextEntry) → is_context id number a ≡ true → is_context id number b ≡ true → context_cmp a b ≡ Equal
one_keyed id number a b p q =
    let a' = hit_key id number a p in let b' = hit_key id number b q in
    let ids : a.instance ≡ b.instance = a'.0 ∙ sym b'.0 in
    let numbers : a.number ≡ b.number = a'.1 ∙ sym b'.1 in
    rw (ids, numbers, text_itself b.instance, number_itself b.number) refl

pub other_keyed : (context id : List ℕ) (number : ℕ) (a b : ContextEntry) → has_other context id number a ≡ true → has_other context id number b ≡ true → context_cmp a b ≡ Equal
other_keyed context id number a b p q = one_keyed id number a b (and_parts _ _ p).0 (and_parts _ _ q).0

-- an entry that has the context is left as it is
pub updated_others : (context id : List ℕ) (number : ℕ) (entries : List ContextEntry) → update_where (has_other context id number) (with_context context) entries ≡ update_where (is_context id number) (with_context context) entries
updated_others context id number [] = refl
updated_others context id number (entry ∷ entries) = λ i. item (is_context id number entry) (bytes_eq entry.context context) refl i ∷ updated_others context id number entries i
  where
    item : (hit same : Bool) → bytes_eq entry.context context ≡ same → cond (hit && not same) (with_context context entry) entry ≡ cond hit (with_context context entry) entry
    item false same is = refl
    item true false is = refl
    item true true is = ap (λ context. with_context context entry) (same_bytes entry.context context is)

-- another context leaves the key
pub context_keeps : (hit : ContextEntry → Bool) (context : List ℕ) (a b : ContextEntry) → context_cmp (cond (hit a) (with_context context a) a) (cond (hit b) (with_context context b) b) ≡ context_cmp a b
context_keeps hit context a b = go (hit a) (hit b)
  where
    go : (x y : Bool) → context_cmp (cond x (with_context context a) a) (cond y (with_context context b) b) ≡ context_cmp a b
    go true true = refl
    go true false = refl
    go false true = refl
    go false false = refl

-- who has the key is equal to each entry of that key
pub key_tells : (id : List ℕ) (number : ℕ) (context : List ℕ) (entry : ContextEntry) → is_eq (context_cmp (context_entry id number context) entry) ≡ is_context id number entry
key_tells id number context entry = both (slice_cmp nat_cmp id entry.instance) (nat_cmp number entry.number) ∙ ap₂ (λ a b. a && b) (is_eq-slice_cmp id entry.instance ∙ turned id entry.instance) (numbers number entry.number)
  where
    both : (o p : Ordering) → is_eq (ordering_then o p) ≡ (is_eq o && is_eq p)
    both Less p = refl
    both Equal p = refl
    both Greater p = refl

    numbers : (m n : ℕ) → is_eq (nat_cmp m n) ≡ (n == m)
    numbers m n = grind (arith, nat_tests)

    turned : (a b : List ℕ) → bytes_eq a b ≡ bytes_eq b a
    turned a b = elim (cases_Bool (bytes_eq b a)) [
      | inl same ↦ rw same ((bytes_eq-Decides a b).1 (sym (same_bytes b a same)))
      | inr other ↦ rw other (elim (cases_Bool (bytes_eq a b)) [ inl same ↦ absurd (true≢false (sym ((bytes_eq-Decides b a).1 (sym (same_bytes a b same))) ∙ other)) | inr apart ↦ apart ])
    ]

-- where no entry has the key, it is free
pub key_free : (id : List ℕ) (number : ℕ) (context : List ℕ) (entries : List ContextEntry) → filter (is_context id number) entries ≡ [] → AllByRecursion (λ other. is_eq (context_cmp (context_entry id number context) other) ≡ false) entries
key_free id number context [] none = tt
key_free id number context (entry ∷ entries) none = go (is_context id number entry) refl none (key_free id number context entries)
  where
    go : (b : Bool) → is_context id number entry ≡ b → cond b (entry ∷ filter (is_context id number) entries) (filter (is_context id number) entries) ≡ []
        → (filter (is_context id number) entries ≡ [] → AllByRecursion (λ other. is_eq (context_cmp (context_entry id number context) other) ≡ false) entries) → AllByRecursion (λ other. is_eq (context_cmp (context_entry id number context) other) ≡ false) (entry ∷ entries)
    go true is none more = absurd (cc)
    go false is none more = (key_tells id number context entry ∙ is, more none)
