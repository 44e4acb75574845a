-- Loops over rows.
use Rattle.std.proofs.Common.{◌≡◌, ℕ, zero, suc, ◌+◌, ◌<◌, ◌≤◌, add-one, List, [], ◌∷◌, ◌++◌, length, map, take, drop, get_or, refl, sym, ap, subst, ◌∙◌, arith}
use Rattle.std.specs.Prelude.{◌↔◌}
use Rattle.std.specs.List.{AllByRecursion}
use Rattle.std.proofs.lemmas.List.{map-append, drop_more, drop_all}
use Rattle.sqlite.specs.Order.{Row}
use Rattle.sqlite_keyed.proofs.ListLemmas.{all-append}
use Rattle.osb_rows.specs.Rows.{HaveUtf8Texts, AreInUtf8}

pub told_next : {R A : Type 0} (told : R → A) (rows : List R) (i : ℕ) (row : R) → i < length rows → row ≡ get_or rows i row → map told (take (suc i) rows) ≡ map told (take i rows) ++ told row ∷ []
told_next told [] i row low is = absurd (omega (arith, low))
told_next told (first ∷ rows) zero row low is = ap (λ r. told r ∷ []) (sym is)
told_next told (first ∷ rows) (suc i) row low is = ap (λ items. told first ∷ items) (told_next told rows i row (omega (arith, low)) is)

pub told_push : {R A : Type 0} (told : R → A) (rows : List R) (i : ℕ) (row : R) (old new : List A) (item : A) → i < length rows → row ≡ get_or rows i row → old ≡ map told (take i rows) → new ≡ old ++ item ∷ [] → item ≡ told row
    → new ≡ map told (take (i + 1) rows)
told_push told rows i row old new item low at was grown is =
    grown ∙ ap (λ items. items ++ item ∷ []) was ∙ ap (λ last. map told (take i rows) ++ last ∷ []) is ∙ sym (told_next told rows i row low at) ∙ ap (λ n. map told (take n rows)) (sym (add-one i))

-- the same where the items are compared by what they show
pub told_more : {R A B : Type 0} (shown : A → B) (told : R → B) (rows : List R) (at : ℕ) (row : R) (found next : List A) (item : A) → at < length rows → row ≡ get_or rows at row → map shown found ≡ map told (take at rows) → shown item ≡ told row
    → next ≡ found ++ item ∷ [] → map shown next ≡ map told (take (at + 1) rows)
told_more shown told rows at row found next item low is were tells grown =
    ap (map shown) grown ∙ map-append shown found (item ∷ []) ∙ told_push told rows at row (map shown found) (map shown found ++ shown item ∷ []) (shown item) low is were refl tells

-- each of the rows of entries that fit is that of one of them
pub row_of : {R E : Type 0} (shown : E → R) (Fits : E → Type 0) (rows : List R) (entries : List E) (i : ℕ) (row : R) → i < length rows → row ≡ get_or rows i row → rows ≡ map shown entries → AllByRecursion Fits entries → (entry : E) × (row ≡ shown entry) × Fits entry
row_of shown Fits rows [] i row low at is fit = absurd (omega (arith, low, ap length is))
row_of shown Fits [] (entry ∷ entries) i row low at is fit = absurd (omega (arith, low))
row_of shown Fits (first ∷ rows) (entry ∷ entries) zero row low at is fit = (entry, at ∙ ap (λ rows. get_or rows 0 row) is, fit.0)
row_of shown Fits (first ∷ rows) (entry ∷ entries) (suc i) row low at is fit = row_of shown Fits rows entries i row (omega (arith, low)) at (ap (drop 1) is) fit.1

-- each row of entries in UTF-8 is in UTF-8
pub row_in_utf8 : {E : Type 0} (shown : E → Row) (rows : List Row) (entries : List E) (i : ℕ) (row : Row) → i < length rows → row ≡ get_or rows i row → rows ≡ map shown entries → AreInUtf8 shown entries → HaveUtf8Texts row
row_in_utf8 shown rows entries i row low at is texts =
    let one = row_of shown (λ entry. HaveUtf8Texts (shown entry)) rows entries i row low at is texts in
    subst HaveUtf8Texts (sym one.1) one.2

-- one entry in UTF-8 more
pub utf8_more : {E : Type 0} (shown : E → Row) (found next : List E) (entry : E) → AreInUtf8 shown found → HaveUtf8Texts (shown entry) → next ≡ found ++ entry ∷ [] → AreInUtf8 shown next
utf8_more shown found next entry texts text grown =
    subst (AreInUtf8 shown) (sym grown) (all-append (λ entry. HaveUtf8Texts (shown entry)) found (entry ∷ []) texts (text, tt))

-- ---- whether all rows pass a test

-- all do exactly where those that are left do
abbrev pub AreLeft : {R : Type 0} → (R → Type 0) → List R → ℕ → Type 0
AreLeft Passes rows at = AllByRecursion Passes rows ↔ AllByRecursion Passes (drop at rows)

module _ {R : Type 0} (Passes : R → Type 0) (rows : List R) (at : ℕ) (left : AreLeft Passes rows at) where
  module _ (row : R) (low : at < length rows) (is : row ≡ get_or rows at row) where
    front : drop at rows ≡ row ∷ drop (at + 1) rows
    front = drop_more rows at row low ∙ ap (λ first. first ∷ drop (at + 1) rows) (sym is)

    pub one_passes : AllByRecursion Passes rows → Passes row
    one_passes all = (subst (AllByRecursion Passes) front (left.0 all)).0

    pub next_left : Passes row → AreLeft Passes rows (at + 1)
    next_left passes = (λ all. (subst (AllByRecursion Passes) front (left.0 all)).1, λ rest. left.1 (subst (AllByRecursion Passes) (sym front) (passes, rest)))

  pub all_passed : length rows ≤ at → AllByRecursion Passes rows
  all_passed high = left.1 (subst (AllByRecursion Passes) (sym (drop_all at rows high)) tt)
