-- A text of a row in UTF-8 is read.
use Rattle.std.proofs.Common.{◌≡◌, ◌≢◌, inl, inr, ℕ, zero, suc, ◌<◌, ◌≤◌, List, [], ◌∷◌, length, true, IsUtf8, refl, subst}
use Rattle.std.specs.Str.{is_utf8}
use Rattle.std.proofs.lemmas.Bool.{cases_lt}
use Rattle.std.proofs.lemmas.Str.{IsUtf8-nil, IsUtf8-from_is_utf8, is_utf8-from_IsUtf8}
use Rattle.sqlite.specs.declared.error.Error.{Error}
use Rattle.sqlite.specs.declared.error.Error.TheVariants.{SqliteFailure, InvalidColumnIndex}
use Rattle.sqlite.specs.declared.error.ErrorCode.TheVariants.{OutOfMemory}
use Rattle.sqlite.specs.declared.types.Value.{Value}
use Rattle.sqlite.specs.declared.types.Value.TheVariants.{Null, Int, Real, Text, Blob}
use Rattle.sqlite.specs.Order.{Row, column}
use Rattle.sqlite.specs.Reading.{read_error}
use Rattle.sqlite.specs.Values.{text_refusal}
use Rattle.osb_rows.specs.Rows.{IsUtf8Text, HaveUtf8Texts}
use Rattle.osb_contexts.specs.Read.{IsUnfit}

cell_in_utf8 : (row : Row) (at : ℕ) → HaveUtf8Texts row → IsUtf8Text (column row at)
cell_in_utf8 [] at all = tt
cell_in_utf8 (value ∷ row) zero all = all.0
cell_in_utf8 (value ∷ row) (suc at) all = cell_in_utf8 row at all.1

abbrev Reads : Value → Type 0
Reads value = (text : List ℕ) × (value ≡ Text text) × IsUtf8 text

never_unfit : (at : ℕ) (value : Value) (error : Error) → IsUtf8Text value → (Reads value → ⊥) → error ≡ read_error at value (text_refusal value) → IsUnfit error → ⊥
never_unfit at Null error utf8 fails is unfit = subst IsUnfit is unfit
never_unfit at (Int n) error utf8 fails is unfit = subst IsUnfit is unfit
never_unfit at (Real x) error utf8 fails is unfit = subst IsUnfit is unfit
never_unfit at (Text text) error utf8 fails is unfit = fails (text, refl, IsUtf8-from_is_utf8 text utf8)
never_unfit at (Blob b) error utf8 fails is unfit = subst IsUnfit is unfit

-- the error of a text that is read of the row isn't that the text isn't UTF-8
pub text_fits : (row : Row) (at : ℕ) (error : Error) → (length row ≤ at → error ≡ InvalidColumnIndex at) → (error ≢ SqliteFailure OutOfMemory → at < length row → Reads (column row at) → ⊥)
    → (error ≢ SqliteFailure OutOfMemory → at < length row → error ≡ read_error at (column row at) (text_refusal (column row at))) → HaveUtf8Texts row → IsUnfit error → ⊥
text_fits row at error index kind which utf8 unfit =
    let known : error ≢ SqliteFailure OutOfMemory = λ is. subst IsUnfit is unfit in
    elim (cases_lt at (length row)) [
      | inl low ↦ never_unfit at (column row at) error (cell_in_utf8 row at utf8) (kind known low) (which known low) unfit
      | inr high ↦ subst IsUnfit (index high) unfit
    ]

-- ---- texts that are written

pub text_in_utf8 : (shown text : List ℕ) → shown ≡ text → IsUtf8 shown → is_utf8 text ≡ true
text_in_utf8 shown text is utf8 = subst (λ bytes. is_utf8 bytes ≡ true) is (is_utf8-from_IsUtf8 shown utf8)

pub empty_in_utf8 : is_utf8 [] ≡ true
empty_in_utf8 = is_utf8-from_IsUtf8 [] IsUtf8-nil
