-- Whether a file has a value, by the answer of the JSON reader.
use Rattle.std.proofs.Common.{◌≡◌, ℕ, List, IsUtf8, None, Some, cond, refl, ap, ◌∙◌}
use Rattle.std.proofs.lemmas.Bool.{cond_both}
use Rattle.std.proofs.lemmas.Str.{is_utf8-from_IsUtf8, IsUtf8-from_is_utf8}
use Rattle.std.specs.Str.{is_utf8}
use Rattle.serde_json.specs.Data.{Data}
use Rattle.serde_json.specs.Read.{read}
use Rattle.osb_text.specs.Reading.{value_of}

pub has_value : (bytes : List ℕ) (v : Data) → IsUtf8 bytes → read bytes ≡ Some v → value_of bytes ≡ Some v
has_value bytes v utf8 has = ap (λ b. cond b (read bytes) None) (is_utf8-from_IsUtf8 bytes utf8) ∙ has

pub has_none : (bytes : List ℕ) → (IsUtf8 bytes → read bytes ≡ None) → value_of bytes ≡ None
has_none bytes lacks =
    cond_both (is_utf8 bytes) (read bytes) None (λ o. o ≡ None)
    (λ e. lacks (IsUtf8-from_is_utf8 bytes e)) (λ e. refl)
