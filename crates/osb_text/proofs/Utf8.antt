-- Bytes that aren't UTF-8, and text that isn't JSON, have no object.
use Rattle.std.proofs.Common.{◌≡◌, List, ℕ, true, false, IsUtf8, None, Err, refl, sym, ap, ◌∙◌, cond}
use Rattle.std.specs.Str.{is_utf8}
use Rattle.std.proofs.lemmas.Bool.{cond_both}
use Rattle.std.proofs.lemmas.Str.{is_utf8-from_IsUtf8, IsUtf8-from_is_utf8}
use Rattle.serde_json.specs.Read.{read}
use Rattle.osb_text.specs.declared.fault.TextFault.{TextFault}
use Rattle.osb_text.specs.declared.fault.TextFault.TheVariants.{NotJson}
use Rattle.osb_text.specs.ObjectText.{is_text_of, is_object_text}
use Rattle.osb_text.specs.Reading.{object_if, object_of}

pub utf8_test : (bytes : List ℕ) → IsUtf8 bytes → is_utf8 bytes ≡ true
utf8_test = is_utf8-from_IsUtf8

pub refused : (bytes : List ℕ) → (IsUtf8 bytes → read bytes ≡ None) → object_of bytes ≡ Err NotJson
refused bytes h =
    cond_both (is_utf8 bytes) (read bytes) None (λ o. object_if o ≡ Err NotJson)
    (λ e. rw (h (IsUtf8-from_is_utf8 bytes e)) refl) (λ e. refl)

pub no_object_text : (text : List ℕ) (fault : TextFault) → IsUtf8 text → object_of text ≡ Err fault → false ≡ is_object_text text
no_object_text text fault utf8 is =
    ap (is_text_of text) (sym is) ∙ ap (λ b. is_text_of text (object_if (cond b (read text) None))) (utf8_test text utf8)
