-- An object that is found in a readable one is readable.
use Rattle.std.proofs.Common.{◌≡◌, ℕ, List, true, Option, Some, None, Ok, option_and_then, refl, ap, subst}
use Rattle.std.specs.Prelude.{ok_or}
use Rattle.serde_json.specs.Data.{Data, null, boolean, number, string, array, object}
use Rattle.serde_json.specs.Find.{get}
use Rattle.osb_text.specs.declared.fault.TextFault.TheVariants.{WrongKind}
use Rattle.osb_text.specs.Member.{unless_null, if_given, field, object_value}
use Rattle.osb_text.specs.ObjectText.{IsReadable}
use Rattle.osb_text.specs.Reading.{is_object}
use Rattle.osb_text.proofs.ReadableLemmas.{readable_member}

pub object_found : (o : Option Data) (d : Data) → if_given (λ x. ok_or (object_value x) WrongKind) (option_and_then unless_null o) ≡ Ok (Some d)
    → (o ≡ Some d) × (is_object d ≡ true)
object_found None d h = cc
object_found (Some null) d h = cc
object_found (Some (boolean b)) d h = cc
object_found (Some (number n)) d h = cc
object_found (Some (string s)) d h = cc
object_found (Some (array ds)) d h = cc
object_found (Some (object ms)) d h =
    let same : object ms ≡ d = cc in
    (ap Some same, subst (λ x. is_object x ≡ true) same refl)

pub readable_object : (name : List ℕ) (v d : Data) → field object_value name v ≡ Ok (Some d) → IsReadable v → IsReadable d
readable_object name v d h readable = readable_member name v d (object_found (get name v) d h).0 readable
