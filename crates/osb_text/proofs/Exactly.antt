-- An object is read exactly where the bytes have it.
use Rattle.std.proofs.Common.{◌≡◌, ◌↔◌, ℕ, List, Bool, true, false, Option, Some, None, Ok, Err, cond, refl, ap, sym, ◌∙◌}
use Rattle.serde_json.specs.Data.{Data}
use Rattle.osb_text.specs.declared.fault.TextFault.TheVariants.{NotObject, Number}
use Rattle.osb_text.specs.Reading.{value_of, is_object, object_if, object_of, HasObject}
use Rattle.osb_text.specs.Whole.{is_whole}

accepted : (kind numbers : Bool) (v w : Data) → cond kind (cond numbers (Ok v) (Err Number)) (Err NotObject) ≡ Ok w → (v ≡ w) × (kind ≡ true) × (numbers ≡ true)
accepted true true v w is = (cc, refl, refl)
accepted true false v w is = cc
accepted false numbers v w is = cc

found : (o : Option Data) (w : Data) → object_if o ≡ Ok w → (o ≡ Some w) × (is_object w ≡ true) × (is_whole w ≡ true)
found None w is = cc
found (Some v) w is =
    let a = accepted (is_object v) (is_whole v) v w is in
    (ap Some a.0, ap is_object (sym a.0) ∙ a.1, ap is_whole (sym a.0) ∙ a.2)

pub exactly : (bytes : List ℕ) (v : Data) → (object_of bytes ≡ Ok v) ↔ HasObject bytes v
exactly bytes v = (
  λ is. let f = found (value_of bytes) v is in record { value = f.0; kind = f.1; numbers = f.2 },
  λ h. rw (h.value, h.kind, h.numbers),
)
