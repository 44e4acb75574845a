-- A text as an id, and as the compact text of an object, where it is one.
use Rattle.std.specs.Prelude.{ℕ, List, Option, Some, None, if◌then◌else◌}
use Rattle.osb_text.specs.Id.{is_id}
use Rattle.osb_text.specs.ObjectText.{is_object_text}

abbrev pub id_if : List ℕ → Option (List ℕ)
id_if text = if is_id text then Some text else None

abbrev pub object_text_if : List ℕ → Option (List ℕ)
object_text_if text = if is_object_text text then Some text else None
