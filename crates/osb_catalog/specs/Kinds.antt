-- What a field may hold.
use Rattle.std.specs.Prelude.{ℕ, List, codes, length, ◌==◌, nat_lt, bytes_eq, Bool, true, false, not, ◌&&◌, ◌||◌, Option, Some, None, is_some}
use Rattle.serde_json.specs.Data.{Data, Items, no_items, item}
use Rattle.serde_json.specs.Find.{as_null, as_bool, as_str, as_array, as_object}
use Rattle.osb_text.specs.Id.{is_id}
use Rattle.osb_text.specs.Member.{as_whole}
use Rattle.osb_text.specs.Reading.{is_object}
use Rattle.osb_catalog.specs.declared.field.Field.{Field}
use Rattle.osb_catalog.specs.declared.field.Field.TheVariants as the
use Rattle.osb_catalog.specs.declared.kind.Kind.{Kind}
use Rattle.osb_catalog.specs.declared.kind.Kind.TheVariants as a
use Rattle.osb_catalog.specs.Fields.{value_at}
use Rattle.osb_catalog.specs.Items.{all_items, all_members}

-- it is there, and p holds of it
abbrev pub is_some_and : {A : Type 0} → (A → Bool) → Option A → Bool
is_some_and p None = false
is_some_and p (Some x) = p x

-- it is absent, or p holds of it
abbrev pub is_none_or : {A : Type 0} → (A → Bool) → Option A → Bool
is_none_or p None = true
is_none_or p (Some x) = p x

abbrev pub is_null : Data → Bool
is_null d = is_some (as_null d)

abbrev pub is_text : Data → Bool
is_text d = is_some (as_str d)

abbrev pub is_empty : Items → Bool
is_empty no_items = true
is_empty (item d ds) = false

-- null counts as an absent member
abbrev pub is_object_or_null : Data → Bool
is_object_or_null d = is_null d || is_object d

abbrev pub are_objects : Items → Bool
are_objects = all_items is_object

abbrev pub are_some_objects : Items → Bool
are_some_objects ds = not (is_empty ds) && are_objects ds

abbrev pub is_timing : List ℕ → Bool
is_timing text = bytes_eq text (codes "synchronous") || bytes_eq text (codes "asynchronous")

abbrev pub is_order_limit : ℕ → Bool
is_order_limit n = nat_lt 0 n && nat_lt n 1000001

abbrev pub has_text : Field → Data → Bool
has_text field d = is_some_and is_text (value_at field d)

-- an object with the texts `user` and `password`
abbrev pub is_plain_login : Data → Bool
is_plain_login d = is_object d && has_text the.User d && has_text the.Password d

-- the same, and if it has an `also`, that is such an object too
abbrev pub is_login_object : Data → Bool
is_login_object d = is_plain_login d && is_none_or is_plain_login (value_at the.Also d)

-- an object with the text `version`, and where it has a `description` that is a text
abbrev pub is_maintenance_info : Data → Bool
is_maintenance_info d =
    is_object d && has_text the.Version d && is_none_or is_text (value_at the.Description d)

-- whether the value is of the kind
abbrev pub fits : Kind → Data → Bool
fits a.Object d = is_object d
fits a.ObjectOfObjects d = is_some_and (all_members is_object_or_null) (as_object d)
fits a.ObjectList d = is_some_and are_objects (as_array d)
fits a.NonEmptyObjectList d = is_some_and are_some_objects (as_array d)
fits a.Login d = is_login_object d
fits a.IdText d = is_some_and is_id (as_str d)
fits a.NonEmptyText d = is_some_and (λ text. not (length text == 0)) (as_str d)
fits a.TextList d = is_some_and (all_items is_text) (as_array d)
fits a.Flag d = is_some (as_bool d)
fits a.OrderLimit d = is_some_and is_order_limit (as_whole d)
fits a.WholeNumber d = is_some (as_whole d)
fits a.MaintenanceInfo d = is_maintenance_info d
fits a.Timing d = is_some_and is_timing (as_str d)
fits a.False d = is_some_and not (as_bool d)
fits a.EmptyList d = is_some_and is_empty (as_array d)
fits a.Nothing d = false
