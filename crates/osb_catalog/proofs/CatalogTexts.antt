-- The pieces that the code puts together are the compact text of the catalog as a value.
use Rattle.std.proofs.Common.{◌≡◌, ℕ, List, [], ◌∷◌, ◌++◌, codes, Bool, true, false, Option, Some, None, Result, IfOk, refl, sym, ap, subst, ◌∙◌, append_assoc}
use Rattle.json.specs.Print.{quoted, escape_byte}
use Rattle.serde_json.specs.Data.{Data, array, Items, no_items, item, Members}
use Rattle.serde_json.specs.Written.{compact_text, items_text, members_text, comma_if}
use Rattle.osb_catalog.specs.declared.field.Field.{Field}
use Rattle.osb_catalog.specs.declared.field.Field.TheVariants as the
use Rattle.osb_catalog.specs.Fields.{field_name, value_at}
use Rattle.osb_catalog.specs.Catalog.{with_member, shown_members, shown, each_item}
use Rattle.osb_catalog.specs.Pieces.{member_text, piece, pieces, item_pieces, joined_by_commas, enclosed}

-- no name of a field has a character that JSON escapes
name_text : (field : Field) (text : List ℕ) → quoted (field_name field) ++ 58 ∷ text ≡ member_text field text
unfolding escape_byte
name_text the.Platform text = refl
name_text the.Backend text = refl
name_text the.Catalog text = refl
name_text the.Modes text = refl
name_text the.OrdersPerInstance text = refl
name_text the.User text = refl
name_text the.Password text = refl
name_text the.Also text = refl
name_text the.Services text = refl
name_text the.Id text = refl
name_text the.Name text = refl
name_text the.Description text = refl
name_text the.Bindable text = refl
name_text the.Plans text = refl
name_text the.Tags text = refl
name_text the.Metadata text = refl
name_text the.InstancesRetrievable text = refl
name_text the.BindingsRetrievable text = refl
name_text the.PlanUpdateable text = refl
name_text the.AllowContextUpdates text = refl
name_text the.Free text = refl
name_text the.MaximumPollingDuration text = refl
name_text the.MaintenanceInfo text = refl
name_text the.Version text = refl
name_text the.Instances text = refl
name_text the.Bindings text = refl
name_text the.Credentials text = refl
name_text the.BindingRotatable text = refl
name_text the.DashboardClient text = refl
name_text the.Requires text = refl
name_text the.Schemas text = refl

-- one more member: its text, then those of the others
one_member : (comma name text rest rest' : List ℕ) → rest ≡ rest' → (comma ++ (name ++ 58 ∷ text)) ++ rest ≡ comma ++ (name ++ 58 ∷ (text ++ rest'))
one_member comma name text rest rest' same =
    append_assoc comma (name ++ 58 ∷ text) rest
    ∙ ap (λ y. comma ++ y) (append_assoc name (58 ∷ text) rest ∙ ap (λ y. name ++ 58 ∷ (text ++ y)) same)

-- the member is there or not, and `rest` says the same of the fields after it
members_by : (later : Bool) (field : Field) (show : Data → Data) (found : Option Data) (texts : List (List ℕ)) (others : Members) → ((later : Bool) → joined_by_commas later texts ++ (125 ∷ []) ≡ members_text later others) → joined_by_commas later (piece show field found ++ texts) ++ (125 ∷ []) ≡ members_text later (with_member field show found others)
members_by later field show None texts others rest = rest later
members_by later field show (Some d) texts others rest =
    append_assoc (comma_if later ++ member_text field (compact_text (show d))) (joined_by_commas true texts) (125 ∷ [])
    ∙ ap (λ y. (comma_if later ++ y) ++ (joined_by_commas true texts ++ (125 ∷ []))) (sym (name_text field (compact_text (show d))))
    ∙ one_member (comma_if later) (quoted (field_name field)) (compact_text (show d)) (joined_by_commas true texts ++ (125 ∷ [])) (members_text true others) (rest true)

members_joined : (fields : List (Field × (Data → Data))) (v : Data) (later : Bool) → joined_by_commas later (pieces fields v) ++ (125 ∷ []) ≡ members_text later (shown_members fields v)
members_joined [] v later = refl
members_joined (f ∷ fs) v later = members_by later f.0 f.1 (value_at f.0 v) (pieces fs v) (shown_members fs v) (members_joined fs v)

items_joined : (later : Bool) (show : Data → Data) (ds : Items) → joined_by_commas later (item_pieces show ds) ++ (93 ∷ []) ≡ items_text later (each_item show ds)
items_joined later show no_items = refl
items_joined later show (item d ds) =
    append_assoc (comma_if later ++ compact_text (show d)) (joined_by_commas true (item_pieces show ds)) (93 ∷ [])
    ∙ ap (λ y. (comma_if later ++ compact_text (show d)) ++ y) (items_joined true show ds)
    ∙ append_assoc (comma_if later) (compact_text (show d)) (items_text true (each_item show ds))

object_of_pieces : (fields : List (Field × (Data → Data))) (v : Data) → enclosed (codes "{") (pieces fields v) (codes "}") ≡ compact_text (shown fields v)
object_of_pieces fields v = ap (λ y. 123 ∷ y) (members_joined fields v false)

pub list_of_pieces : (show : Data → Data) (ds : Items) → enclosed (codes "[") (item_pieces show ds) (codes "]") ≡ compact_text (array (each_item show ds))
list_of_pieces show ds = ap (λ y. 91 ∷ y) (items_joined false show ds)

-- what encloses the members' pieces has the object's text
pub shown_is : {E : Type 0} (result : Result (List ℕ) E) (fields : List (Field × (Data → Data))) (v : Data) (members : List (List ℕ)) → members ≡ pieces fields v → IfOk result (λ t. t ≡ enclosed (codes "{") members (codes "}")) → IfOk result (λ t. t ≡ compact_text (shown fields v))
shown_is result fields v members are h = subst (λ (text : List ℕ). IfOk result (λ t. t ≡ text)) (ap (λ ms. enclosed (codes "{") ms (codes "}")) are ∙ object_of_pieces fields v) h
