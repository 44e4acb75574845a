-- What the paths behind the doors name: on the platform's side the resources of OSB API 2.17, on the backend's the
-- orders, which are this project's own. `Paths` has the same as a table.
use Rattle.std.specs.Prelude.{ℕ, List, [], ◌∷◌, Bool, not, ◌&&◌, ◌==◌, Option, Some, None, length, codes, bytes_eq, if◌then◌else◌}
use Rattle.osb_asks.specs.declared.door.Door.{Door}
use Rattle.osb_asks.specs.declared.door.Door.TheVariants.{Platform, Backend}

-- what a path names, with the segments of its ids as they are there
pub data Named : Type 0 where
  catalog orders : Named
  instance instance_operation : List ℕ → Named
  binding binding_operation order : List ℕ → List ℕ → Named

-- the word, and behind it an id, which isn't empty
abbrev pub names_one : List ℕ → List ℕ → List ℕ → Bool
names_one text word id = bytes_eq word text && not (length id == 0)

-- what is named of a binding, by the segments after its id
abbrev pub under_binding : List ℕ → List ℕ → List (List ℕ) → Option Named
under_binding i b [] = Some (binding i b)
under_binding i b (word ∷ []) = if bytes_eq word (codes "last_operation") then Some (binding_operation i b) else None
under_binding i b _ = None

-- the same of an instance
abbrev pub under_instance : List ℕ → List (List ℕ) → Option Named
under_instance i [] = Some (instance i)
under_instance i (word ∷ []) = if bytes_eq word (codes "last_operation") then Some (instance_operation i) else None
under_instance i (word ∷ b ∷ rest) = if names_one (codes "service_bindings") word b then under_binding i b rest else None

-- the same of the orders
abbrev pub under_orders : List (List ℕ) → Option Named
under_orders [] = Some orders
under_orders (i ∷ number ∷ []) = if not (length i == 0) then Some (order i number) else None
under_orders _ = None

-- what the segments name behind a door
abbrev pub resource_at : Door → List (List ℕ) → Option Named
resource_at Platform (word ∷ []) = if bytes_eq word (codes "catalog") then Some catalog else None
resource_at Platform (word ∷ i ∷ rest) = if names_one (codes "service_instances") word i then under_instance i rest else None
resource_at Backend (version ∷ word ∷ rest) =
    if bytes_eq version (codes "v1") && bytes_eq word (codes "orders") then under_orders rest else None
resource_at _ _ = None
