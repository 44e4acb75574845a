-- The paths behind the doors, as a table (OSB API 2.17, the route of each section; the backend's are this project's own).
use Rattle.std.specs.Prelude.{◌≡◌, ℕ, ◌<◌, List, [], ◌∷◌, ◌++◌, length, codes}
use Rattle.std.specs.List.{AllByRecursion}
use Rattle.osb_asks.specs.declared.door.Door.{Door}
use Rattle.osb_asks.specs.declared.door.Door.TheVariants.{Platform, Backend}
use Rattle.osb_asks.specs.Resources.{Named, catalog, orders, instance, instance_operation, binding, binding_operation, order}

-- the door of a place
abbrev pub door_of : Named → Door
door_of orders = Backend
door_of (order i n) = Backend
door_of _ = Platform

-- the segments of its path behind that door: a binding's path goes on from its instance's, an operation's from that of
-- what it is of
abbrev pub instance_path : List ℕ → List (List ℕ)
instance_path i = codes "service_instances" ∷ i ∷ []

abbrev pub binding_path : List ℕ → List ℕ → List (List ℕ)
binding_path i b = instance_path i ++ (codes "service_bindings" ∷ b ∷ [])

abbrev pub orders_path : List (List ℕ)
orders_path = codes "v1" ∷ codes "orders" ∷ []

abbrev pub operation_path : List (List ℕ) → List (List ℕ)
operation_path path = path ++ (codes "last_operation" ∷ [])

abbrev pub path_to : Named → List (List ℕ)
path_to catalog = codes "catalog" ∷ []
path_to (instance i) = instance_path i
path_to (instance_operation i) = operation_path (instance_path i)
path_to (binding i b) = binding_path i b
path_to (binding_operation i b) = operation_path (binding_path i b)
path_to orders = orders_path
path_to (order i n) = orders_path ++ (i ∷ n ∷ [])

-- the ids in it
abbrev pub ids_in : Named → List (List ℕ)
ids_in (instance i) = i ∷ []
ids_in (instance_operation i) = i ∷ []
ids_in (binding i b) = i ∷ b ∷ []
ids_in (binding_operation i b) = i ∷ b ∷ []
ids_in (order i n) = i ∷ []
ids_in _ = []

-- none of them is empty
abbrev pub HasIds : Named → Type 0
HasIds named = AllByRecursion (λ id. 0 < length id) (ids_in named)

-- the segments behind the door are the path of the place
pub record IsPathOf (door : Door) (segments : List (List ℕ)) (named : Named) : Type 0 where
  pub door_is : door ≡ door_of named
  pub path_is : segments ≡ path_to named
  pub ids : HasIds named
