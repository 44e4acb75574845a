-- When a life, and a map of lives, is well formed.
use Rattle.std.specs.Prelude.{ℕ, ◌≡◌, ◌≢◌, ◌+◌, ◌≤◌, Bool, true, false, ◌==◌, ◌||◌, List, [], ◌∷◌, ◌++◌, length, IfSome}
use Rattle.std.specs.List.{AllByRecursion}
use Rattle.std.specs.Option.{option_map_or}
use Rattle.std.specs.FinMap.{get}
use Rattle.osb_text.specs.Id.{is_id}
use Rattle.osb_text.specs.ObjectText.{is_object_text}
use Rattle.osb_orders.specs.declared.order.OrderKind.TheVariants.{Create}
use Rattle.osb_orders.specs.declared.order.OrderState.TheVariants.{Running}
use Rattle.osb_orders.specs.declared.order.Attributes.{Attributes}
use Rattle.osb_orders.specs.declared.order.Order.{Order}
use Rattle.osb_orders.specs.Lists.{last_of}
use Rattle.osb_orders.specs.Orders.{is_a, is_now, is_about_binding}
use Rattle.osb_orders.specs.Life.{Life, since_birth}
use Rattle.osb_orders.specs.Lives.{Lives}

abbrev pub is_empty : {A : Type 0} → List A → Bool
is_empty [] = true
is_empty (item ∷ items) = false

-- the orders leave the instance absent
abbrev pub is_absent : Life → Bool
is_absent life = is_empty (since_birth life)

-- the last order runs
abbrev pub ends_running : Life → Bool
ends_running life = option_map_or (is_now Running) (last_of life) false

-- The order may follow these: it has the next number, none of them runs, and it is a Create exactly where they leave the
-- instance absent.
pub record IsNext (before : Life) (order : Order) : Type 0 where
  pub number : order.number ≡ length before + 1
  pub ended : ends_running before ≡ false
  pub creates : is_a Create order ≡ is_absent before

-- each order may follow those before it
abbrev pub IsLifeAfter : Life → Life → Type 0
IsLifeAfter before [] = Unit {0}
IsLifeAfter before (order ∷ later) = IsNext before order × IsLifeAfter (before ++ order ∷ []) later

-- the attributes of an instance
pub record AreOfInstance (attributes : Attributes) : Type 0 where
  pub service : is_id attributes.service ≡ true
  pub plan : is_id attributes.plan ≡ true
  pub organization : is_id attributes.place ≡ true
  pub space : is_id attributes.spot ≡ true
  pub parameters : is_object_text attributes.parameters ≡ true
  pub context : is_object_text attributes.context ≡ true

abbrev pub is_id_or_empty : List ℕ → Bool
is_id_or_empty text = (length text == 0) || is_id text

-- the attributes of a binding
pub record AreOfBinding (attributes : Attributes) : Type 0 where
  pub service : is_id attributes.service ≡ true
  pub plan : is_id attributes.plan ≡ true
  pub app_guid : is_id_or_empty attributes.place ≡ true
  pub bind_resource : is_object_text attributes.spot ≡ true
  pub parameters : is_object_text attributes.parameters ≡ true
  pub context : is_object_text attributes.context ≡ true

-- the binding's id is empty but for orders about a binding
abbrev pub AreValidTexts : Bool → List ℕ → Attributes → Type 0
AreValidTexts false binding attributes = (binding ≡ []) × AreOfInstance attributes
AreValidTexts true binding attributes = (is_id binding ≡ true) × AreOfBinding attributes

-- the ids are id texts, and the objects compact texts
pub record HasValidTexts (order : Order) : Type 0 where
  pub texts : AreValidTexts (is_about_binding order.kind) order.binding order.attributes
  pub credentials : is_object_text order.outcome.credentials ≡ true

pub record IsLife (life : Life) : Type 0 where
  pub count : length life ≤ 1000000
  pub orders : IsLifeAfter [] life
  pub texts : AllByRecursion HasValidTexts life

-- the id is an id text, and the instance has or had orders
pub record IsInstance (instance : List ℕ) (orders : Life) : Type 0 where
  pub id : is_id instance ≡ true
  pub opened : orders ≢ []
  pub life : IsLife orders

abbrev pub IsLives : Lives → Type 0
IsLives lives = (id : List ℕ) → IfSome (get lives id) (IsInstance id)
