-- That the contexts of lives and their bare orders are the lives, and how the contexts change with them.
use Rattle.std.specs.Prelude.{ℕ, ◌≡◌, ◌≢◌, ◌<◌, true, List, [], ◌∷◌, length, map, filter, option_map}
use Rattle.std.specs.List.{AllByRecursion}
use Rattle.osb_asks.specs.declared.ask.Ask.{Ask}
use Rattle.osb_orders.specs.declared.order.Order.{Order}
use Rattle.osb_orders.specs.declared.order.Outcome.{Outcome}
use Rattle.osb_orders.specs.declared.order.OrderKind.TheVariants.{Create}
use Rattle.osb_orders.specs.declared.order.Change.{Change}
use Rattle.osb_orders.specs.declared.order.Change.TheVariants.{Finish}
use Rattle.osb_orders.specs.Lists.{last_of}
use Rattle.osb_orders.specs.Orders.{is_a}
use Rattle.osb_orders.specs.Life.{standing_of}
use Rattle.osb_orders.specs.Lives.{Lives, life_of}
use Rattle.osb_orders.specs.Changed.{lives_changed}
use Rattle.osb_orders.specs.Named.{subject, named_in}
use Rattle.osb_orders.specs.Listing.{listing}
use Rattle.osb_orders.specs.IsLife.{IsLives}
use Rattle.osb_standing.specs.Rows.{row_of}
use Rattle.osb_standing.specs.Written.{IsWritten}
use Rattle.osb_audit.specs.declared.entry.BindingEntry.{BindingEntry}
use Rattle.osb_audit.specs.Orders.{Entry, lives_in}
use Rattle.osb_audit.specs.Instances.{InstanceEntry}
use Rattle.osb_audit.specs.Audit.{AreRowsOfLives}
use Rattle.osb_bare.specs.Bare.{bare_life, bare_lives, bare_entry}
use Rattle.osb_joined.specs.declared.entry.ContextEntry.{ContextEntry}
use Rattle.osb_joined.specs.Contexts.{AreRising, is_context, context_of_order, context_of_standing, contexts_of}
use Rattle.osb_joined.specs.Joined.{joined_order, joined_life, joined_entry, joined_lives, joined_standing, joined_row}
use Rattle.osb_joined.specs.After.{contexts_after}
use Rattle.osb_joined.specs.Join.{bare_instance_entry, AreJoined}

-- ---- joined again

abbrev pub LivesJoined : Type 0
LivesJoined =
    (lives : Lives) → IsLives lives → joined_lives (contexts_of lives) (bare_lives lives) ≡ lives

abbrev pub StandingJoined : Type 0
StandingJoined =
    (lives : Lives) (id : List ℕ) → IsLives lives →
    option_map (joined_standing (contexts_of lives) id) (standing_of (bare_life (life_of lives id)))
    ≡ standing_of (life_of lives id)

abbrev pub RowJoined : Type 0
RowJoined = (lives : Lives) (id : List ℕ) → IsLives lives →
    option_map (joined_row (contexts_of lives) id) (row_of (bare_life (life_of lives id)))
    ≡ row_of (life_of lives id)

-- any contexts leave the rest of the lives as it is
abbrev pub BareOfJoined : Type 0
BareOfJoined =
    (contexts : List ContextEntry) (lives : Lives) →
    bare_lives (joined_lives contexts lives) ≡ bare_lives lives

abbrev pub LifeOfJoined : Type 0
LifeOfJoined =
    (contexts : List ContextEntry) (lives : Lives) (id : List ℕ) →
    life_of (joined_lives contexts lives) id ≡ joined_life contexts id (life_of lives id)

-- ---- joined order by order

abbrev pub LifeJoined : Type 0
LifeJoined =
    (lives : Lives) (id : List ℕ) → IsLives lives →
    joined_life (contexts_of lives) id (bare_life (life_of lives id)) ≡ life_of lives id

abbrev pub LastJoined : Type 0
LastJoined =
    (lives : Lives) (id : List ℕ) → IsLives lives →
    option_map (joined_order (contexts_of lives) id) (last_of (bare_life (life_of lives id)))
    ≡ last_of (life_of lives id)

abbrev pub NamedJoined : Type 0
NamedJoined =
    (ask : Ask) (lives : Lives) (id : List ℕ) → IsLives lives →
    option_map (joined_order (contexts_of lives) id) (named_in ask (bare_life (life_of lives id)))
    ≡ named_in ask (life_of lives id)

abbrev pub SubjectJoined : Type 0
SubjectJoined =
    (ask : Ask) (lives : Lives) (id : List ℕ) → IsLives lives →
    option_map (joined_order (contexts_of lives) id)
    (last_of (subject ask (bare_life (life_of lives id))))
    ≡ last_of (subject ask (life_of lives id))

abbrev pub ListingJoined : Type 0
ListingJoined =
    (lives : Lives) (after : List ℕ) (limit : ℕ) → IsLives lives →
    map (joined_entry (contexts_of lives)) (listing (bare_lives lives) after limit)
    ≡ listing lives after limit

-- ---- key by key

abbrev pub ContextsRise : Type 0
ContextsRise = (lives : Lives) → IsLives lives → AreRising (contexts_of lives)

abbrev pub ContextOfOrder : Type 0
ContextOfOrder =
    (lives : Lives) (id : List ℕ) → IsLives lives →
    AllByRecursion (λ (order : Order). filter (is_context id order.number) (contexts_of lives)
    ≡ context_of_order id order ∷ []) (life_of lives id)

abbrev pub ContextOfStanding : Type 0
ContextOfStanding =
    (lives : Lives) (id : List ℕ) → IsLives lives → life_of lives id ≢ [] →
    filter (is_context id 0) (contexts_of lives)
    ≡ context_of_standing id (standing_of (life_of lives id)) ∷ []

abbrev pub NoContextOfNoLife : Type 0
NoContextOfNoLife =
    (lives : Lives) (id : List ℕ) (number : ℕ) → life_of lives id ≡ [] →
    filter (is_context id number) (contexts_of lives) ≡ []

-- the numbers of later orders are free
abbrev pub NoContextAbove : Type 0
NoContextAbove =
    (lives : Lives) (id : List ℕ) (number : ℕ) → IsLives lives →
    length (life_of lives id) < number → filter (is_context id number) (contexts_of lives) ≡ []

-- ---- changes

abbrev pub ContextsChanged : Type 0
ContextsChanged =
    (lives : Lives) (id : List ℕ) (change : Change) (order : Order) → IsLives lives →
    IsWritten (life_of lives id) change order →
    contexts_of (lives_changed change id lives) ≡ contexts_after change order id (contexts_of lives)

-- the end of a Create leaves the current context as it is
abbrev pub CreateEnds : Type 0
CreateEnds =
    (lives : Lives) (id : List ℕ) (number : ℕ) (outcome : Outcome) (order : Order) → IsLives lives →
    IsWritten (life_of lives id) (Finish number outcome) order → is_a Create order ≡ true →
    contexts_after (Finish number outcome) order id (contexts_of lives) ≡ contexts_of lives

-- ---- joined lists

abbrev pub JoinedOnce : Type 0
JoinedOnce =
    (contexts : List ContextEntry) (orders : List Entry) (instances : List InstanceEntry)
    (one other : List Entry) (rows others : List InstanceEntry) →
    AreJoined contexts orders instances one rows →
    AreJoined contexts orders instances other others → (one ≡ other) × (rows ≡ others)

-- the contexts of lives join their orders and rows without contexts
abbrev pub RowsOfLivesJoin : Type 0
RowsOfLivesJoin =
    (orders : List Entry) (instances : List InstanceEntry) (bindings : List BindingEntry) →
    AreRowsOfLives orders instances bindings →
    AreJoined (contexts_of (lives_in orders)) (map bare_entry orders)
    (map bare_instance_entry instances) orders instances

-- and no others do
abbrev pub JoinedAreContexts : Type 0
JoinedAreContexts =
    (contexts : List ContextEntry) (orders : List Entry) (instances : List InstanceEntry)
    (joined_orders : List Entry) (joined_instances : List InstanceEntry)
    (bindings : List BindingEntry) →
    AreJoined contexts orders instances joined_orders joined_instances →
    AreRowsOfLives joined_orders joined_instances bindings →
    contexts ≡ contexts_of (lives_in joined_orders)
