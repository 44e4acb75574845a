-- What bare lives say beside the lives that they are made of.
use Rattle.std.specs.Prelude.{ℕ, ◌≡◌, Bool, List, map, Option, option_map, unwrap_or}
use Rattle.std.specs.List.{AllByRecursion}
use Rattle.osb_asks.specs.declared.ask.Ask.{Ask}
use Rattle.osb_orders.specs.declared.order.Order.{Order}
use Rattle.osb_orders.specs.declared.order.Change.{Change}
use Rattle.osb_orders.specs.declared.view.BindingNow.{BindingNow}
use Rattle.osb_orders.specs.Lists.{last_of}
use Rattle.osb_orders.specs.Orders.{empty_object}
use Rattle.osb_orders.specs.Life.{Life, standing_of}
use Rattle.osb_orders.specs.Bindings.{has_bindings}
use Rattle.osb_orders.specs.Lives.{Lives, life_of}
use Rattle.osb_orders.specs.Changed.{changed, lives_changed}
use Rattle.osb_orders.specs.Named.{subject, named_in}
use Rattle.osb_orders.specs.Listing.{listing}
use Rattle.osb_orders.specs.IsLife.{IsLife, IsLives}
use Rattle.osb_orders.specs.Allowed.{IsAllowed}
use Rattle.osb_standing.specs.declared.row.InstanceRow.{InstanceRow}
use Rattle.osb_standing.specs.Rows.{row_of, birth_failed, bindings_of}
use Rattle.osb_standing.specs.Written.{order_written, IsWritten}
use Rattle.osb_standing.specs.Instance.{row_after}
use Rattle.osb_standing.specs.Binding.{edit_of}
use Rattle.osb_audit.specs.Orders.{Entry, lives_in}
use Rattle.osb_audit.specs.declared.counting.Counts.{Counts}
use Rattle.osb_audit.specs.Counts.{AreCounts}
use Rattle.osb_audit.specs.Plans.{plans_in_use}
use Rattle.osb_bare.specs.Bare.{bare_order, bare_life, bare_lives, bare_change, bare_entry, bare_standing, bare_row}
use Rattle.osb_bare.specs.Context.{standing_context, context_edit}

-- ---- the lives

abbrev pub BareLivesHaveNoContext : Type 0
BareLivesHaveNoContext =
    (life : Life) →
    AllByRecursion (λ order. order.attributes.context ≡ empty_object) (bare_life life)

abbrev pub BareLivesAreWellFormed : Type 0
BareLivesAreWellFormed = (lives : Lives) → IsLives lives → IsLives (bare_lives lives)

abbrev pub LifeOfBare : Type 0
LifeOfBare =
    (lives : Lives) (id : List ℕ) → life_of (bare_lives lives) id ≡ bare_life (life_of lives id)

abbrev pub LivesInBare : Type 0
LivesInBare =
    (entries : List Entry) → lives_in (map bare_entry entries) ≡ bare_lives (lives_in entries)

-- ---- what the rows say

abbrev pub StandingOfBare : Type 0
StandingOfBare =
    (life : Life) → standing_of (bare_life life) ≡ option_map bare_standing (standing_of life)

abbrev pub RowOfBare : Type 0
RowOfBare = (life : Life) → row_of (bare_life life) ≡ option_map bare_row (row_of life)

abbrev pub BindingsOfBare : Type 0
BindingsOfBare = (life : Life) → bindings_of (bare_life life) ≡ bindings_of life

abbrev pub BareBindingsRemain : Type 0
BareBindingsRemain = (life : Life) → has_bindings (bare_life life) ≡ has_bindings life

abbrev pub BirthOfBare : Type 0
BirthOfBare = (life : Life) → birth_failed (bare_life life) ≡ birth_failed life

-- ---- what an ask needs to know

abbrev pub LastOfBare : Type 0
LastOfBare = (life : Life) → last_of (bare_life life) ≡ option_map bare_order (last_of life)

abbrev pub NamedInBare : Type 0
NamedInBare =
    (ask : Ask) (life : Life) → named_in ask (bare_life life)
    ≡ option_map bare_order (named_in ask life)

abbrev pub SubjectOfBare : Type 0
SubjectOfBare =
    (ask : Ask) (life : Life) → subject ask (bare_life life) ≡ bare_life (subject ask life)

abbrev pub ListingOfBare : Type 0
ListingOfBare =
    (lives : Lives) (after : List ℕ) (limit : ℕ) →
    listing (bare_lives lives) after limit ≡ map bare_entry (listing lives after limit)

abbrev pub PlansOfBare : Type 0
PlansOfBare = (lives : Lives) → plans_in_use (bare_lives lives) ≡ plans_in_use lives

-- nothing that is counted looks at a context
abbrev pub CountsOfBare : Type 0
CountsOfBare =
    (lives : Lives) (counts : Counts) → AreCounts (bare_lives lives) counts → AreCounts lives counts

-- ---- changes

abbrev pub BareLifeChanged : Type 0
BareLifeChanged =
    (change : Change) (life : Life) →
    changed (bare_change change) (bare_life life) ≡ bare_life (changed change life)

abbrev pub BareLivesChanged : Type 0
BareLivesChanged =
    (change : Change) (id : List ℕ) (lives : Lives) →
    lives_changed (bare_change change) id (bare_lives lives)
    ≡ bare_lives (lives_changed change id lives)

abbrev pub BareOrderWritten : Type 0
BareOrderWritten =
    (last : Option Order) (change : Change) →
    order_written (option_map bare_order last) (bare_change change)
    ≡ option_map bare_order (order_written last change)

abbrev pub BareLifeIsWellFormed : Type 0
BareLifeIsWellFormed = (life : Life) → IsLife life → IsLife (bare_life life)

abbrev pub BareChangeIsAllowed : Type 0
BareChangeIsAllowed =
    (life : Life) (change : Change) → IsAllowed life change →
    IsAllowed (bare_life life) (bare_change change)

-- ---- what an order that is written does

abbrev pub RowAfterBare : Type 0
RowAfterBare =
    (birth_failed : Bool) (order : Order) (old : Option InstanceRow) →
    row_after birth_failed (bare_order order) (option_map bare_row old)
    ≡ bare_row (row_after birth_failed order old)

abbrev pub EditOfBare : Type 0
EditOfBare =
    (order : Order) (old : Option BindingNow) → edit_of (bare_order order) old ≡ edit_of order old

-- the current context needs no look at the one before it
abbrev pub ContextStands : Type 0
ContextStands =
    (life : Life) (change : Change) (order : Order) → IsWritten life change order →
    standing_context (standing_of (changed change life))
    ≡ unwrap_or (context_edit order) (standing_context (standing_of life))
