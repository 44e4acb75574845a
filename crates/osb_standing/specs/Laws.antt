-- What the rows say of the lives.
use Rattle.std.specs.Prelude.{ℕ, ◌≡◌, Bool, not, List, length, Option, None, Some}
use Rattle.std.specs.FinMap.{get, entries}
use Rattle.osb_orders.specs.Life.{Life, standing_of}
use Rattle.osb_orders.specs.Bindings.{binding_of, has_bindings}
use Rattle.osb_orders.specs.Lives.{Lives}
use Rattle.osb_orders.specs.Listing.{listing}
use Rattle.osb_orders.specs.IsLife.{is_empty, IsLife, IsLives}
use Rattle.osb_standing.specs.declared.row.InstanceRow.{InstanceRow}
use Rattle.osb_standing.specs.Rows.{row_of, standing_in, Bindings, bindings_of}
use Rattle.osb_standing.specs.Listing.{listing_by_rows}

-- the last number of a row, 0 where there is none
abbrev pub count_in : Option InstanceRow → ℕ
count_in None = 0
count_in (Some row) = row.last_number

-- some binding has a row
abbrev pub has_rows : Bindings → Bool
has_rows rows = not (is_empty (entries rows))

-- the row says the state of the instance
abbrev pub StandingIsInTheRow : Type 0
StandingIsInTheRow = (life : Life) → standing_in (row_of life) ≡ standing_of life

-- the last number is the count of the orders
abbrev pub CountIsTheLastNumber : Type 0
CountIsTheLastNumber = (life : Life) → IsLife life → count_in (row_of life) ≡ length life

-- a look-up in the rows of the bindings finds the binding
abbrev pub BindingsAre : Type 0
BindingsAre = (life : Life) (id : List ℕ) → get (bindings_of life) id ≡ binding_of id life

-- a binding remains exactly where one has a row
abbrev pub BindingsRemain : Type 0
BindingsRemain = (life : Life) → has_rows (bindings_of life) ≡ has_bindings life

-- the listing is that of the busy rows, each with the order of its last number
abbrev pub ListedByRows : Type 0
ListedByRows =
    (lives : Lives) (after : List ℕ) (limit : ℕ) → IsLives lives →
    listing lives after limit ≡ listing_by_rows lives after limit
