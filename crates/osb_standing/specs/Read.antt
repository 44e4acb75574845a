-- What is read of the rows and of the orders for an ask.
use Rattle.std.specs.Prelude.{ℕ, ◌≡◌, List, option_and_then}
use Rattle.std.specs.FinMap.{get}
use Rattle.osb_asks.specs.declared.ask.Ask.{Ask}
use Rattle.osb_orders.specs.declared.order.Order.{Order}
use Rattle.osb_orders.specs.Lists.{last_of}
use Rattle.osb_orders.specs.Life.{Life}
use Rattle.osb_orders.specs.Lives.{Lives, named_life}
use Rattle.osb_asks.specs.Subjects.{instance_id_of, binding_id_of}
use Rattle.osb_orders.specs.Named.{subject, named_in}
use Rattle.osb_orders.specs.Listing.{listing_for}
use Rattle.osb_standing.specs.declared.read.Read.{Read}
use Rattle.osb_standing.specs.Rows.{row_of, bindings_of}
use Rattle.osb_standing.specs.Laws.{has_rows}

-- each part is what the rows of the life, its orders and the listing say
pub record IsReadOf (life : Life) (listing : List (List ℕ × Order)) (ask : Ask)
    (read : Read) : Type 0 where
  pub row : read.row ≡ row_of life
  pub last : read.last ≡ last_of life
  pub binding : read.binding ≡ option_and_then (λ id. get (bindings_of life) id) (binding_id_of ask)
  pub named : read.named ≡ named_in ask life
  pub subject_last : read.subject_last ≡ last_of (subject ask life)
  pub bound : read.bound ≡ has_rows (bindings_of life)
  pub listed : read.listing.items ≡ listing

-- read for the ask of these lives
abbrev pub IsReadFor : Lives → Ask → Read → Type 0
IsReadFor lives ask read =
    IsReadOf (named_life lives (instance_id_of ask)) (listing_for lives ask) ask read
