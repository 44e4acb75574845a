-- The view of the lives, put together.
use Rattle.std.proofs.Common.{◌≡◌, List, [], ◌∙◌, ap, ℕ}
use Rattle.osb_asks.specs.declared.ask.Ask.{Ask}
use Rattle.osb_orders.specs.declared.order.Order.{Order}
use Rattle.osb_orders.specs.Life.{Life}
use Rattle.osb_orders.specs.Lives.{Lives, named_life}
use Rattle.osb_asks.specs.Subjects.{instance_id_of}
use Rattle.osb_orders.specs.Listing.{listing_for}
use Rattle.osb_orders.specs.ViewData.{ViewData, view_data_of, view_of}

pub viewed : (lives : Lives) (ask : Ask) (life : Life) (pairs : List (List ℕ × Order)) (found : ViewData) → found ≡ record (view_data_of life [] ask) { listing = pairs } → life ≡ named_life lives (instance_id_of ask) → pairs ≡ listing_for lives ask → found ≡ view_of lives ask
viewed lives ask life pairs found is of listed =
    is
    ∙ ap (λ life. record (view_data_of life [] ask) { listing = pairs }) of
    ∙ ap (λ pairs. record (view_data_of (named_life lives (instance_id_of ask)) [] ask) { listing = pairs }) listed
