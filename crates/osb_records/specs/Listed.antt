-- The view for an ask about no instance. For contracts inside the crate.
use Rattle.std.specs.Prelude.{ℕ, List, None, false}
use Rattle.osb_orders.specs.declared.order.Order.{Order}
use Rattle.osb_orders.specs.ViewData.{ViewData}

-- the view for an ask about no instance
abbrev pub listed_facts : List (List ℕ × Order) → ViewData
listed_facts listing =
    record {
      standing = None;
      last = None;
      binding = None;
      named = None;
      subject_last = None;
      count = 0;
      bound = false;
      listing = listing;
    }
