-- What an ask needs to know of the lives.
use Rattle.std.specs.Prelude.{ℕ, Bool, List, length, Option, option_and_then}
use Rattle.osb_text.specs.Names.{Id}
use Rattle.osb_asks.specs.declared.ask.Ask.{Ask}
use Rattle.osb_orders.specs.declared.order.Order.{Order}
use Rattle.osb_orders.specs.declared.view.Standing.{Standing}
use Rattle.osb_orders.specs.declared.view.BindingNow.{BindingNow}
use Rattle.osb_orders.specs.declared.view.View.{View}
use Rattle.osb_orders.specs.Lists.{last_of}
use Rattle.osb_orders.specs.Life.{Life, standing_of}
use Rattle.osb_orders.specs.Bindings.{binding_of, has_bindings}
use Rattle.osb_orders.specs.Lives.{Lives, named_life}
use Rattle.osb_asks.specs.Subjects.{instance_id_of, binding_id_of}
use Rattle.osb_orders.specs.Named.{subject, named_in}
use Rattle.osb_orders.specs.Listing.{listing_for}

pub record ViewData : Type 0 where
  pub standing : Option Standing
  pub last : Option Order
  pub binding : Option BindingNow
  pub named : Option Order
  pub subject_last : Option Order
  pub count : ℕ
  pub bound : Bool
  pub listing : List (Id × Order)

-- the facts that a view has
abbrev pub data_in : View → ViewData
data_in view =
    record {
      standing = view.standing;
      last = view.last;
      binding = view.binding;
      named = view.named;
      subject_last = view.subject_last;
      count = view.count;
      bound = view.bound;
      listing = view.listing.items;
    }

-- the facts for an ask, from the life that it names and the running orders
abbrev pub view_data_of : Life → List (Id × Order) → Ask → ViewData
view_data_of life listing ask = record {
  standing = standing_of life;
  last = last_of life;
  binding = option_and_then (λ id. binding_of id life) (binding_id_of ask);
  named = named_in ask life;
  subject_last = last_of (subject ask life);
  count = length life;
  bound = has_bindings life;
  listing = listing;
}

-- the view of the lives for an ask
abbrev pub view_of : Lives → Ask → ViewData
view_of lives ask = view_data_of (named_life lives (instance_id_of ask)) (listing_for lives ask) ask
