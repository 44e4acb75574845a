-- What single columns mean, and what reading them gives.
use Rattle.std.specs.Prelude.{ℕ, pos, [], ◌∷◌}
use Rattle.sqlite.specs.declared.types.Value.{Value}
use Rattle.sqlite.specs.declared.types.Value.TheVariants.{Int, Text as Words}
use Rattle.sqlite.specs.Order.{Row, column, bytes}
use Rattle.osb_orders.specs.declared.order.Attributes.{Attributes}
use Rattle.osb_orders.specs.Orders.{empty_object}

abbrev pub number_in : Value → ℕ
number_in (Int (pos n)) = n
number_in _ = 0

-- what the columns of attributes hold
abbrev pub attributes_row : Attributes → Row
attributes_row attributes =
    Words attributes.service
    ∷ Words attributes.plan
    ∷ Words attributes.place
    ∷ Words attributes.spot
    ∷ Words attributes.parameters
    ∷ Words attributes.maintenance
    ∷ []

-- the attributes that the columns of an order or of an instance hold; the context isn't one of them
abbrev pub attributes_decoded : Row → Attributes
attributes_decoded cells = record {
  service = bytes (column cells 4);
  plan = bytes (column cells 5);
  place = bytes (column cells 6);
  spot = bytes (column cells 7);
  parameters = bytes (column cells 8);
  maintenance = bytes (column cells 9);
  context = empty_object;
}
