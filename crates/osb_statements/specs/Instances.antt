-- The rows of the table of instances.
use Rattle.std.specs.Prelude.{Bool, ◌==◌, if◌then◌else◌, ℕ, pos, [], ◌∷◌, ◌++◌, Option, None, Some}
use Rattle.sqlite.specs.declared.types.Value.TheVariants.{Int, Text as Words}
use Rattle.sqlite.specs.Order.{Row, column, bytes}
use Rattle.osb_orders.specs.declared.order.Attributes.{Attributes}
use Rattle.osb_orders.specs.declared.view.InstancePhase.{InstancePhase}
use Rattle.osb_orders.specs.declared.view.InstancePhase.TheVariants.{Creating, Ready, Failed, Updating, Deleting}
use Rattle.osb_orders.specs.declared.view.Standing.{Standing}
use Rattle.osb_standing.specs.declared.row.InstanceRow.{InstanceRow}
use Rattle.osb_audit.specs.Instances.{InstanceEntry}
use Rattle.osb_statements.specs.Columns.{number_in, attributes_decoded}

-- ---- what the columns of an entry hold

abbrev pub instance_phase_number : InstancePhase → ℕ
instance_phase_number Creating = 1
instance_phase_number Ready = 2
instance_phase_number Failed = 3
instance_phase_number Updating = 4
instance_phase_number Deleting = 5

-- 0 where the instance is absent
abbrev pub standing_number : Option Standing → ℕ
standing_number None = 0
standing_number (Some standing) = instance_phase_number standing.phase

abbrev pub no_attributes : Attributes
no_attributes =
    record {
      service = [];
      plan = [];
      place = [];
      spot = [];
      parameters = [];
      maintenance = [];
      context = [];
    }

-- empty texts where the instance is absent
abbrev pub attributes_shown : Option Standing → Attributes
attributes_shown None = no_attributes
attributes_shown (Some standing) = standing.attributes

abbrev pub busy_number : Bool → ℕ
busy_number busy = if busy then 1 else 0

abbrev pub standing_row : InstanceRow → Row
standing_row row =
    Int (pos (standing_number row.standing))
    ∷ Int (pos (busy_number row.busy))
    ∷ Int (pos row.last_number)
    ∷ Words (attributes_shown row.standing).service
    ∷ Words (attributes_shown row.standing).plan
    ∷ Words (attributes_shown row.standing).place
    ∷ Words (attributes_shown row.standing).spot
    ∷ Words (attributes_shown row.standing).parameters
    ∷ Words (attributes_shown row.standing).maintenance
    ∷ []

-- with the id of the instance
abbrev pub instance_row : InstanceEntry → Row
instance_row entry = Words entry.0 ∷ standing_row entry.1

-- ---- the entry that columns hold

abbrev pub instance_phase_numbered : ℕ → InstancePhase
instance_phase_numbered number =
    if number == 1 then Creating
    else if number == 2 then Ready
    else if number == 3 then Failed
    else if number == 4 then Updating
    else Deleting

abbrev pub standing_decoded : ℕ → Attributes → Option Standing
standing_decoded number attributes =
    if number == 0 then None
    else Some (record { phase = instance_phase_numbered number; attributes = attributes })

abbrev pub instance_row_decoded : Row → InstanceRow
instance_row_decoded cells = record {
  standing = standing_decoded (number_in (column cells 1)) (attributes_decoded cells);
  busy = number_in (column cells 2) == 1;
  last_number = number_in (column cells 3);
}

-- with the id of the instance
abbrev pub instance_decoded : Row → InstanceEntry
instance_decoded cells = (bytes (column cells 0), instance_row_decoded cells)

-- the columns of an instance in a row that was read
abbrev pub standing_columns : Row → Row
standing_columns cells =
    column cells 1
    ∷ column cells 2
    ∷ column cells 3
    ∷ column cells 4
    ∷ column cells 5
    ∷ column cells 6
    ∷ column cells 7
    ∷ column cells 8
    ∷ column cells 9
    ∷ []

-- the columns of a stored row, which has its rowid first
abbrev pub instance_cells : Row → Row
instance_cells cells = standing_columns cells ++ column cells 10 ∷ []
