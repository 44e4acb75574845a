-- The rows of the table of bindings.
use Rattle.std.specs.Prelude.{◌==◌, if◌then◌else◌, ℕ, pos, [], ◌∷◌}
use Rattle.sqlite.specs.declared.types.Value.TheVariants.{Int, Text as Words}
use Rattle.sqlite.specs.Order.{Row, column, bytes}
use Rattle.osb_orders.specs.declared.view.BindingPhase.{BindingPhase}
use Rattle.osb_orders.specs.declared.view.BindingPhase.TheVariants.{Binding, Bound, Failed, Unbinding}
use Rattle.osb_audit.specs.declared.entry.BindingEntry.{BindingEntry}
use Rattle.osb_statements.specs.Columns.{number_in}

-- ---- what the columns of an entry hold

abbrev pub binding_phase_number : BindingPhase → ℕ
binding_phase_number Binding = 1
binding_phase_number Bound = 2
binding_phase_number Failed = 3
binding_phase_number Unbinding = 4

abbrev pub binding_row : BindingEntry → Row
binding_row entry =
    Words entry.instance
    ∷ Words entry.binding
    ∷ Int (pos (binding_phase_number entry.phase))
    ∷ Words entry.service
    ∷ Words entry.plan
    ∷ Words entry.app_guid
    ∷ Words entry.bind_resource
    ∷ Words entry.parameters
    ∷ Words entry.credentials
    ∷ []

-- ---- the entry that columns hold

abbrev pub binding_phase_numbered : ℕ → BindingPhase
binding_phase_numbered number =
    if number == 1 then Binding
    else if number == 2 then Bound
    else if number == 3 then Failed
    else Unbinding

abbrev pub binding_decoded : Row → BindingEntry
binding_decoded cells = record {
  instance = bytes (column cells 0);
  binding = bytes (column cells 1);
  phase = binding_phase_numbered (number_in (column cells 2));
  service = bytes (column cells 3);
  plan = bytes (column cells 4);
  app_guid = bytes (column cells 5);
  bind_resource = bytes (column cells 6);
  parameters = bytes (column cells 7);
  credentials = bytes (column cells 8);
}

-- the columns of a stored row, which has its rowid first
abbrev pub binding_cells : Row → Row
binding_cells cells =
    column cells 1
    ∷ column cells 2
    ∷ column cells 3
    ∷ column cells 4
    ∷ column cells 5
    ∷ column cells 6
    ∷ column cells 7
    ∷ column cells 8
    ∷ column cells 9
    ∷ []
