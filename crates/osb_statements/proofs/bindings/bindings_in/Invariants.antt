use Rattle.std.proofs.Common.{◌≡◌, map, take}
use Rattle.osb_rows.specs.Rows.{AreInUtf8}
use Rattle.osb_statements.specs.Bindings.{binding_row}
use Rattle.osb_statements.specs.Read.{binding_columns}
use Rattle.osb_statements.proofs.bindings.bindings_in.Given as goal

abbrev pub invariant-loop-row : goal.invariant-loop-row
invariant-loop-row l = (map binding_row l.entries.items ≡ map binding_columns (take l.row-index l.rows)) × AreInUtf8 binding_row l.entries.items
