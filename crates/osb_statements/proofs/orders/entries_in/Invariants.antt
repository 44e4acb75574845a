use Rattle.std.proofs.Common.{◌≡◌, map, take}
use Rattle.osb_rows.specs.Rows.{AreInUtf8}
use Rattle.osb_statements.specs.Stored.{AreBare, entry_row}
use Rattle.osb_statements.specs.Read.{entry_columns}
use Rattle.osb_statements.proofs.orders.entries_in.Given as goal

abbrev pub invariant-loop-row : goal.invariant-loop-row
invariant-loop-row l = (map entry_row l.entries.items ≡ map entry_columns (take l.row-index l.rows)) × AreBare l.entries.items × AreInUtf8 entry_row l.entries.items
