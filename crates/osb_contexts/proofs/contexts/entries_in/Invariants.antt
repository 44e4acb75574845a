use Rattle.std.proofs.Common.{◌≡◌, map, take}
use Rattle.osb_rows.specs.Rows.{AreInUtf8}
use Rattle.osb_contexts.specs.Contexts.{context_row}
use Rattle.osb_contexts.specs.Read.{context_columns}
use Rattle.osb_contexts.proofs.contexts.entries_in.Given as goal

abbrev pub invariant-loop-row : goal.invariant-loop-row
invariant-loop-row l = (map context_row l.entries.items ≡ map context_columns (take l.row-index l.rows)) × AreInUtf8 context_row l.entries.items
