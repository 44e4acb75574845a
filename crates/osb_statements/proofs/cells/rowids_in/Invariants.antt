use Rattle.std.proofs.Common.{◌≡◌, map, take}
use Rattle.sqlite_trees.specs.Tree.{rowid}
use Rattle.osb_contexts.specs.Read.{rowid_shown}
use Rattle.osb_statements.proofs.cells.rowids_in.Given as goal

abbrev pub invariant-loop-row : goal.invariant-loop-row
invariant-loop-row l = map rowid_shown l.ids.items ≡ map rowid (take l.row-index l.rows)
