use Rattle.std.proofs.Common.{◌≡◌, map, take}
use Rattle.osb_contexts.specs.Format.{version_row}
use Rattle.osb_statements.specs.Read.{version_columns}
use Rattle.osb_statements.proofs.format.versions_in.Given as goal

abbrev pub invariant-loop-row : goal.invariant-loop-row
invariant-loop-row l = map version_row l.versions.items ≡ map version_columns (take l.row-index l.rows)
