use Rattle.std.proofs.Common.{◌≡◌, map, take}
use Rattle.osb_rows.specs.Rows.{AreInUtf8}
use Rattle.osb_statements.specs.Instances.{instance_row}
use Rattle.osb_statements.specs.Read.{instance_columns}
use Rattle.osb_statements.specs.Stored.{AreBareRows}
use Rattle.osb_statements.proofs.instances.instances_in.Given as goal

abbrev pub invariant-loop-row : goal.invariant-loop-row
invariant-loop-row l = (map instance_row l.entries.items ≡ map instance_columns (take l.row-index l.rows)) × AreBareRows l.entries.items × AreInUtf8 instance_row l.entries.items
