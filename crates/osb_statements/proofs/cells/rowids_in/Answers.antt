use Rattle.sqlite_trees.specs.Tree.{rowid}
use Rattle.osb_contexts.specs.Read.{rowid_shown}
use Rattle.osb_statements.proofs.cells.rowids_in.Goals as goal
use Rattle.osb_contexts.proofs.ReadLemmas.{told_more}

pub loop-row-preserved : goal.loop-row-preserved
loop-row-preserved c = told_more rowid_shown rowid c.args.rows.now c.loop-row.row-index c.row-item.result c.loop-row.ids.items c.push.new.self.items _ c.loop-row-test.true c.row-item.is c.loop-row.invariant c.in_ok-rowid_in.ensures.told c.in_ok-push.ensures.items
