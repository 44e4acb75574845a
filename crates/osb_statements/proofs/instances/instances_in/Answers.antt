use Rattle.std.proofs.Common.{rules, sym, subst}
use Rattle.osb_statements.specs.Instances.{instance_row}
use Rattle.osb_statements.specs.Read.{InstanceFits, instance_columns}
use Rattle.osb_statements.specs.Stored.{AreBareRows}
use Rattle.osb_statements.proofs.BareLemmas.{all_pushed}
use Rattle.osb_statements.proofs.instances.instances_in.Goals as goal
use Rattle.osb_contexts.proofs.ReadLemmas.{told_more, row_of, row_in_utf8, utf8_more}

pub loop-row-preserved : goal.loop-row-preserved
loop-row-preserved c = (
  told_more instance_row instance_columns c.args.rows.now c.loop-row.row-index c.row-item.result c.loop-row.entries.items c.push.new.self.items _ c.loop-row-test.true c.row-item.is c.loop-row.invariant.0 c.in_ok-instance_in.ensures.entry.told c.in_ok-push.ensures.items,
  subst AreBareRows (sym c.in_ok-push.ensures.items) (all_pushed _ c.loop-row.entries.items _ c.loop-row.invariant.1 c.in_ok-instance_in.ensures.bare),
  utf8_more instance_row c.loop-row.entries.items c.push.new.self.items _ c.loop-row.invariant.2 c.in_ok-instance_in.ensures.entry.texts c.in_ok-push.ensures.items,
)

pub returns-in_err-instance_in-clause-known : goal.returns-in_err-instance_in-clause-known
returns-in_err-instance_in-clause-known c entries are fit texts is =
    let at = row_of instance_row InstanceFits c.args.rows.now entries c.loop-row.row-index c.row-item.result c.loop-row-test.true c.row-item.is are fit in
    let utf8 = row_in_utf8 instance_row c.args.rows.now entries c.loop-row.row-index c.row-item.result c.loop-row-test.true c.row-item.is are texts in
    c.in_err-instance_in.ensures.entry.known at.0 at.1 at.2 utf8 (search rules)
