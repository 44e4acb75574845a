use Rattle.std.proofs.Common.{rules, ap, ◌∙◌}
use Rattle.sqlite.specs.Held.{state}
use Rattle.sqlite.specs.Effect.{Database}
use Rattle.osb_statements.specs.Stored.{instances_in}
use Rattle.osb_statements.proofs.PutLemmas.{written_stands}
use Rattle.osb_bare.specs.Bare.{bare_order, bare_row}
use Rattle.osb_statements.proofs.standing.write_next_row.Goals as goal
use Rattle.osb_contexts.proofs.StepLemmas.{clean_before}

pub returns-clause-ok : goal.returns-clause-ok
returns-clause-ok g c clean = record {
  steps = search rules;
  stands = λ change written stood.
      let first = state g.S.Store c.args.tx.now.conn.now in
      let read = state g.S.Store c.read_instance.new.tx.conn.now in
      let last = state g.S.Store c.next_row.new.tx.conn.now in
      let new = state g.S.Store c.put_instance-put.new.tx.conn.now in
      let clean_last = clean_before last new _ c.put_instance-put.ensures.inside.survives clean in
      let clean_read = clean_before read last _ c.next_row.ensures.reads.survives clean_last in
      let same = c.in_ok-old.ensures.reads.same clean_read in
      let same_again = c.in_ok-row.ensures.reads.same clean_last same.0.is_open in
      let id = c.args.instance.now in
      written_stands id (bare_order c.args.order.now) (bare_row c.in_ok-row.row) c.in_ok-old.old first.now.trees read.now.trees last.now.trees (instances_in new.now.trees) (ap (λ (d : Database). d.trees) same.0.now_is) (ap (λ (d : Database). d.trees) same_again.0.now_is)
      (c.in_ok-old.ensures.ok clean_read)
      (λ any given told. c.in_ok-row.ensures.ok clean_last any given (c.as_ref.ensures.value ∙ told))
      (c.in_ok-put.ensures.ok clean).puts change written stood;
}
