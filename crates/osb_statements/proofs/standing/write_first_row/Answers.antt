use Rattle.std.proofs.Common.{rules, None, sym, ap, false}
use Rattle.sqlite.specs.Held.{state}
use Rattle.osb_orders.specs.Lives.{life_of}
use Rattle.osb_standing.specs.Rows.{birth_failed, row_of}
use Rattle.osb_statements.specs.Steps.{content, bare_in}
use Rattle.osb_statements.proofs.NoRowLemmas.{never_had}
use Rattle.osb_statements.proofs.PutLemmas.{instances_stand, one_found}
use Rattle.osb_statements.proofs.BareLemmas.{bare_row_follows, stored_life_bare}
use Rattle.osb_bare.specs.Bare.{bare_order, bare_row}
use Rattle.osb_statements.proofs.standing.write_first_row.Goals as goal
use Rattle.osb_contexts.proofs.StepLemmas.{clean_before}

pub returns-clause-ok : goal.returns-clause-ok
returns-clause-ok g c clean = record {
  steps = search rules;
  stands = λ change written stood.
      let first = state g.S.Store c.args.tx.now.conn.now in
      let new = state g.S.Store c.put_instance-put.new.tx.conn.now in
      let id = c.args.instance.now in
      let put = c.in_ok-put.ensures.ok clean in
      let none = c.requires.no_row (clean_before first new _ c.put_instance-put.ensures.inside.survives clean) put.steps.within.was_open in
      let was = one_found id None (row_of (life_of (bare_in first) id)) (content first).instances none (stood id) in
      let never = never_had (life_of (bare_in first) id) (sym was) in
      let follows = bare_row_follows (life_of (bare_in first) id) change c.args.order.now false None c.in_ok-row.row (stored_life_bare first.now.trees id) written was (λ _. sym (ap birth_failed never)) c.in_ok-row.ensures.row in
      instances_stand (bare_in first) id change (bare_order c.args.order.now) (bare_row c.in_ok-row.row) (content first).instances (content new).instances written follows put.puts stood;
}
