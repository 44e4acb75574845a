use Rattle.std.proofs.Common.{rules, ◌≡◌, IsTrue, ap}
use Rattle.sqlite.specs.Held.{state}
use Rattle.osb_contexts.specs.Reads.{behind}
use Rattle.osb_statements.proofs.StepLemmas.{ready_of, tables_along, lives_along, standing_along, contexts_along}
use Rattle.osb_records.proofs.ChangesLemmas.{all_goes, crash_through, goes_kept, inside_begun}
use Rattle.osb_records.proofs.changes.make_all.Goals as goal

pub make_all_in-requires-clause-inside : goal.make_all_in-requires-clause-inside
make_all_in-requires-clause-inside g c =
    let old = state g.S.Store c.args.conn.now in
    let begun = state g.S.Store c.transaction-tx.result.conn.now in
    inside_begun old begun
    (ap (λ held. (state g.S.Store held).now) c.transaction-tx.ensures.begun)
    (ap (λ held. (state g.S.Store held).in_transaction) c.transaction-tx.ensures.begun)
    (λ clean. search rules) (λ live. search rules) c.requires.ready (λ live. (c.schema.ensures.live live).0)

pub returns-in_err-commit-clause-ready : goal.returns-in_err-commit-clause-ready
returns-in_err-commit-clause-ready g c = ready_of _ c.commit.result (search rules) (λ clean live. search (goes_kept, rules)) (λ clean live. search (tables_along, lives_along, standing_along, contexts_along, rules))

pub returns-clause-becomes : goal.returns-clause-becomes
returns-clause-becomes g c =
    let old = state g.S.Store c.args.conn.now in
    let begun = state g.S.Store c.transaction-tx.result.conn.now in
    let mid = behind g.S.Store c.make_all_in.new.tx in
    let same : begun.now ≡ old.now = ap (λ held. (state g.S.Store held).now) c.transaction-tx.ensures.begun in
    let goes = all_goes old begun mid c.args.changes.now same in
    record {
      ok = λ clean. search rules;
      err = λ clean live. search rules;
      was_open = λ clean live. search rules;
      found_open = λ clean. search rules;
      durable = λ clean. search rules;
      crash = crash_through old begun mid _ c.args.changes.now (search rules) c.in_ok-make_all_in.ensures.inside.survives (search rules) same (λ live. search rules) c.requires.more c.in_ok-make_all_in.ensures.ok;
    }

pub returns-in_err-commit-clause-becomes : goal.returns-in_err-commit-clause-becomes
returns-in_err-commit-clause-becomes g c =
    let old = state g.S.Store c.args.conn.now in
    let begun = state g.S.Store c.transaction-tx.result.conn.now in
    let mid = behind g.S.Store c.make_all_in.new.tx in
    let same : begun.now ≡ old.now = ap (λ held. (state g.S.Store held).now) c.transaction-tx.ensures.begun in
    let goes = all_goes old begun mid c.args.changes.now same in
    record {
      ok = λ clean. search rules;
      err = λ clean live. search rules;
      was_open = λ clean live. search rules;
      found_open = λ clean. search rules;
      durable = λ clean. search rules;
      crash = crash_through old begun mid _ c.args.changes.now (search rules) c.in_ok-make_all_in.ensures.inside.survives (search rules) same (λ live. search rules) c.requires.more c.in_ok-make_all_in.ensures.ok;
    }
