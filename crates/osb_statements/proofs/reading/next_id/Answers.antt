use Rattle.std.proofs.Common.{rules, ◌≡◌, ℕ, List, [], None, Some, sym, subst}
use Rattle.std.specs.Prelude.{slice_get}
use Rattle.osb_contexts.specs.Reads.{behind}
use Rattle.osb_contexts.proofs.StepLemmas.{clean_before}
use Rattle.osb_statements.specs.NextId.{IsNextId}
use Rattle.osb_statements.specs.Steps.{bare_in, content}
use Rattle.osb_statements.proofs.NextLemmas.{next_joined, none_read, one_read}
use Rattle.osb_statements.proofs.reading.next_id.Goals as goal

pub returns-in-Some-clause-ok : goal.returns-in-Some-clause-ok
returns-in-Some-clause-ok g c clean =
    let old = behind g.S.Store c.args.tx.now in
    let new = behind g.S.Store c.select_next.new.tx in
    let reads = c.in_ok-rows.ensures.reads in
    let has = c.requires (clean_before old new _ reads.survives clean) (reads.same clean).0.was_open in
    let found : slice_get c.in_ok-rows.rows.items 0 ≡ Some c.in-Some.row.now = search rules in
    next_joined old.now has c.args.after.now (Some c.in_ok-text_in-in-Some.field-0)
    (subst (λ (id : List ℕ). IsNextId (bare_in old) c.args.after.now (Some id)) (sym c.in_ok-text_in-in-Some.ensures.told)
    (one_read (bare_in old) (content old).instances has.records.tables.holds.instances.rising has.records.standing.instances c.args.after.now c.in_ok-rows.rows.items c.in-Some.row.now (c.in_ok-rows.ensures.ok clean) found))

pub returns-clause-ok : goal.returns-clause-ok
returns-clause-ok g c clean =
    let old = behind g.S.Store c.args.tx.now in
    let new = behind g.S.Store c.select_next.new.tx in
    let reads = c.in_ok-rows.ensures.reads in
    let has = c.requires (clean_before old new _ reads.survives clean) (reads.same clean).0.was_open in
    let none : c.in_ok-rows.rows.items ≡ [] = search rules in
    next_joined old.now has c.args.after.now None
    (none_read (bare_in old) (content old).instances has.records.tables.holds.instances.rising has.records.standing.instances c.args.after.now c.in_ok-rows.rows.items (c.in_ok-rows.ensures.ok clean) none)
