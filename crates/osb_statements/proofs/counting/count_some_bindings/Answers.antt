use Rattle.std.proofs.Common.{rules, ◌≡◌, ◌+◌, length, ap, ◌∙◌}
use Rattle.osb_contexts.specs.Reads.{behind}
use Rattle.osb_contexts.proofs.StepLemmas.{clean_before}
use Rattle.osb_statements.proofs.TableReads.{some_bindings_counted}
use Rattle.osb_statements.proofs.WholeTexts.{some_binding_rowids_is}
use Rattle.osb_statements.proofs.counting.count_some_bindings.Goals as goal

pub select-requires-clause-plain : goal.select-requires-clause-plain
select-requires-clause-plain g c = some_binding_rowids_is.2

pub returns-in-Some-clause-ok : goal.returns-in-Some-clause-ok
returns-in-Some-clause-ok g c clean =
    let old = behind g.S.Store c.args.tx.now in
    let new = behind g.S.Store c.select.new.tx in
    let same = c.in_ok-rows.ensures.reads.same clean in
    let has = c.requires (clean_before old new _ c.select.ensures.reads.survives clean) same.0.was_open in
    let summed : c.in-Some.sum ≡ c.args.counted + length c.in_ok-rows.rows.items = search rules in
    summed ∙ ap (λ n. c.args.counted + n) (some_bindings_counted old new has c.in_ok-rows.rows.items c.args.after.now _ (rw (c.as_bytes.ensures.value) at (c.in_ok-rows.ensures.ok clean)))
