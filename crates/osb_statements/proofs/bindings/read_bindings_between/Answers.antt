use Rattle.std.proofs.Common.{ap, map, ◌∙◌}
use Rattle.osb_contexts.specs.Reads.{behind}
use Rattle.osb_contexts.proofs.StepLemmas.{clean_before}
use Rattle.osb_rows.proofs.ResultLemmas.{if_ok}
use Rattle.osb_statements.specs.Read.{binding_columns}
use Rattle.osb_statements.proofs.TableReads.{some_bindings_read, some_bindings_shown}
use Rattle.osb_statements.proofs.WholeTexts.{some_bindings_is}
use Rattle.osb_statements.proofs.bindings.read_bindings_between.Goals as goal

pub select-requires-clause-plain : goal.select-requires-clause-plain
select-requires-clause-plain g c = some_bindings_is.2

pub returns-clause-ok : goal.returns-clause-ok
returns-clause-ok g c clean =
    let old = behind g.S.Store c.args.tx.now in
    let new = behind g.S.Store c.select.new.tx in
    let same = c.in_ok-rows.ensures.reads.same clean in
    let has = c.requires (clean_before old new _ c.select.ensures.reads.survives clean) same.0.was_open in
    if_ok c.bindings_in.result (λ entries is have. some_bindings_read old new has c.in_ok-rows.rows.items c.args.after.now _ entries.items (rw (c.as_bytes.ensures.value) at (c.in_ok-rows.ensures.ok clean)) have (is.0 ∙ ap (map binding_columns) c.deref.ensures.value) is.1) c.bindings_in.ensures.told

pub returns-clause-known : goal.returns-clause-known
returns-clause-known g c clean entries stores =
    let old = behind g.S.Store c.args.tx.now in
    let new = behind g.S.Store c.select.new.tx in
    let same = c.in_ok-rows.ensures.reads.same clean in
    let has = c.requires (clean_before old new _ c.select.ensures.reads.survives clean) same.0.was_open in
    c.bindings_in.ensures.known entries (c.deref.ensures.value ∙ some_bindings_shown old new has c.in_ok-rows.rows.items c.args.after.now _ entries (rw (c.as_bytes.ensures.value) at (c.in_ok-rows.ensures.ok clean)) stores) stores.texts
