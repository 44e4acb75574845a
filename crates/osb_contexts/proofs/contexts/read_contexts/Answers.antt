use Rattle.std.proofs.Common.{rules, ◌∙◌, ap, map}
use Rattle.osb_contexts.specs.Reads.{behind}
use Rattle.osb_contexts.specs.Read.{context_columns}
use Rattle.osb_contexts.proofs.StepLemmas.{clean_before}
use Rattle.osb_contexts.proofs.TableReads.{contexts_read, contexts_shown}
use Rattle.osb_contexts.proofs.Texts.{select_contexts_is}
use Rattle.osb_contexts.proofs.contexts.read_contexts.Goals as goal

pub select-requires-clause-plain : goal.select-requires-clause-plain
select-requires-clause-plain g c = select_contexts_is.2

pub returns-in-Ok-clause-ok : goal.returns-in-Ok-clause-ok
returns-in-Ok-clause-ok g c clean =
    let old = behind g.S.Store c.args.tx.now in
    let new = behind g.S.Store c.select.new.tx in
    let same = c.in_ok-rows.ensures.reads.same clean in
    let has = c.requires (clean_before old new _ c.select.ensures.reads.survives clean) same.0.was_open in
    contexts_read old new has c.in_ok-rows.rows.items c.args.after.now _ c.in-Ok.entries.items
    (rw (c.as_bytes.ensures.value) at (c.in_ok-rows.ensures.ok clean)) (c.in-Ok.ensures.told ∙ ap (map context_columns) c.deref.ensures.value) c.in-Ok.ensures.texts

pub returns-in-Err-IntegralValueOutOfRange-clause-known : goal.returns-in-Err-IntegralValueOutOfRange-clause-known
returns-in-Err-IntegralValueOutOfRange-clause-known g c clean entries stores fit =
    let old = behind g.S.Store c.args.tx.now in
    let new = behind g.S.Store c.select.new.tx in
    let same = c.in_ok-rows.ensures.reads.same clean in
    let has = c.requires (clean_before old new _ c.select.ensures.reads.survives clean) same.0.was_open in
    let fits = c.entries_in.ensures.known entries (c.deref.ensures.value ∙ contexts_shown old new has c.in_ok-rows.rows.items c.args.after.now _ entries (rw (c.as_bytes.ensures.value) at (c.in_ok-rows.ensures.ok clean)) stores) fit stores.texts in
    search rules
