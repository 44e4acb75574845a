use Rattle.std.proofs.Common.{ap, subst, sym, map, ◌∙◌}
use Rattle.sqlite.specs.Effect.{Database}
use Rattle.osb_contexts.specs.Format.{HoldsVersion}
use Rattle.osb_contexts.specs.Reads.{behind}
use Rattle.osb_statements.specs.Read.{version_columns}
use Rattle.osb_contexts.specs.Read.{AreRowids}
use Rattle.osb_rows.proofs.ResultLemmas.{if_ok}
use Rattle.osb_statements.proofs.TableReads.{versions_read, versions_shown}
use Rattle.osb_statements.proofs.WholeTexts.{select_versions_is}
use Rattle.osb_statements.proofs.format.read_versions.Goals as goal
use Rattle.osb_contexts.proofs.StepLemmas.{clean_before}
use Rattle.osb_contexts.proofs.Texts.{version_rowids_is}

pub select-requires-clause-plain : goal.select-requires-clause-plain
select-requires-clause-plain g c = version_rowids_is.2

pub select-requires-2-clause-plain : goal.select-requires-2-clause-plain
select-requires-2-clause-plain g c = select_versions_is.2

pub returns-clause-ok : goal.returns-clause-ok
returns-clause-ok g c clean =
    let old = behind g.S.Store c.args.tx.now in
    let mid = behind g.S.Store c.select.new.tx in
    let new = behind g.S.Store c.select-2.new.tx in
    let before = clean_before mid new _ c.select-2.ensures.reads.survives clean in
    let same = c.in_ok-ids.ensures.reads.same before in
    let has = c.requires (clean_before old mid _ c.select.ensures.reads.survives before) same.0.was_open in
    if_ok c.versions_in.result (λ entries is. versions_read old mid new c.in_ok-ids.ids.items c.in_ok-rows.rows.items entries.items has same.0.now_is (c.in_ok-ids.ensures.ok before) (c.in_ok-rows.ensures.ok clean)
    (subst AreRowids c.deref.ensures.value c.in_ok-check_rowids.ensures.ok) (is ∙ ap (map version_columns) c.deref-2.ensures.value))
    c.versions_in.ensures.told

pub returns-clause-known : goal.returns-clause-known
returns-clause-known g c clean version holds low =
    let old = behind g.S.Store c.args.tx.now in
    let mid = behind g.S.Store c.select.new.tx in
    let new = behind g.S.Store c.select-2.new.tx in
    let before = clean_before mid new _ c.select-2.ensures.reads.survives clean in
    let same = c.in_ok-ids.ensures.reads.same before in
    let has = c.requires (clean_before old mid _ c.select.ensures.reads.survives before) same.0.was_open in
    let is = same.0.now_is in
    c.versions_in.ensures.known version (c.deref-2.ensures.value ∙ versions_shown mid new c.in_ok-rows.rows.items version (ap (λ (d : Database). d.schema) is ∙ has) (c.in_ok-rows.ensures.ok clean) (subst (λ (d : Database). HoldsVersion version d.trees) (sym is) holds)) low
