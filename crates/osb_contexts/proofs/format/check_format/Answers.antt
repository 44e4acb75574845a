use Rattle.std.proofs.Common.{subst}
use Rattle.osb_contexts.specs.Reads.{behind}
use Rattle.osb_contexts.specs.Read.{AreRowids}
use Rattle.osb_rows.proofs.ResultLemmas.{then_ok}
use Rattle.osb_contexts.proofs.StepLemmas.{clean_before}
use Rattle.osb_contexts.proofs.TableReads.{format_rowids}
use Rattle.osb_contexts.proofs.Texts.{version_rowids_is}
use Rattle.osb_contexts.proofs.format.check_format.Goals as goal

pub select-requires-clause-plain : goal.select-requires-clause-plain
select-requires-clause-plain g c = version_rowids_is.2

pub returns-clause-ok : goal.returns-clause-ok
returns-clause-ok g c clean =
    let old = behind g.S.Store c.args.tx.now in
    let new = behind g.S.Store c.select.new.tx in
    let same = c.in_ok-ids.ensures.reads.same clean in
    let has = c.requires (clean_before old new _ c.select.ensures.reads.survives clean) same.0.was_open in
    then_ok c.check_rowids.result (λ are. format_rowids old new c.in_ok-ids.ids.items has (c.in_ok-ids.ensures.ok clean) (subst AreRowids c.deref.ensures.value are)) c.check_rowids.ensures
