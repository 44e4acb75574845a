use Rattle.std.proofs.Common.{[]}
use Rattle.osb_contexts.specs.Made.{ClearsFormat}
use Rattle.osb_contexts.specs.Reads.{behind}
use Rattle.osb_contexts.proofs.Texts.{clear_format}
use Rattle.osb_contexts.proofs.FormatLemmas.{clears}
use Rattle.osb_contexts.proofs.StepLemmas.{inside_by}
use Rattle.osb_contexts.proofs.format.clear_format.Goals as goal

pub returns-clause-ok : goal.returns-clause-ok
returns-clause-ok g c clean =
    let old = behind g.S.Store c.args.tx.now in
    let new = behind g.S.Store c.execute.new.tx in
    inside_by clear_format [] old new c.execute.result _ c.execute.ensures.ended c.execute.ensures.inside.survives clean (ClearsFormat old new)
    (λ count before live within run.
    let did = clears old new count (c.requires.schema before live) (c.requires.rowids before live) run in
    record { reshapes = record { within = within; schema_is = did.0.0; kept = did.0.1; sound = did.0.2 }; blank = did.1 })
    (c.execute.ensures.runs clean)
