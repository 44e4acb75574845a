use Rattle.std.proofs.Common.{refl, ap, ◌∙◌}
use Rattle.sqlite.specs.Effect.{Database}
use Rattle.osb_contexts.specs.Reads.{behind}
use Rattle.osb_contexts.proofs.StepLemmas.{clean_before}
use Rattle.osb_statements.specs.Stored.{instances_in}
use Rattle.osb_statements.specs.Pieces.{counted_in}
use Rattle.osb_statements.proofs.ContextLemmas.{shows_records, counts_read}
use Rattle.osb_statements.proofs.NamedLemmas.{unchanged_records}
use Rattle.osb_statements.proofs.PlanLemmas.{counts_are}
use Rattle.osb_statements.proofs.counting.count_all.Goals as goal

pub count_bindings-requires : goal.count_bindings-requires
count_bindings-requires g c = shows_records (behind g.S.Store c.args.tx.now) c.requires

pub count_instances-requires : goal.count_instances-requires
count_instances-requires g c clean live =
    let old = behind g.S.Store c.args.tx.now in
    unchanged_records old (behind g.S.Store c.count_bindings.new.tx) c.count_bindings.ensures.reads.survives (shows_records old c.requires) clean (c.in_ok-bindings.ensures.reads.same clean)

pub returns-clause-ok : goal.returns-clause-ok
returns-clause-ok g c clean =
    let old = behind g.S.Store c.args.tx.now in
    let mid = behind g.S.Store c.count_bindings.new.tx in
    let new = behind g.S.Store c.count_instances.new.tx in
    let before = clean_before mid new _ c.count_instances.ensures.reads.survives clean in
    let same = c.in_ok-bindings.ensures.reads.same before in
    let has = c.requires (clean_before old mid _ c.count_bindings.ensures.reads.survives before) same.0.was_open in
    let counted = c.in_ok-counted.ensures.ok clean same.0.is_open ∙ ap (λ (d : Database). counted_in (instances_in d.trees)) same.0.now_is in
    counts_read old.now has _ (counts_are old has.records _ c.in_ok-counted.counted counted (c.in_ok-bindings.ensures.ok before) refl refl)
