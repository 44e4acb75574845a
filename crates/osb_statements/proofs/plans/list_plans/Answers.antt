use Rattle.std.proofs.Common.{subst, ◌≤◌, ◌+◌, length, ◌∙◌, arith}
use Rattle.sqlite.specs.Effect.{Database}
use Rattle.osb_audit.specs.Gathered.{pairs_in_rows, HasAdded}
use Rattle.osb_contexts.specs.Reads.{behind}
use Rattle.osb_contexts.proofs.StepLemmas.{clean_before}
use Rattle.osb_statements.specs.Stored.{instances_in}
use Rattle.osb_statements.specs.Steps.{bare_in, content}
use Rattle.osb_statements.proofs.ContextLemmas.{shows_records, plans_read}
use Rattle.osb_statements.proofs.NamedLemmas.{unchanged_records}
use Rattle.osb_statements.proofs.PlanLemmas.{rows_rise, rows_stand, all_listed}
use Rattle.osb_statements.proofs.plans.list_plans.Goals as goal

pub all_running-requires : goal.all_running-requires
all_running-requires g c = shows_records (behind g.S.Store c.args.tx.now) c.requires

pub standing_plans-requires : goal.standing_plans-requires
standing_plans-requires g c clean live =
    let old = behind g.S.Store c.args.tx.now in
    unchanged_records old (behind g.S.Store c.all_running.new.tx) c.all_running.ensures.reads.survives (shows_records old c.requires) clean (c.in_ok-running.ensures.reads.same clean)

pub returns-clause-ok : goal.returns-clause-ok
returns-clause-ok g c clean =
    let old = behind g.S.Store c.args.tx.now in
    let mid = behind g.S.Store c.all_running.new.tx in
    let new = behind g.S.Store c.standing_plans.new.tx in
    let before = clean_before mid new _ c.standing_plans.ensures.reads.survives clean in
    let same = c.in_ok-running.ensures.reads.same before in
    let has = c.requires (clean_before old mid _ c.all_running.ensures.reads.survives before) same.0.was_open in
    let instances = (content old).instances in
    let running = c.in_ok-running.running.items in
    let limit = length running + 1 + length instances in
    let few : length instances ≤ limit = omega arith in
    let enough : length running + 1 ≤ limit = omega arith in
    let listed = all_listed (bare_in old) _ limit running (c.in_ok-running.ensures.ok before) c.in_ok-running.ensures.below enough in
    let added = subst (λ (d : Database). HasAdded (pairs_in_rows (instances_in d.trees)) c.in_ok-standing.standing) same.0.now_is (c.in_ok-standing.ensures.ok clean same.0.is_open) in
    let plans = rw (c.deref.ensures.value) at c.in_ok-plans_in_use.ensures in
    plans (bare_in old) limit instances has.records.lives (rows_rise old has.records) (rows_stand old has.records) few listed added ∙ plans_read old.now has
