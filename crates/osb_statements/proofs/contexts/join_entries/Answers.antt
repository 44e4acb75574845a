use Rattle.std.proofs.Common.{refl, ap, ◌∙◌}
use Rattle.osb_contexts.specs.Reads.{behind}
use Rattle.osb_contexts.specs.Steps.{contexts}
use Rattle.osb_joined.specs.Joined.{joined_entry}
use Rattle.osb_statements.proofs.ContextLemmas.{none_joined, next_joined}
use Rattle.osb_statements.proofs.contexts.join_entries.Goals as goal

pub loop-entry-init : goal.loop-entry-init
loop-entry-init g c = (refl, none_joined (λ s. joined_entry (contexts s)) (behind g.S.Store c.args.tx.now) c.args.entries.now c.new-joined.result.items c.new-joined.ensures.items c.requires)

pub joined_entry-requires : goal.joined_entry-requires
joined_entry-requires g c = c.loop-entry.invariant.1.shows

pub loop-entry-preserved : goal.loop-entry-preserved
loop-entry-preserved g c =
    let old = behind g.S.Store c.args.tx.now in
    let now = behind g.S.Store c.loop-entry.tx in
    let next = behind g.S.Store c.joined_entry.new.tx in (
      c.in_ok-joined_entry.ensures.reads.same_reference ∙ c.loop-entry.invariant.0,
      next_joined (λ s. joined_entry (contexts s)) (λ _ _ is entry. ap (λ entries. joined_entry entries entry) is) old now next c.args.entries.now c.loop-entry.entry-index c.entry-item.result c.loop-entry.joined.items c.push.new.self.items c.in_ok-joined_entry.field-0 c.loop-entry.invariant.1
          c.in_ok-joined_entry.ensures.reads.survives c.in_ok-joined_entry.ensures.reads.same c.in_ok-joined_entry.ensures.ok c.loop-entry-test.true c.entry-item.is c.in_ok-push.ensures.items,
    )
