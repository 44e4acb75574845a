use Rattle.std.proofs.Common.{inl, inr, IsTrue, sym, ap, subst, ◌∙◌, arith}
use Rattle.sqlite.specs.State.{HasCleanDisk}
use Rattle.sqlite.specs.Files.{file_state}
use Rattle.osb_orders.specs.declared.order.Change.{Change}
use Rattle.osb_orders.specs.Changed.{lives_changed}
use Rattle.osb_statements.specs.Steps.{stored}
use Rattle.osb_restart.proofs.FoundLemmas.{finds_either, finds_after, where_ok}
use Rattle.osb_restart.proofs.changes.committed_and_restarted.Goals as goal

pub returns-clause-either : goal.returns-clause-either
returns-clause-either g c clean live was_open =
    let old = file_state c.args.records in
    let new = file_state c.commit.new.self in
    let after : HasCleanDisk new = c.in_ok-again.ensures.clean clean in
    let before : HasCleanDisk old = omega (arith, after, c.commit.ensures.crash.clean) in
    finds_either old new _ _ _ _ (λ _ it. it.holds) (c.lives_are_whole.ensures.kept before was_open) c.commit.ensures.crash after (c.in_ok-again.ensures.found clean live)

pub returns-clause-acknowledged : goal.returns-clause-acknowledged
returns-clause-acknowledged g c told clean live was_open =
    let old = file_state c.args.records in
    let new = file_state c.commit.new.self in
    let after : HasCleanDisk new = c.in_ok-again.ensures.clean clean in
    let before : HasCleanDisk old = omega (arith, after, c.commit.ensures.crash.clean) in
    let keeps = c.lives_are_whole.ensures.kept before was_open in
    let lasts = where_ok c.commit.result _ (subst IsTrue c.is_ok-acknowledged.ensures.value told) (c.commit.ensures.lasts after) in
    finds_after old new _ _ _ _ (λ _ it. it.holds) keeps c.commit.ensures.crash after (c.in_ok-again.ensures.found clean live) (λ db may. elim (lasts db may) [
      | inl changed ↦ changed.1
      | inr same ↦ (keeps db same.1).lives_are ∙ ap (λ (change : Change). lives_changed change c.args.instance.now (stored old)) (sym same.0)
    ])
