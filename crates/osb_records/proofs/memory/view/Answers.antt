use Rattle.std.proofs.Common.{refl, sym, subst}
use Rattle.sqlite.proofs.Callers.{memory_is_clean}
use Rattle.osb_records.proofs.ReadsLemmas.{same_lives}
use Rattle.osb_orders.specs.IsLife.{IsLives}
use Rattle.osb_records.proofs.memory.view.Goals as goal

pub returns-clause-ok : goal.returns-clause-ok
returns-clause-ok c = c.view.ensures.ok (memory_is_clean c.view.new.self)

pub returns-clause-same : goal.returns-clause-same
returns-clause-same c = same_lives _ _ (c.view.ensures.looks.same (memory_is_clean c.view.new.self) refl)

pub returns-clause-whole : goal.returns-clause-whole
returns-clause-whole c =
    let same = same_lives _ _ (c.view.ensures.looks.same (memory_is_clean c.view.new.self) refl) in
    subst IsLives (sym same) (c.lives_are_whole.ensures.whole (memory_is_clean c.args.records.now) refl)
