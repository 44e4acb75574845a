use Rattle.std.proofs.Common.{refl}
use Rattle.sqlite.proofs.Callers.{memory_is_clean}
use Rattle.osb_records.proofs.ReadsLemmas.{same_lives}
use Rattle.osb_records.proofs.memory.life.Goals as goal

pub returns-clause-ok : goal.returns-clause-ok
returns-clause-ok c = c.life.ensures.ok (memory_is_clean c.life.new.self)

pub returns-clause-same : goal.returns-clause-same
returns-clause-same c = same_lives _ _ (c.life.ensures.looks.same (memory_is_clean c.life.new.self) refl)
