use Rattle.std.proofs.Common.{refl}
use Rattle.sqlite.proofs.Callers.{memory_is_clean}
use Rattle.osb_records.proofs.memory.commit.Goals as goal

pub returns-clause-ok : goal.returns-clause-ok
returns-clause-ok c = c.commit.ensures.ok (memory_is_clean c.commit.new.self)

pub returns-clause-err : goal.returns-clause-err
returns-clause-err c = c.commit.ensures.err (memory_is_clean c.commit.new.self) refl
