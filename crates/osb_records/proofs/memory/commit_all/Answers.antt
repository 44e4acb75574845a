use Rattle.std.proofs.Common.{refl}
use Rattle.sqlite.proofs.Callers.{memory_is_clean}
use Rattle.osb_records.proofs.memory.commit_all.Goals as goal

pub returns-clause-ok : goal.returns-clause-ok
returns-clause-ok c = c.commit_all.ensures.ok (memory_is_clean c.commit_all.new.self)

pub returns-clause-err : goal.returns-clause-err
returns-clause-err c = c.commit_all.ensures.err (memory_is_clean c.commit_all.new.self) refl
