use Rattle.std.proofs.Common.{refl}
use Rattle.std.proofs.lemmas.Result.{IfOk-weaker}
use Rattle.sqlite.proofs.Callers.{memory_is_clean}
use Rattle.osb_broker.proofs.StoreLemmas.{if_err_weaker, memory_works}
use Rattle.osb_broker.proofs.memory.new.Goals as goal

pub returns-clause-lives : goal.returns-clause-lives
returns-clause-lives c = IfOk-weaker c.new.result _ _ (λ broker told. told (memory_works broker)) c.new.ensures.lives

pub returns-clause-offered : goal.returns-clause-offered
returns-clause-offered c = IfOk-weaker c.new.result _ _ (λ broker told. told (memory_works broker).clean) c.new.ensures.offered

pub returns-clause-in_use : goal.returns-clause-in_use
returns-clause-in_use c = if_err_weaker c.new.result _ _ (λ fault told. told (memory_is_clean fault.1)) c.new.ensures.in_use

pub returns-clause-err : goal.returns-clause-err
returns-clause-err c = if_err_weaker c.new.result _ _ (λ fault told. told (record { clean = memory_is_clean fault.1; live = refl })) c.new.ensures.err
