use Rattle.std.proofs.Common.{rules}
use Rattle.osb_statements.proofs.StepLemmas.{written_kept}
use Rattle.osb_statements.proofs.WriteLemmas.{no_lives, made_ready}
use Rattle.osb_records.proofs.making.make_tables.Goals as goal

pub returns-clause-ready : goal.returns-clause-ready
returns-clause-ready g c = made_ready _ c.commit.result (search rules) (λ clean live. search (written_kept, no_lives, rules))
