use Rattle.std.proofs.Common.{rules}
use Rattle.osb_statements.proofs.view.read_for.Goals as goal

pub returns-in-Err-clause-reads : goal.returns-in-Err-clause-reads
returns-in-Err-clause-reads g c = record {
  same_reference = search rules;
  same = λ clean. search rules;
  kept = λ clean inside. search rules;
  survives = search rules;
}
