use Rattle.std.proofs.Common.{rules, ◌∷◌, []}
use Rattle.osb_broker.proofs.GroupLemmas.{serves_one}
use Rattle.osb_broker.proofs.setup.Setup.serve_alone.Goals as goal

pub returns-in-Some-clause-serves : goal.returns-in-Some-clause-serves
returns-in-Some-clause-serves g c = record {
  more = c.output_of-output.result ∷ [];
  follow = search rules;
  serves = serves_one c.output_of-output.result c.output_of-output.ensures.served c.output_of-output.ensures.worked c.output_of-output.ensures.leaves;
}
