use Rattle.osb_broker.proofs.BodyLemmas.{replies_are_objects, faults_are_objects}
use Rattle.osb_broker.proofs.laws.bodies.Goals as goal

pub returns-clause-replies : goal.returns-clause-replies
returns-clause-replies c = replies_are_objects c.bodies.ensures.errors c.bodies.ensures.objects

pub returns-clause-faults : goal.returns-clause-faults
returns-clause-faults c = faults_are_objects c.bodies.ensures.errors
