use Rattle.osb_machine.proofs.listed.last_members.Goals as goal

pub returns : goal.returns
returns c = simp (c.as_str-parameters.ensures, c.in_ok-plan.ensures, c.in_ok-service.ensures) at c.format.ensures.ok
