use Rattle.osb_machine.proofs.texts.instance.Goals as goal

pub returns : goal.returns
returns c = simp (c.in_ok-plan.ensures, c.in_ok-service.ensures, c.as_str-parameters.ensures) at c.format.ensures.ok
