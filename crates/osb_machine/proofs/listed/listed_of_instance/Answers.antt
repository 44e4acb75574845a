use Rattle.osb_machine.proofs.listed.listed_of_instance.Goals as goal

pub returns : goal.returns
returns c = simp (c.in_ok-first.ensures, c.in_ok-organization.ensures, c.in_ok-last.ensures, c.in_ok-space.ensures) at c.format.ensures.ok
