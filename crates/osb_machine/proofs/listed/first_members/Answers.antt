use Rattle.osb_machine.proofs.listed.first_members.Goals as goal

pub returns : goal.returns
returns c = simp (c.in_ok-context.ensures, c.in_ok-instance.ensures, c.as_str-kind.ensures, c.in_ok-maintenance.ensures) at c.format.ensures.ok
