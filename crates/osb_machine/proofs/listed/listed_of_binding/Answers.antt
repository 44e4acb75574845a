use Rattle.osb_machine.proofs.listed.listed_of_binding.Goals as goal

pub returns : goal.returns
returns c = simp (c.in_ok-app.ensures, c.as_str-resource.ensures, c.in_ok-binding.ensures, c.in_ok-first.ensures, c.in_ok-last.ensures) at c.format.ensures.ok
