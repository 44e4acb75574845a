use Rattle.osb_advice.proofs.spaces.push_service_line.Goals as goal

pub returns : goal.returns
returns c = simp (c.format.ensures.text) at c.push_all.ensures
