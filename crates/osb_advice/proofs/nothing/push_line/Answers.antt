use Rattle.osb_advice.proofs.nothing.push_line.Goals as goal

pub returns : goal.returns
returns c = simp (c.format.ensures.text, c.format-2.ensures.text) at c.push_all.ensures
