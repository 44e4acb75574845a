use Rattle.osb_broker.proofs.setup.Setup.output_of.Goals as goal

pub returns-clause-leaves : goal.returns-clause-leaves
returns-clause-leaves g c works clean = rw c.into_bytes.ensures (rw (c.new-output.ensures.bytes, c.requires.empty) at (c.serve_into.ensures.leaves works clean))
