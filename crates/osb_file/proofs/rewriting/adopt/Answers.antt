use Rattle.std.proofs.Common.{◌≡◌}
use Rattle.osb_file.specs.declared.unseen.Unseen.TheVariants.{NotOurs}
use Rattle.osb_file.proofs.rewriting.adopt.Goals as goal

pub returns-in-Err-clause-not_ours : goal.returns-in-Err-clause-not_ours
returns-in-Err-clause-not_ours g c is =
    let ours : c.unadopted.result ≡ NotOurs = cc in
    c.in-Err.ensures.not_ours (c.requires.clean c.in-Err.left) (c.unadopted.ensures.ours ours)
