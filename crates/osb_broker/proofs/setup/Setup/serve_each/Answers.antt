use Rattle.std.proofs.Common.{refl}
use Rattle.osb_broker.proofs.CrashLemmas.{leaves_stored}
use Rattle.osb_broker.proofs.GroupLemmas.{from_empty}
use Rattle.osb_broker.proofs.setup.Setup.serve_each.Goals as goal

pub returns-clause-ok : goal.returns-clause-ok
returns-clause-ok g c = from_empty c.in_ok-outputs.ensures.items c.serve_groups.ensures.serves

pub returns-clause-worked : goal.returns-clause-worked
returns-clause-worked g c = c.serve_groups.ensures.serves.serves.worked

pub returns-in_err-blanks-clause-kept : goal.returns-in_err-blanks-clause-kept
returns-in_err-blanks-clause-kept g c works = leaves_stored (c.lives_are_whole.ensures.whole works.clean works.live) (c.lives_are_whole.ensures.kept works.clean works.live) refl

pub returns-in_err-outputs-clause-kept : goal.returns-in_err-outputs-clause-kept
returns-in_err-outputs-clause-kept g c works = leaves_stored (c.lives_are_whole.ensures.whole works.clean works.live) (c.lives_are_whole.ensures.kept works.clean works.live) refl

pub returns-clause-kept : goal.returns-clause-kept
returns-clause-kept g c works = leaves_stored (c.lives_are_whole.ensures.whole works.clean works.live) (c.lives_are_whole.ensures.kept works.clean works.live) refl
