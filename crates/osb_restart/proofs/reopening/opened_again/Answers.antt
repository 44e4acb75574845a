use Rattle.std.proofs.Common.{arith}
use Rattle.std.proofs.Math.Logic.{∥∥₁_map}
use Rattle.sqlite_wal.specs.Files.{seen_image}
use Rattle.osb_restart.proofs.StopLemmas.{were_clean, store_is_clean, trees_are_left}
use Rattle.osb_restart.proofs.reopening.opened_again.Goals as goal

pub returns-in-Ok-clause-clean : goal.returns-in-Ok-clause-clean
returns-in-Ok-clause-clean g c clean =
    let before = were_clean g.D.Disk _ _ _ _ c.crash.ensures.clean c.crash-2.ensures.clean (c.in-Ok.ensures.found clean).honest in
    let last = store_is_clean c.into_store.result _ _ c.close-log.ensures before in
    omega (arith, last, c.into_store.ensures.quiet.clean)

pub returns-in-Ok-clause-left : goal.returns-in-Ok-clause-left
returns-in-Ok-clause-left g c clean =
    let found = c.in-Ok.ensures.found clean in
    let before = were_clean g.D.Disk _ _ _ _ c.crash.ensures.clean c.crash-2.ensures.clean found.honest in
    let image = seen_image g.D.Disk c.crash.new.self c.crash-2.new.self in
    let left = trees_are_left c.into_store.result _ _ c.close-log.ensures before image (c.crash.ensures.left, c.crash-2.ensures.left) in
    ∥∥₁_map (left c.into_store.ensures.numbered c.into_store.ensures.sound _ found.holds) (c.into_store.ensures.quiet.outcomes _)
