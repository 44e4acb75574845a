use Rattle.std.proofs.Common.{◌≡◌, subst, arith}
use Rattle.std.proofs.Math.Logic.{∥∥₁_map}
use Rattle.sqlite.specs.Tree.{Trees}
use Rattle.sqlite.specs.State.{HasCleanDisk}
use Rattle.sqlite.specs.Files.{file_state}
use Rattle.sqlite_store.specs.Laws.{settled_at}
use Rattle.osb_orders.specs.Lives.{Lives}
use Rattle.osb_file.specs.File.{AreLivesOf}
use Rattle.osb_file.proofs.FileLemmas.{opened_stand}
use Rattle.osb_statements.specs.Steps.{HoldsLives, stored}
use Rattle.osb_restart.proofs.FoundLemmas.{finds_kept, holds_same}
use Rattle.osb_restart.proofs.restart.restarted.Goals as goal

pub returns-in-Ok-clause-clean : goal.returns-in-Ok-clause-clean
returns-in-Ok-clause-clean g c clean =
    let before : HasCleanDisk (file_state c.in_ok-conn.conn) = omega (arith, clean, c.in-Ok.ensures.crash.clean) in
    subst (λ held. HasCleanDisk (file_state held)) c.into_connection.ensures.same (c.in_ok-conn.ensures.clean before)

pub returns-in-Ok-clause-found : goal.returns-in-Ok-clause-found
returns-in-Ok-clause-found g c clean live =
    let conn = file_state c.in_ok-conn.conn in
    let lives = stored (file_state c.in-Ok.again) in
    let before : HasCleanDisk conn = omega (arith, clean, c.in-Ok.ensures.crash.clean) in
    let opened = c.in_ok-conn.ensures.opened before in
    let stand = opened_stand conn lives opened.0 opened.1 (c.in-Ok.ensures.ok clean live) in
    let left = subst (λ held. ∥ (file_state held).may_leave conn.committed.trees ∥₁) c.into_connection.ensures.same (c.in_ok-conn.ensures.left before) in
    ∥∥₁_map left (λ may. let it : (db : Trees) × (file_state c.args.records).may_leave db × AreLivesOf db lives = (conn.committed.trees, may, stand) in it)

pub returns-in-Ok-clause-kept : goal.returns-in-Ok-clause-kept
returns-in-Ok-clause-kept g c clean live was_open =
    let keeps = c.lives_are_whole.ensures.kept (returns-in-Ok-clause-clean g c clean) was_open in
    finds_kept (file_state c.args.records) _ _ keeps (returns-in-Ok-clause-found g c clean live)

pub returns-in-Ok-clause-left : goal.returns-in-Ok-clause-left
returns-in-Ok-clause-left g c clean db may =
    let conn = c.in_ok-conn.conn in
    let before : HasCleanDisk (file_state conn) = omega (arith, clean, c.in-Ok.ensures.crash.clean) in
    let opened = c.in_ok-conn.ensures.opened before in
    let only : (left : Trees) → (file_state conn).may_leave left → left ≡ (file_state conn).committed.trees = λ left leaves. settled_at conn.store g.met.D.Disk.seen_may_stay left opened.0.is_open leaves in
    let found = subst (λ held. ∥ (file_state held).may_leave (file_state conn).committed.trees ∥₁) c.into_connection.ensures.same (c.in_ok-conn.ensures.left before) in
    ∥∥₁_map found (λ was. let it : (was : Trees) × (file_state c.args.records).may_leave was × ((lives : Lives) → HoldsLives lives was → HoldsLives lives db)
    = ((file_state conn).committed.trees, was, holds_same (file_state conn) db opened.0 opened.1 only (c.in-Ok.ensures.crash.crash clean db may)) in it)
