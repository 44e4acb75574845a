use Rattle.std.proofs.Common.{arith}
use Rattle.sqlite.specs.State.{HasCleanDisk}
use Rattle.sqlite.specs.Files.{file_state, image_of}
use Rattle.osb_catalog.specs.Rules.{rules_of}
use Rattle.osb_restart.proofs.RunLemmas.{leads}
use Rattle.osb_restart.proofs.StopLemmas.{store_is_clean}
use Rattle.osb_restart.proofs.runs.serve_run.Goals as goal

pub returns-clause-clean : goal.returns-clause-clean
returns-clause-clean g c clean =
    let last = store_is_clean c.into_store.result _ _ c.close.ensures (c.stopped.ensures.clean clean) in
    let now : HasCleanDisk (file_state c.in_ok-conn.conn) = omega (arith, last, c.into_store.ensures.quiet.clean) in
    let honest = rw c.in_ok-conn.was at c.serve_file-conn.ensures.honest in
    honest now

pub returns-clause-served : goal.returns-clause-served
returns-clause-served g c =
    let served = c.serve_file-conn.ensures.served in
    let leaves = rw c.in_ok-conn.was at served.3 in (
      served.0.exchanges,
      served.2.journal,
      λ clean.
          let before = c.stopped.ensures.clean clean in
          let last = store_is_clean c.into_store.result _ _ c.close.ensures before in
          let now : HasCleanDisk (file_state c.in_ok-conn.conn) = omega (arith, last, c.into_store.ensures.quiet.clean) in
          leads (rules_of c.args.settings.now) c.args.per_connection c.args.place.now.existing served.0 (image_of g.D.Disk c.args.files.files) (file_state c.in_ok-conn.conn)
          c.into_store.result c.close.result.log c.close.result.db (image_of g.D.Disk c.stopped.result.files) c.close.ensures before c.stopped.ensures.left
          c.into_store.ensures.numbered c.into_store.ensures.sound (λ trees. c.into_store.ensures.quiet.outcomes trees) now leaves,
    )
