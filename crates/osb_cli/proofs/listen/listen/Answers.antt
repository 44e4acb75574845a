use Rattle.std.proofs.Common.{subst}
use Rattle.std.proofs.lemmas.Option.{IfSome_then}
use Rattle.sqlite.specs.Held.{state}
use Rattle.osb_cli.specs.Files.{AreBytesOf}
use Rattle.osb_cli.specs.Serve.{Leaves}
use Rattle.osb_cli.proofs.ReportedLemmas.{other_unserved}
use Rattle.osb_cli.proofs.ServeLemmas.{ended_well, is_left, is_opened, names_in_use, served_by}
use Rattle.osb_cli.proofs.listen.listen.Goals as goal

pub returns-in-Ok-done-clause-served : goal.returns-in-Ok-done-clause-served
returns-in-Ok-done-clause-served g c =
    let contents = g.F.NamedFiles.contents c.args.files.now in
    let asked = c.args.asked.now in
    let done = c.serve_file-done in
    let served = done.ensures.served in
    IfSome_then done.result.1 served.3 (λ conn leaves. (
      served.0,
      ended_well _ _ _ served.1 c.in-Ok-done.is,
      served_by _ _ _ _ _ _ _ _ _ _ c.number-per_connection.ensures.is served.2,
      λ db has. subst (λ k. Leaves contents asked.settings.now k asked.place.existing db served.0 (state g.D.Store.Store conn)) c.number-per_connection.ensures.is
          (is_left contents asked.settings.now c.in-Ok.settings c.in-Ok.ensures.are _ _ db served.0 _ (leaves db has)),
    ))

pub returns-clause-served : goal.returns-clause-served
returns-clause-served g c =
    let contents = g.F.NamedFiles.contents c.args.files.now in
    let asked = c.args.asked.now in
    let done = c.serve_file-done in
    let served = done.ensures.served in
    IfSome_then done.result.1 served.3 (λ conn leaves. (
      served.0,
      tt,
      served_by _ _ _ _ _ _ _ _ _ _ c.number-per_connection.ensures.is served.2,
      λ db has. subst (λ k. Leaves contents asked.settings.now k asked.place.existing db served.0 (state g.D.Store.Store conn)) c.number-per_connection.ensures.is
          (is_left contents asked.settings.now c.in-Ok.settings c.in-Ok.ensures.are _ _ db served.0 _ (leaves db has)),
    ))

pub returns-clause-lacks : goal.returns-clause-lacks
returns-clause-lacks g c =
    let done = c.serve_file-done in
    let served = done.ensures.served in
    IfSome_then done.result.1 served.3
    (λ conn leaves works db has. names_in_use (g.F.NamedFiles.contents c.args.files.now) c.args.asked.now.settings.now c.in-Ok.settings c.in-Ok.ensures.are _ _ db served.0 _ done.result.0 c.in-Err-done.fault c.unserved_as-told.result
    served.1 c.in-Err-done.is c.unserved_as-told.ensures.0 ((leaves db has).works works))

pub returns-in-Ok-done-clause-opened : goal.returns-in-Ok-done-clause-opened
returns-in-Ok-done-clause-opened g c =
    is_opened c.serve_file-done.result.0 c.serve_file-done.result.1 _ _ c.in-Ok-done.is c.serve_file-done.ensures.opened

pub returns-clause-fault : goal.returns-clause-fault
returns-clause-fault g c =
    other_unserved (AreBytesOf (g.F.NamedFiles.contents c.args.files.now) c.args.asked.now.settings.now) c.unserved_as-told.result c.unserved_as-told.ensures.1
