use Rattle.std.proofs.Common.{sym, subst, arith}
use Rattle.sqlite.specs.State.{HasCleanDisk}
use Rattle.sqlite.specs.Held.{state}
use Rattle.osb_catalog.specs.Rules as catalog
use Rattle.osb_orders.specs.Lives.{Lives}
use Rattle.osb_statements.specs.Steps.{stored}
use Rattle.osb_file.specs.File.{AreLivesOf, KeepsLivesOf}
use Rattle.osb_broker.specs.BrokerState.{Works, store_of}
use Rattle.osb_broker.specs.Plans.{OffersInUse}
use Rattle.osb_listen.specs.declared.fault.ListenFault.{ListenFault}
use Rattle.osb_listen.specs.Inside.{IsOfDatabase}
use Rattle.osb_listen.proofs.FaultLemmas.{of_database}
use Rattle.osb_listen.proofs.HeldLemmas.{if_some_both, keeps_on, new_not_missing, not_made, not_taken}
use Rattle.osb_listen.proofs.file.broker_over.Goals as goal

pub returns-in-Err-clause-why : goal.returns-in-Err-clause-why
returns-in-Err-clause-why g c =
    if_some_both c.in-Err.conn _ _ _ _ _ c.in-Err.ensures.not_ours c.in-Err.ensures.missing
    (λ conn not_ours missing works db holds. not_taken (catalog.rules_of c.args.settings.now) db c.in-Err.fault
    (λ is. not_ours is works.clean db holds) (λ is. missing is works.clean db holds))

pub returns-in-Ok-new-clause-offered : goal.returns-in-Ok-new-clause-offered
returns-in-Ok-new-clause-offered g c works =
    subst (λ (lives : Lives). OffersInUse (catalog.rules_of c.args.settings.now) lives) (sym (c.in-Ok-new.ensures.lives works)) (c.in-Ok-new.ensures.offered works.clean)

pub returns-in-Ok-new-clause-found : goal.returns-in-Ok-new-clause-found
returns-in-Ok-new-clause-found g c works db holds =
    let were = c.in-Ok-new.ensures.works works in
    subst (λ (lives : Lives). AreLivesOf db lives) (sym (c.in-Ok-new.ensures.lives works)) (c.in-Ok.ensures.found were.clean were.live db holds)

pub returns-in-Err-new-clause-why : goal.returns-in-Err-new-clause-why
returns-in-Err-new-clause-why g c works db holds =
    let back = subst (λ conn. Works (state g.D.Store.Store conn)) c.into_connection.ensures.same works in
    let were = c.in-Err-new.ensures.fault_works back in
    not_made (catalog.rules_of c.args.settings.now) db (stored (state g.D.Store.Store c.in-Ok.opened.0)) c.in-Err-new.fault c.from.result c.from.ensures
    (c.in-Ok.ensures.found were.clean were.live db holds) (c.in-Err-new.ensures.in_use back.clean)

pub returns-in-Ok-new-clause-kept : goal.returns-in-Ok-new-clause-kept
returns-in-Ok-new-clause-kept g c clean db has =
    let crash = c.in-Ok-new.ensures.crash in
    keeps_on db (state g.D.Store.Store c.in-Ok.opened.0) (store_of g.D.Store.Store c.in-Ok-new.broker) (c.in-Ok.ensures.kept (omega (arith, clean, crash.clean)) db has) (crash.crash clean)

pub returns-in-Err-new-clause-fault_kept : goal.returns-in-Err-new-clause-fault_kept
returns-in-Err-new-clause-fault_kept g c clean db has =
    let crash = c.in-Err-new.ensures.fault_crash in
    let back = subst (λ conn. HasCleanDisk (state g.D.Store.Store conn)) c.into_connection.ensures.same clean in
    subst (λ conn. KeepsLivesOf db (state g.D.Store.Store conn)) (sym c.into_connection.ensures.same)
    (keeps_on db (state g.D.Store.Store c.in-Ok.opened.0) (state g.D.Store.Store c.in-Err-new.records) (c.in-Ok.ensures.kept (omega (arith, back, crash.clean)) db has) (crash.crash back))

pub returns-in-Err-new-clause-fault : goal.returns-in-Err-new-clause-fault
returns-in-Err-new-clause-fault g c =
    subst (λ (fault : ListenFault). IsOfDatabase (catalog.rules_of c.args.settings.now) fault) (sym c.from.ensures)
    (of_database (catalog.rules_of c.args.settings.now) c.in-Err-new.fault c.in-Err-new.ensures.lacks)

pub returns-in-Ok-new-clause-origin : goal.returns-in-Ok-new-clause-origin
returns-in-Ok-new-clause-origin g c works db holds =
    c.in-Ok.ensures.origin (c.in-Ok-new.ensures.works works).clean db holds

pub returns-in-Err-new-clause-asked : goal.returns-in-Err-new-clause-asked
returns-in-Err-new-clause-asked g c is = absurd (new_not_missing c.in-Err-new.fault c.from.result c.from.ensures is)

pub returns-in-Ok-new-clause-honest : goal.returns-in-Ok-new-clause-honest
returns-in-Ok-new-clause-honest g c clean = c.in-Ok.ensures.honest (omega (arith, clean, c.in-Ok-new.ensures.crash.clean))

pub returns-in-Err-new-clause-fault_honest : goal.returns-in-Err-new-clause-fault_honest
returns-in-Err-new-clause-fault_honest g c clean =
    let back = subst (λ conn. HasCleanDisk (state g.D.Store.Store conn)) c.into_connection.ensures.same clean in
    c.in-Ok.ensures.honest (omega (arith, back, c.in-Err-new.ensures.fault_crash.clean))
