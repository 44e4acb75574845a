use Rattle.std.proofs.Common.{Bool, List, ℕ, ap₂, cond, inl, refl, subst}
use Rattle.sqlite.specs.Files.{file_state}
use Rattle.sqlite.specs.Start.{FindsIn}
use Rattle.sqlite_disk.specs.Events.{Event, replay}
use Rattle.sqlite_store.specs.Laws.{settled_at}
use Rattle.osb_file.proofs.database.AtPathDatabase.open.Goals as goal

pub returns-in-Ok-open_files-clause-opened : goal.returns-in-Ok-open_files-clause-opened
returns-in-Ok-open_files-clause-opened g c clean =
    let conn = c.in-Ok-open_files.conn in
    let opened = c.in-Ok-open_files.ensures.opened clean in
    let found = c.in-Ok-open_files.ensures.found clean in
    let (log, db) = c.in-Ok.ensures.fresh in
    let bytes = λ (is_log : Bool) (events : List Event). (replay (cond is_log g.S.Start.log g.S.Start.db) events).seen in
    -- of both files nothing is known but that they were opened, so they hold what they began with
    let held = subst (λ (end : List ℕ). FindsIn (record { log = end; db = g.S.Start.db }) (file_state conn)) (ap₂ bytes log.0 log.1)
    (subst (λ (end : List ℕ). FindsIn (record { log = bytes c.in-Ok.files.log.is_log c.in-Ok.files.log.calls.log.events; db = end }) (file_state conn)) (ap₂ bytes db.0 db.1)
    (record { holds = found.holds; reads = found.reads })) in
    record {
      opens = opened.0;
      live = opened.1;
      found = held;
      only = λ left may. settled_at conn.store (λ f. inl refl) left opened.0.is_open may;
    }
