use Rattle.sqlite_store.specs.Laws.{settled_at}
use Rattle.osb_restart.proofs.runs.AtRestDatabase.open.Goals as goal

pub returns-in-Ok-clause-opened : goal.returns-in-Ok-clause-opened
returns-in-Ok-clause-opened g c clean =
    let opened = c.in-Ok.ensures.opened clean in
    let found = c.in-Ok.ensures.found clean in
    record {
      opens = opened.0;
      live = opened.1;
      found = record { holds = found.holds; reads = found.reads };
      only = λ left may. settled_at c.in-Ok.conn.store g.met.D.Disk.seen_may_stay left opened.0.is_open may;
    }

pub returns-in-Ok-clause-honest : goal.returns-in-Ok-clause-honest
returns-in-Ok-clause-honest g c clean = (c.in-Ok.ensures.found clean).honest
