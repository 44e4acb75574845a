use Rattle.std.proofs.Common.{refl, ap, ◌∙◌}
use Rattle.sqlite.specs.Held.{state}
use Rattle.osb_asks.specs.declared.ask.Ask.TheVariants.{Orders}
use Rattle.osb_orders.specs.Listing.{listing}
use Rattle.osb_records.specs.Listed.{listed_facts}
use Rattle.osb_statements.specs.Steps.{stored}
use Rattle.osb_records.proofs.AskLemmas.{listed_is}
use Rattle.osb_records.proofs.looking.view_of_running.Goals as goal

pub returns-clause-ok : goal.returns-clause-ok
returns-clause-ok g c clean =
    let lives = stored (state g.S.Store c.args.conn.now) in
    let found = c.in_ok-listing.ensures.ok clean ∙ ap (λ id. listing lives id 100) c.listed_after.ensures in
    c.view_of_listing.ensures ∙ ap listed_facts found ∙ listed_is lives (Orders c.args.orders.now) refl
