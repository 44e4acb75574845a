use Rattle.std.proofs.Common.{rules, ◌∙◌, ap, sym, filter}
use Rattle.std.specs.Prelude.{filter_map}
use Rattle.osb_orders.specs.Listing.{with_last, is_listed}
use Rattle.osb_orders.proofs.ListedLemmas.{listed_step, listed_all}
use Rattle.osb_orders.proofs.MapLemmas.{kept_entries}
use Rattle.osb_orders.proofs.plain.listed.running_after.Goals as goal

pub loop-id-preserved : goal.loop-id-preserved
loop-id-preserved c = listed_step c.args.after.now c.loop-id.pairs.items c.push_running.new.pairs.items _ c.in-Some.id.now c.in-Some.life.now c.loop-id.id-iterator c.next.new.self (search rules) (search rules) c.loop-id.invariant

pub returns : goal.returns
returns c =
    listed_all c.args.after.now c.loop-id.pairs.items _ c.loop-id.id-iterator (search rules) c.loop-id.invariant
    ∙ ap (λ es. filter (is_listed c.args.after.now) (filter_map with_last es)) (sym (kept_entries c.args.lives.now c.into_iter-id-iterator.ensures.into_iter_gives.5))
