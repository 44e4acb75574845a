use Rattle.std.proofs.Common.{◌∙◌, take, drop, ap}
use Rattle.std.proofs.lemmas.List.Folds.{length-prefix_len}
use Rattle.osb_audit.specs.Orders.{is_of}
use Rattle.osb_audit.proofs.RunLemmas.{run_taken, past_dropped}
use Rattle.osb_audit.proofs.audit.orders_of.Goals as goal

pub returns-clause-front : goal.returns-clause-front
returns-clause-front c =
    let passes = is_of c.args.id.now in
    c.split_at.ensures.front ∙ ap (λ n. take n c.args.orders.now) (c.count_orders.ensures ∙ length-prefix_len passes c.args.orders.now) ∙ run_taken passes c.args.orders.now

pub returns-clause-back : goal.returns-clause-back
returns-clause-back c =
    let passes = is_of c.args.id.now in
    c.split_at.ensures.back ∙ ap (λ n. drop n c.args.orders.now) (c.count_orders.ensures ∙ length-prefix_len passes c.args.orders.now) ∙ past_dropped passes c.args.orders.now
