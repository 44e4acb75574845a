use Rattle.std.proofs.Common.{rules}
use Rattle.osb_orders.proofs.LastLemmas.{ended_last}
use Rattle.osb_orders.proofs.plain.kept.end_last.Goals as goal

pub returns-in_ok-push : goal.returns-in_ok-push
returns-in_ok-push c = ended_last c.args.outcome c.args.life.now.items c.pop.new.self.items c.push.new.self.items c.in-Some.last (search rules) (search rules)
