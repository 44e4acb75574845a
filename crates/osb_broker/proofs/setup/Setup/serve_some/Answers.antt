use Rattle.std.proofs.Common.{rules, map, take, vec_items}
use Rattle.osb_broker.specs.Inside.{given_rules}
use Rattle.osb_broker.proofs.GroupLemmas.{serves_after}
use Rattle.osb_broker.proofs.setup.Setup.serve_some.Goals as goal

pub returns-in-Ok-clause-serves : goal.returns-in-Ok-clause-serves
returns-in-Ok-clause-serves g c = record {
  more = c.in-Ok.made.items;
  follow = search rules;
  serves = rw c.len-count.ensures c.in-Ok.ensures.served;
}

pub returns-in-Err-clause-serves : goal.returns-in-Err-clause-serves
returns-in-Err-clause-serves g c =
    let singly = c.serve_singly.ensures.serves in
    record {
      more = singly.more;
      follow = singly.follow;
      serves = serves_after g.S.Store (given_rules c.args.self.now) c.args.limits.now c.args.most.number c.args.most.allowed.0 (map vec_items (take c.in-Err.count c.args.connections.now)) (map vec_items singly.more)
          c.args.records.now c.serve_group.new.records c.serve_singly.new.records
          (λ works. c.lives_are_whole.ensures.kept works.clean works.live) (λ works. c.lives_are_whole.ensures.whole works.clean works.live)
          c.serve_group.ensures.worked c.in-Err.ensures.undone c.in-Err.ensures.crash singly.serves;
    }
