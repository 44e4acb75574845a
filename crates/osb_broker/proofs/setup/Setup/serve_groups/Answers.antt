use Rattle.std.proofs.Common.{rules, ◌≡◌, ◌+◌, ◌∙◌, [], map, drop, vec_items, refl, subst, sym, arith}
use Rattle.std.proofs.lemmas.List.{nil_from_length}
use Rattle.osb_broker.specs.Steps.{capped}
use Rattle.osb_broker.specs.Inside.{given_rules, ServesMore}
use Rattle.osb_broker.proofs.GroupLemmas.{all_done, asked_so_far, more_none, more_then, rest_next}
use Rattle.osb_broker.proofs.setup.Setup.serve_groups.Goals as goal

pub loop-rest-init : goal.loop-rest-init
loop-rest-init g c = record {
  blank = c.requires.blank;
  enough = c.requires.enough;
  room = c.requires.room;
  count = search rules;
  serves = (0, refl, more_none c.args.outputs.now.items (λ works. c.lives_are_whole.ensures.whole works.clean works.live) (λ works. c.lives_are_whole.ensures.kept works.clean works.live));
}

pub loop-rest-preserved : goal.loop-rest-preserved
loop-rest-preserved g c =
    let before = c.loop-rest.invariant in
    let next = c.serve_some-count.ensures in
    let done = before.serves.0 in
    let count = c.serve_some-count.result in
    let connections = c.args.connections.now in
    record {
      blank = next.blank;
      enough = omega (arith, before.enough, next.fewer, c.split_at.ensures.back_len);
      room = omega (arith, before.room, next.room, next.count, c.split_at.ensures.back_len);
      count = omega (arith, before.count, next.count, c.split_at.ensures.back_len);
      serves = (
        done + count,
        c.split_at.ensures.back ∙ rest_next connections done count c.loop-rest.rest.now before.serves.1,
        subst (λ asked. ServesMore g.S.Store (capped (given_rules c.args.self.now)) c.args.limits.now c.args.most.number asked c.args.outputs.now.items c.serve_some-count.new.outputs.items c.args.records.now c.serve_some-count.new.records)
            (sym (asked_so_far connections done count c.loop-rest.rest.now before.serves.1))
            (more_then before.serves.2 next.serves),
      );
    }

pub returns-clause-serves : goal.returns-clause-serves
returns-clause-serves g c =
    let last = c.loop-rest.invariant.serves in
    let connections = c.args.connections.now in
    let none : drop last.0 connections ≡ [] = sym last.1 ∙ nil_from_length c.loop-rest.rest.now (search rules) in
    subst (λ asked. ServesMore g.S.Store (capped (given_rules c.args.self.now)) c.args.limits.now c.args.most.number (map vec_items asked) c.args.outputs.now.items c.loop-rest.outputs.items c.args.records.now c.loop-rest.records) (all_done connections last.0 none) last.2
