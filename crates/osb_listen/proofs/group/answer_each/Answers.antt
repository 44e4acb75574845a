use Rattle.std.proofs.Common.{rules, ◌∙◌, ◌+◌, ap, arith, map, refl, vec_items}
use Rattle.std.proofs.lemmas.List.{nil_from_length}
use Rattle.std.specs.Vec.Iter.{into_iter_items}
use Rattle.osb_listen.proofs.GroupLemmas.{all_answered, answered_next, byte_few, byte_is, none_answered}
use Rattle.osb_listen.proofs.group.answer_each.Goals as goal
use Rattle.osb_listen.proofs.group.answer_each.Goals.{in-Some-next, in_default-next}

pub loop-reply-init : goal.loop-reply-init
loop-reply-init g c = record {
  count = search rules;
  few = omega (arith, c.requires.few, c.requires.count, c.into_iter-rest.ensures.len);
  missed = refl;
  unanswered = rw c.into_iter-left.ensures.rest c.requires.unanswered;
  sent = rw (c.into_iter-left.ensures.rest, c.into_iter-rest.ensures.rest) (none_answered _ _ _ _ _ _ _);
}

pub loop-reply-preserved : goal.loop-reply-preserved
loop-reply-preserved g c =
    let before = c.loop-reply.invariant in
    elim c.match-next-2.branch [
      | in-Some-next w ↦
          let sent = rw (w.in-Some-next.ensures.items, c.in-Some.ensures.items) at before.sent in
          record {
            count = omega (arith, before.count, w.in-Some-next.ensures.len, c.in-Some.ensures.len);
            few = omega (arith, before.few, w.ended-is, w.from-ended.ensures, byte_few w.answer_client.result, c.in-Some.ensures.len);
            missed = rw w.entrance-is (w.answer_client.ensures.missed ∙ before.missed);
            unanswered = (rw w.in-Some-next.ensures.items at before.unanswered).1;
            sent = rw (w.entrance-is, w.errors-is, w.ended-is ∙ ap (λ n. c.loop-reply.ended + n) (w.from-ended.ensures ∙ byte_is w.answer_client.result))
                (answered_next _ _ _ _ _ _ _ w.in-Some-next.client _ (vec_items c.in-Some.reply) _ _ w.answer_client.result _ _ _ _ _ _ sent (rw w.deref.ensures.value at w.answer_client.ensures.answered));
          }
      | in_default-next w ↦ absurd (omega (arith, before.count, w.in_default-next.ensures.cases.0, c.in-Some.ensures.len))
    ]

pub returns-clause-sent : goal.returns-clause-sent
returns-clause-sent g c =
    let last = c.loop-reply.invariant in
    all_answered _ _ _ _ _ _ _ _ _ _ _ _ _ (nil_from_length (into_iter_items c.loop-reply.left) (search rules))
    (ap (map vec_items) (nil_from_length (into_iter_items c.loop-reply.rest) (search rules))) last.sent
