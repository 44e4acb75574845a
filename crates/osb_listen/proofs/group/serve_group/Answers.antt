use Rattle.std.proofs.Common.{◌∙◌, ◌++◌, ◌≡◌, ◌≤◌, ◌+◌, arith, length, length-append}
use Rattle.osb_broker.proofs.ShutLemmas.{worked_then}
use Rattle.osb_listen.specs.Exchanges.{ended_in}
use Rattle.osb_listen.proofs.ExchangeLemmas.{ended_few, ended_more, some_more}
use Rattle.osb_listen.proofs.GroupLemmas.{taken_on}
use Rattle.osb_listen.proofs.group.serve_group.Goals as goal

pub overflow_add-result : goal.overflow_add-result
overflow_add-result g c =
    let taken = c.take_group-turn.ensures.taken in
    let last = c.answer_last-ended.ensures.served in
    omega (arith, c.ranges.most.fits, c.take_group-turn.ensures.some.1, taken.counted, taken.ended_are, ended_few taken.exchanges, last.1.0, last.1.1, ended_few last.0)

pub overflow_add-result-2 : goal.overflow_add-result-2
overflow_add-result-2 g c =
    let taken = c.take_group-turn.ensures.taken in
    let last = c.answer_last-ended.ensures.served in
    let rest = c.answer_open-more.ensures.served in
    omega (arith, c.ranges.most.fits, c.take_group-turn.ensures.some.1, taken.counted, taken.ended_are, ended_few taken.exchanges, last.1.0, last.1.1, ended_few last.0, rest.1.0, rest.1.1, ended_few rest.0)

pub returns-clause-served : goal.returns-clause-served
returns-clause-served g c =
    let group = c.take_group-turn.ensures in
    let last = c.answer_last-ended.ensures in
    let rest = c.answer_open-more.ensures in
    let taken = group.taken in
    let some = rw (group.rules, group.limits, group.most) at last.served in
    let more = rw (last.rules ∙ group.rules, group.limits, last.most ∙ group.most) at rest.served in
    let early = taken_on _ _ _ _ _ _ taken _ _ _ _ group.worked last.worked some.0 some.2 in (
      (taken.exchanges ++ some.0) ++ more.0,
      (
        omega (arith, length-append (taken.exchanges ++ some.0) more.0, length-append taken.exchanges some.0, taken.counted, some.1.0, more.1.0),
        omega (arith, ended_more (taken.exchanges ++ some.0) more.0, ended_more taken.exchanges some.0, taken.ended_are, some.1.1, more.1.1),
      ),
      some_more _ _ _ _ _ _ _ _ _ _ _ _ _ _ _ (taken.exchanges ++ some.0) more.0 (worked_then group.worked last.worked) rest.worked early more.2,
    )

pub returns-clause-worked : goal.returns-clause-worked
returns-clause-worked g c = worked_then (worked_then c.take_group-turn.ensures.worked c.answer_last-ended.ensures.worked) c.answer_open-more.ensures.worked
