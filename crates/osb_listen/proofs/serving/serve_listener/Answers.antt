use Rattle.std.proofs.Common.{◌+◌, ◌-◌, ◌∙◌, ◌++◌, [], refl, ap, arith, inl, inr, length, length-append}
use Rattle.osb_broker.specs.BrokerState.{lives_of}
use Rattle.osb_broker.proofs.ShutLemmas.{not_touched, worked_then}
use Rattle.osb_listen.proofs.ExchangeLemmas.{all_to_come, ended_few, ended_more, fewer_to_come, none_served, none_to_come, some_more, some_reported}
use Rattle.osb_listen.proofs.serving.serve_listener.Goals as goal
use Rattle.osb_listen.proofs.serving.serve_listener.Goals.{then-loop-left-test+else-requests-gt0, else-loop-left-test}

pub overflow_sub-left : goal.overflow_sub-left
overflow_sub-left g c =
    let served = c.in-Ok.ensures.served in
    omega (arith, served.1, served.3.0, served.3.1, ended_few served.2, c.min-most.ensures)

pub loop-left-init : goal.loop-left-init
unfolding lives_of
loop-left-init g c = record {
  most = refl;
  rules = refl;
  limits = refl;
  missed = refl;
  worked = not_touched;
  served = ([], omega arith, all_to_come _ _ _ _ c.from.ensures (c.from-2.ensures ∙ c.per_connection.ensures.most), none_served _ _ _ _ _ _ _ c.lives_are_whole.ensures.whole c.lives_are_whole.ensures.kept);
}

pub loop-left-preserved : goal.loop-left-preserved
loop-left-preserved g c =
    let before = c.loop-left.invariant in
    let so_far = before.served in
    let next = c.serve_next.ensures in
    let served = rw (before.rules, before.limits, before.most) at c.in-Ok.ensures.served in
    rw c.report.ensures.same (record {
      most = next.most ∙ before.most;
      rules = next.rules ∙ before.rules;
      limits = next.limits ∙ before.limits;
      missed = c.in-Ok.ensures.missed ∙ before.missed;
      worked = worked_then before.worked next.worked;
      served = (
        so_far.0 ++ served.2,
        omega (arith, so_far.1, ended_more so_far.0 served.2, served.3.1, served.1, served.3.0, ended_few served.2, c.min-most.ensures),
        fewer_to_come _ _ _ _ _ _ so_far.2 (length-append so_far.0 served.2 ∙ ap (λ n. length so_far.0 + n) served.3.0) (c.saturating_sub-requests.ensures ∙ ap (λ n. c.loop-left.requests - n) c.from-in-Ok.ensures),
        some_reported _ _ _ _ _ _ _ _ _ _ _ _ _ _
            (some_more _ _ _ _ _ _ _ _ _ _ _ _ _ _ _ so_far.0 served.2 before.worked next.worked so_far.3 served.4)
            c.report.ensures.says,
      );
    })

pub returns-in-Err-clause-served : goal.returns-in-Err-clause-served
returns-in-Err-clause-served g c =
    let served = c.loop-left.invariant.served in
    let next = c.in-Err.ensures in
    let says = rw next.quiet at c.report_rest.ensures.says in
    let reported = some_reported _ _ _ _ _ _ _ _ _ _ _ _ _ _ served.3 says in
    rw (c.report_rest.ensures.same, next.none, next.same) (served.0, tt, omega (arith, served.1, c.loop-left-test.true), reported)

pub returns-clause-served : goal.returns-clause-served
returns-clause-served g c =
    let served = c.loop-left.invariant.served in
    let reported = some_reported _ _ _ _ _ _ _ _ _ _ _ _ _ _ served.3 c.report_rest-2.ensures.says in
    rw c.report_rest-2.ensures.same (
      served.0,
      elim c.loop-left-test.branch [
        | then-loop-left-test+else-requests-gt0 w ↦ inr (omega (arith, served.1, w.loop-left-test.true), none_to_come _ _ _ served.2 w.if-requests-gt0.false)
        | else-loop-left-test w ↦ inl (omega (arith, served.1, w.loop-left-test.false))
      ],
      tt,
      reported,
    )
