use Rattle.std.proofs.Common.{◌≡◌, [], ◌∷◌, Some, None, Ok, Err, ◌+◌, ◌-◌, ◌==◌, ◌<◌, ◌++◌, take, drop, length, inl, inr, refl, ap, ◌∙◌, arith}
use Rattle.std.proofs.lemmas.List.{length-take, length-drop, nil_from_length}
use Rattle.std.proofs.Math.Seq.{take-add}
use Rattle.std.proofs.lemmas.Grind.{common_steps}
use Rattle.osb_frames.specs.Calls.{all_bytes}
use Rattle.osb_frames.specs.Steps.{message}
use Rattle.osb_broker.specs.Steps.{machine}
use Rattle.osb_broker.specs.Inside.{given_most, given_rules}
use Rattle.osb_broker.specs.Answering.{AnswersOrLost}
use Rattle.osb_broker.specs.Serving.{NothingWaits}
use Rattle.osb_broker.proofs.CallLemmas.{all_more, all_failed}
use Rattle.osb_broker.proofs.CrashLemmas.{leaves_next, leaves_stored, leaves_weaker}
use Rattle.osb_broker.proofs.HoldLemmas.{gave_nothing, gave_more, gave_failed, holding_start, read_broken, holding_fed, holding_more, closing_held, breaking_held, refusing_ok, refusing_err, ending_held, none_held, left_start, left_more, left_fed}
use Rattle.osb_broker.proofs.LostLemmas.{breaking_or_lost, closing_or_lost, not_lost, shown}
use Rattle.osb_broker.proofs.ReadLemmas.{ended_here, failed_here, found_end, fruitful_yet, fruitful_more, needed_more, none_needed, reads_so_far}
use Rattle.osb_broker.proofs.ShutLemmas.{go_through, lives_stay, not_touched, worked_then}
use Rattle.osb_broker.proofs.setup.Setup.serve_in.Goals as goal
use Rattle.osb_broker.proofs.setup.Setup.serve_in.Goals.{then-n-eq0, else-n-eq0}

pub loop-left-init : goal.loop-left-init
loop-left-init g c = record {
  kept = refl;
  failed = refl;
  inside = omega arith;
  met = refl;
  worked = not_touched;
  holding = (
    [],
    gave_nothing _ _,
    left_start c.args.limits.now (given_most c.args.self.now),
    (λ before after go. rw (lives_stay go) (holding_start (machine (given_rules c.args.self.now)) c.args.limits.now (given_most c.args.self.now) before _)),
    tt,
    none_needed c.args.limits.now (given_most c.args.self.now) _,
    (λ works clean. leaves_stored (c.lives_are_whole.ensures.whole works.clean works.live) (c.lives_are_whole.ensures.kept works.clean works.live) (holding_start (machine (given_rules c.args.self.now)) c.args.limits.now (given_most c.args.self.now) _ _)),
  );
}

pub returns-in-Ok-true-clause-outcome : goal.returns-in-Ok-true-clause-outcome
returns-in-Ok-true-clause-outcome g c =
    let q = message c.in-Whole.request in
    let calls = c.loop-left.invariant.holding.0 in
    let got = all_bytes calls in
    let held = take c.loop-left.filled c.loop-left.room in (
      calls,
      c.loop-left.invariant.holding.1,
      reads_so_far c.loop-left.ended calls c.loop-left.invariant.holding.4,
      c.loop-left.invariant.holding.5,
      (λ before after go.
          let through = go_through c.loop-left.invariant.worked c.in-Ok-true.ensures.worked before after go in
          inl (closing_held (machine (given_rules c.args.self.now)) c.args.limits.now (given_most c.args.self.now) before got _ c.loop-left.left _ _ held q c.in-Whole.used (c.loop-left.left - 1) _ _ _ _ _ _
          (record { holding = c.loop-left.invariant.holding.3 before through.0 through.1; front = c.in-Whole.ensures.stays; inside = c.in-Whole.ensures.size.1; fewer = omega arith })
          (c.in-Ok-true.ensures.answers through.0 after through.2)
          c.in-Ok-true.field-0-test c.loop-left.invariant.met)),
      (λ works clean. leaves_next (λ u t. AnswersOrLost (machine (given_rules c.args.self.now)) q (c.loop-left.left - 1 == 0) u t _ _ _ _ (Ok c.in-Ok-true.field-0))
          c.loop-left.invariant.worked c.in-Ok-true.ensures.worked
          c.loop-left.invariant.holding.6 (λ w. c.loop-left.invariant.holding.3 _ _ (inl (w, refl, refl)))
          c.in-Ok-true.ensures.leaves (λ lives clean shut. record { is = inl (c.in-Ok-true.ensures.answers lives lives (inr (clean, shut, refl))) })
          (λ u t so_far answers. closing_or_lost (machine (given_rules c.args.self.now)) c.args.limits.now (given_most c.args.self.now) _ calls _ c.loop-left.left _ u held q c.in-Whole.used (c.loop-left.left - 1)
          (record { holding = so_far; front = c.in-Whole.ensures.stays; inside = c.in-Whole.ensures.size.1; fewer = omega arith })
          t _ _ _ _ c.in-Ok-true.field-0 answers c.in-Ok-true.field-0-test c.loop-left.invariant.met)
          works clean),
    )

pub returns-in-Err-clause-outcome : goal.returns-in-Err-clause-outcome
returns-in-Err-clause-outcome g c =
    let q = message c.in-Whole.request in
    let calls = c.loop-left.invariant.holding.0 in
    let got = all_bytes calls in
    let held = take c.loop-left.filled c.loop-left.room in (
      calls,
      c.loop-left.invariant.holding.1,
      reads_so_far c.loop-left.ended calls c.loop-left.invariant.holding.4,
      c.loop-left.invariant.holding.5,
      (λ before after go.
          let through = go_through c.loop-left.invariant.worked c.in-Err.ensures.worked before after go in
          inl (breaking_held (machine (given_rules c.args.self.now)) c.args.limits.now (given_most c.args.self.now) before got _ c.loop-left.left _ _ held q c.in-Whole.used (c.loop-left.left - 1) _ _ _ _ c.in-Err.field-0
          (record { holding = c.loop-left.invariant.holding.3 before through.0 through.1; front = c.in-Whole.ensures.stays; inside = c.in-Whole.ensures.size.1; fewer = omega arith })
          (c.in-Err.ensures.answers through.0 after through.2))),
      (λ works clean. leaves_next (λ u t. AnswersOrLost (machine (given_rules c.args.self.now)) q (c.loop-left.left - 1 == 0) u t _ _ _ _ (Err c.in-Err.field-0))
          c.loop-left.invariant.worked c.in-Err.ensures.worked
          c.loop-left.invariant.holding.6 (λ w. c.loop-left.invariant.holding.3 _ _ (inl (w, refl, refl)))
          c.in-Err.ensures.leaves (λ lives clean shut. record { is = inl (c.in-Err.ensures.answers lives lives (inr (clean, shut, refl))) })
          (λ u t so_far answers. breaking_or_lost (machine (given_rules c.args.self.now)) c.args.limits.now (given_most c.args.self.now) _ calls _ c.loop-left.left _ u held q c.in-Whole.used (c.loop-left.left - 1)
          (record { holding = so_far; front = c.in-Whole.ensures.stays; inside = c.in-Whole.ensures.size.1; fewer = omega arith })
          t _ _ _ _ c.in-Err.field-0 answers)
          works clean),
    )

pub loop-left-preserved-in-Whole : goal.loop-left-preserved-in-Whole
loop-left-preserved-in-Whole g c =
    let q = message c.in-Whole.request in
    let calls = c.loop-left.invariant.holding.0 in
    let got = all_bytes calls in
    let held = take c.loop-left.filled c.loop-left.room in
    record {
      kept = c.in-Ok-false.ensures.ok ∙ c.loop-left.invariant.kept;
      failed = c.loop-left.invariant.failed;
      inside = grind (arith, common_steps);
      met = c.loop-left.invariant.met;
      worked = worked_then c.loop-left.invariant.worked c.in-Ok-false.ensures.worked;
      holding = (
        calls,
        c.loop-left.invariant.holding.1,
        rw c.shift.ensures (left_more c.args.limits.now (given_most c.args.self.now) got c.loop-left.left held q c.in-Whole.used (c.loop-left.left - 1) c.loop-left.invariant.holding.2 c.in-Whole.ensures.stays c.in-Whole.ensures.size.1 (omega arith) (c.in-Ok-false.ensures.closes c.in-Ok-false.field-0-test)),
        (λ before after go.
            let through = go_through c.loop-left.invariant.worked c.in-Ok-false.ensures.worked before after go in
            rw c.shift.ensures (holding_more (machine (given_rules c.args.self.now)) c.args.limits.now (given_most c.args.self.now) before got _ c.loop-left.left _ _ held q c.in-Whole.used (c.loop-left.left - 1) _ _ _ _ _
            (record { holding = c.loop-left.invariant.holding.3 before through.0 through.1; front = c.in-Whole.ensures.stays; inside = c.in-Whole.ensures.size.1; fewer = omega arith })
            (c.in-Ok-false.ensures.answers through.0 after through.2)
            c.in-Ok-false.field-0-test)),
        c.loop-left.invariant.holding.4,
        c.loop-left.invariant.holding.5,
        rw c.shift.ensures (λ works clean. leaves_next (λ u t. AnswersOrLost (machine (given_rules c.args.self.now)) q (c.loop-left.left - 1 == 0) u t _ _ _ _ (Ok c.in-Ok-false.field-0))
            c.loop-left.invariant.worked c.in-Ok-false.ensures.worked
            c.loop-left.invariant.holding.6 (λ w. c.loop-left.invariant.holding.3 _ _ (inl (w, refl, refl)))
            c.in-Ok-false.ensures.leaves (λ lives clean shut. record { is = inl (c.in-Ok-false.ensures.answers lives lives (inr (clean, shut, refl))) })
            (λ u t so_far answers. not_lost (machine (given_rules c.args.self.now)) c.args.limits.now (given_most c.args.self.now) _ calls _ c.loop-left.left _ u held q c.in-Whole.used (c.loop-left.left - 1)
            (record { holding = so_far; front = c.in-Whole.ensures.stays; inside = c.in-Whole.ensures.size.1; fewer = omega arith })
            t _ _ _ c.in-Ok-false.field-0 answers c.in-Ok-false.field-0-test)
            works clean),
      );
    }

pub returns-in-Ok-clause-outcome : goal.returns-in-Ok-clause-outcome
returns-in-Ok-clause-outcome g c =
    let calls = c.loop-left.invariant.holding.0 in
    let got = all_bytes calls in
    let held = take c.loop-left.filled c.loop-left.room in (
      calls,
      c.loop-left.invariant.holding.1,
      reads_so_far c.loop-left.ended calls c.loop-left.invariant.holding.4,
      c.loop-left.invariant.holding.5,
      (λ before after go. refusing_ok (machine (given_rules c.args.self.now)) c.args.limits.now (given_most c.args.self.now) before calls _ c.loop-left.left _ _ held c.in-Stop.kind c.loop-left.ended (c.loop-left.left - 1) _ _ _ _
          (c.loop-left.invariant.holding.3 before after go) c.in-Stop.ensures.stays (found_end c.loop-left.ended calls c.loop-left.invariant.holding.4) (omega arith) c.in-Ok.ensures.writes),
      (λ works clean. leaves_weaker (λ lives so_far. shown (refusing_ok (machine (given_rules c.args.self.now)) c.args.limits.now (given_most c.args.self.now) _ calls _ c.loop-left.left _ _ held c.in-Stop.kind c.loop-left.ended (c.loop-left.left - 1) _ _ _ _
          so_far c.in-Stop.ensures.stays (found_end c.loop-left.ended calls c.loop-left.invariant.holding.4) (omega arith) c.in-Ok.ensures.writes)) (c.loop-left.invariant.holding.6 works clean)),
    )

pub returns-in-Err-refuse-clause-outcome : goal.returns-in-Err-refuse-clause-outcome
returns-in-Err-refuse-clause-outcome g c =
    let calls = c.loop-left.invariant.holding.0 in
    let got = all_bytes calls in
    let held = take c.loop-left.filled c.loop-left.room in (
      calls,
      c.loop-left.invariant.holding.1,
      reads_so_far c.loop-left.ended calls c.loop-left.invariant.holding.4,
      c.loop-left.invariant.holding.5,
      (λ before after go. refusing_err (machine (given_rules c.args.self.now)) c.args.limits.now (given_most c.args.self.now) before calls _ c.loop-left.left _ _ held c.in-Stop.kind c.loop-left.ended (c.loop-left.left - 1) _ _ _ c.in-Err-refuse.field-0
          (c.loop-left.invariant.holding.3 before after go) c.in-Stop.ensures.stays (found_end c.loop-left.ended calls c.loop-left.invariant.holding.4) (omega arith) c.in-Err-refuse.ensures.writes),
      (λ works clean. leaves_weaker (λ lives so_far. shown (refusing_err (machine (given_rules c.args.self.now)) c.args.limits.now (given_most c.args.self.now) _ calls _ c.loop-left.left _ _ held c.in-Stop.kind c.loop-left.ended (c.loop-left.left - 1) _ _ _ c.in-Err-refuse.field-0
          so_far c.in-Stop.ensures.stays (found_end c.loop-left.ended calls c.loop-left.invariant.holding.4) (omega arith) c.in-Err-refuse.ensures.writes)) (c.loop-left.invariant.holding.6 works clean)),
    )

pub returns-in-Ended-clause-outcome : goal.returns-in-Ended-clause-outcome
returns-in-Ended-clause-outcome g c =
    let calls = c.loop-left.invariant.holding.0 in
    let got = all_bytes calls in
    let held = take c.loop-left.filled c.loop-left.room in (
      calls,
      c.loop-left.invariant.holding.1,
      reads_so_far c.loop-left.ended calls c.loop-left.invariant.holding.4,
      c.loop-left.invariant.holding.5,
      (λ before after go. inr (ending_held (machine (given_rules c.args.self.now)) c.args.limits.now (given_most c.args.self.now) before got _ c.loop-left.left _ _ held (c.loop-left.left - 1) _ (c.loop-left.invariant.holding.3 before after go) (omega arith) c.in-Ended.ensures.says.1 c.loop-left.invariant.met, found_end c.loop-left.ended calls c.loop-left.invariant.holding.4 c.in-Ended.ensures.says.0)),
      (λ works clean. leaves_weaker (λ lives so_far. shown (inr (ending_held (machine (given_rules c.args.self.now)) c.args.limits.now (given_most c.args.self.now) _ got _ c.loop-left.left _ _ held (c.loop-left.left - 1) _ so_far (omega arith) c.in-Ended.ensures.says.1 c.loop-left.invariant.met, found_end c.loop-left.ended calls c.loop-left.invariant.holding.4 c.in-Ended.ensures.says.0))) (c.loop-left.invariant.holding.6 works clean)),
    )

pub fill-requires : goal.fill-requires
fill-requires g c =
    let held = take c.loop-left.filled c.loop-left.room in
    let small : length held < c.args.limits.now.head + c.args.limits.now.body = c.in-More.ensures.room in
    let len = length-take c.loop-left.filled c.loop-left.room in
    let same = c.loop-left.auto.room in
    let inside = c.loop-left.invariant.inside in
    omega arith

pub loop-left-preserved : goal.loop-left-preserved
loop-left-preserved g c =
    let calls = c.loop-left.invariant.holding.0 in
    let got = all_bytes calls in
    let held = take c.loop-left.filled c.loop-left.room in
    let n = c.in-Ok-fill.n in
    let piece = take n (drop c.loop-left.filled c.fill.new.room) in
    let gave_bytes = fruitful_yet c.loop-left.ended calls c.in-More.ensures.says.0 c.loop-left.invariant.holding.4 in
    let size : length piece ≡ n = omega (arith, length-take n (drop c.loop-left.filled c.fill.new.room), length-drop c.loop-left.filled c.fill.new.room, c.in-Ok-fill.ensures.bound) in
    let front : take (c.loop-left.filled + n) c.fill.new.room ≡ held ++ piece = take-add c.loop-left.filled n c.fill.new.room ∙ ap (λ l. l ++ piece) c.in-Ok-fill.ensures.kept in
    record {
      kept = c.loop-left.invariant.kept;
      failed = c.in-Ok-fill.ensures.failed ∙ c.loop-left.invariant.failed;
      inside = grind (arith, common_steps, c.in-Ok-fill.ensures.bound);
      met = c.loop-left.invariant.met;
      worked = c.loop-left.invariant.worked;
      holding = (
        calls ++ Some piece ∷ [],
        gave_more _ _ _ _ _ _ calls piece c.loop-left.invariant.holding.1 c.in-Ok-fill.ensures.called c.in-Ok-fill.ensures.known.0 (λ none. c.in-Ok-fill.ensures.known.1 (omega (arith, size, ap length none))),
        rw (front, all_more calls piece) (left_fed c.args.limits.now (given_most c.args.self.now) got c.loop-left.left held piece c.loop-left.invariant.holding.2),
        (λ before after go. rw (front, all_more calls piece) (holding_fed (machine (given_rules c.args.self.now)) c.args.limits.now (given_most c.args.self.now) before got _ c.loop-left.left _ _ held piece (c.loop-left.invariant.holding.3 before after go))),
        elim c.if-n-eq0.branch [
          | then-n-eq0 w ↦ rw w.ended-is (ended_here calls piece gave_bytes (nil_from_length piece (omega (arith, size, w.if-n-eq0.true))))
          | else-n-eq0 w ↦ rw (w.ended-is, c.in-More.ensures.says.0) (fruitful_more calls piece gave_bytes (omega (arith, size, w.if-n-eq0.false)))
        ],
        needed_more c.args.limits.now (given_most c.args.self.now) _ calls (Some piece) c.loop-left.invariant.holding.5 (record {
          left = c.loop-left.left;
          some = c.loop-left-test.true;
          held = held;
          past = c.loop-left.invariant.holding.2;
          waits = record {
            request = λ q m at. c.in-More.ensures.finds q m at;
            stop = λ f final at. let e = c.in-More.ensures.stops f final at in cc;
            hope = c.in-More.ensures.hope;
          };
          free = omega (arith, c.in-More.ensures.room, c.loop-left.auto.room);
          fits = omega (arith, size, c.in-Ok-fill.ensures.bound, length-take c.loop-left.filled c.loop-left.room);
        }),
        (λ works clean. leaves_weaker (λ lives so_far. rw (front, all_more calls piece) (holding_fed (machine (given_rules c.args.self.now)) c.args.limits.now (given_most c.args.self.now) _ got _ c.loop-left.left _ lives held piece so_far)) (c.loop-left.invariant.holding.6 works clean)),
      );
    }

pub returns-in-Err-fill-clause-outcome : goal.returns-in-Err-fill-clause-outcome
returns-in-Err-fill-clause-outcome g c =
    let calls = c.loop-left.invariant.holding.0 in
    let got = all_bytes calls in
    let held = take c.loop-left.filled c.loop-left.room in
    let waits : NothingWaits c.args.limits.now held = record {
      request = λ q m at. c.in-More.ensures.finds q m at;
      stop = λ f final at. let e = c.in-More.ensures.stops f final at in cc;
      hope = c.in-More.ensures.hope;
    } in (
      calls ++ None ∷ [],
      gave_failed _ _ _ _ _ _ calls c.loop-left.invariant.holding.1 c.in-Err-fill.ensures.called c.in-Err-fill.ensures.known,
      failed_here calls (fruitful_yet c.loop-left.ended calls c.in-More.ensures.says.0 c.loop-left.invariant.holding.4),
      needed_more c.args.limits.now (given_most c.args.self.now) _ calls None c.loop-left.invariant.holding.5 (record {
        left = c.loop-left.left;
        some = c.loop-left-test.true;
        held = held;
        past = c.loop-left.invariant.holding.2;
        waits = waits;
        free = omega (arith, c.in-More.ensures.room, c.loop-left.auto.room);
        fits = omega (arith, c.loop-left.auto.room, c.loop-left.invariant.inside, length-take c.loop-left.filled c.loop-left.room);
      }),
      (λ before after go. rw (all_failed calls) (read_broken (machine (given_rules c.args.self.now)) c.args.limits.now (given_most c.args.self.now) before got _ c.loop-left.left _ _ held c.loop-left-test.true waits (c.loop-left.invariant.holding.3 before after go))),
      (λ works clean. leaves_weaker (λ lives so_far. shown (rw (all_failed calls) (read_broken (machine (given_rules c.args.self.now)) c.args.limits.now (given_most c.args.self.now) _ got _ c.loop-left.left _ _ held c.loop-left-test.true waits so_far))) (c.loop-left.invariant.holding.6 works clean)),
    )

pub returns-clause-outcome : goal.returns-clause-outcome
returns-clause-outcome g c =
    let calls = c.loop-left.invariant.holding.0 in
    let got = all_bytes calls in
    let held = take c.loop-left.filled c.loop-left.room in (
      calls,
      c.loop-left.invariant.holding.1,
      reads_so_far c.loop-left.ended calls c.loop-left.invariant.holding.4,
      c.loop-left.invariant.holding.5,
      (λ before after go. inl (none_held (machine (given_rules c.args.self.now)) c.args.limits.now (given_most c.args.self.now) before got _ c.loop-left.left _ _ held _ (c.loop-left.invariant.holding.3 before after go) (omega arith) c.loop-left.invariant.met)),
      (λ works clean. leaves_weaker (λ lives so_far. shown (inl (none_held (machine (given_rules c.args.self.now)) c.args.limits.now (given_most c.args.self.now) _ got _ c.loop-left.left _ _ held _ so_far (omega arith) c.loop-left.invariant.met))) (c.loop-left.invariant.holding.6 works clean)),
    )
