use Rattle.std.proofs.Common.{◌≡◌, false, inl, inr, [], ◌∷◌, Some, None, ◌+◌, ◌++◌, take, drop, length, refl, sym, ap, ◌∙◌, arith}
use Rattle.std.proofs.lemmas.List.{length-take, length-drop}
use Rattle.std.proofs.Math.Seq.{take-add}
use Rattle.std.proofs.lemmas.Grind.{common_steps}
use Rattle.osb_frames.specs.Calls.{all_bytes}
use Rattle.osb_broker.specs.Serving.{NothingWaits}
use Rattle.osb_frames.specs.Steps.{message}
use Rattle.osb_asks.specs.Asks.{ask_of, is_early}
use Rattle.osb_broker.specs.Begun.{IsWaiting}
use Rattle.osb_broker.specs.Steps.{machine}
use Rattle.osb_broker.specs.Inside.{given_rules}
use Rattle.osb_broker.proofs.BegunLemmas.{none_passed, reads_all, so_far_more}
use Rattle.osb_broker.proofs.OpenLemmas.{IsOpen, ends_so, open_of, stays_so, begun_weaker}
use Rattle.osb_broker.proofs.CrashLemmas.{leaves_stored}
use Rattle.osb_broker.proofs.LostLemmas.{shown}
use Rattle.osb_broker.proofs.ShutLemmas.{lives_stay, not_touched}
use Rattle.osb_broker.proofs.CallLemmas.{all_more, all_failed}
use Rattle.osb_broker.proofs.HoldLemmas.{ending_held, gave_nothing, gave_more, gave_failed, read_broken, refusing_err, refusing_ok}
use Rattle.osb_broker.proofs.ReadLemmas.{failed_here, found_end, fruitful_yet, needed_more, none_needed, reads_so_far}
use Rattle.osb_broker.proofs.setup.Setup.begin_in.Goals as goal

pub loop-request-init : goal.loop-request-init
loop-request-init g c = record {
  records = refl;
  sink = refl;
  met = refl;
  waiting = refl;
  staying = refl;
  inside = omega arith;
  received = ([], gave_nothing _ _, refl, tt, none_needed c.args.limits.now 1 _);
}

pub loop-request-preserved : goal.loop-request-preserved
loop-request-preserved g c =
    let before = c.loop-request.invariant.received in
    let calls = before.0 in
    let held = take c.loop-request.filled c.loop-request.room in
    let n = c.in-Ok-fill.n in
    let piece = take n (drop c.loop-request.filled c.fill.new.room) in
    let gave_bytes = fruitful_yet c.loop-request.ended calls c.in-More.ensures.says.0 before.3 in
    let size : length piece ≡ n = omega (arith, length-take n (drop c.loop-request.filled c.fill.new.room), length-drop c.loop-request.filled c.fill.new.room, c.in-Ok-fill.ensures.bound) in
    let front : take (c.loop-request.filled + n) c.fill.new.room ≡ held ++ piece = take-add c.loop-request.filled n c.fill.new.room ∙ ap (λ l. l ++ piece) c.in-Ok-fill.ensures.kept in
    record {
      records = c.loop-request.invariant.records;
      sink = c.loop-request.invariant.sink;
      met = c.loop-request.invariant.met;
      waiting = c.loop-request.invariant.waiting;
      staying = c.loop-request.invariant.staying;
      inside = grind (arith, common_steps, c.in-Ok-fill.ensures.bound);
      received = (
        calls ++ Some piece ∷ [],
        gave_more _ _ _ _ _ _ calls piece before.1 c.in-Ok-fill.ensures.called c.in-Ok-fill.ensures.known.0 (λ none. c.in-Ok-fill.ensures.known.1 (omega (arith, size, ap length none))),
        front ∙ ap (λ l. l ++ piece) before.2 ∙ sym (all_more calls piece),
        so_far_more calls piece n size gave_bytes,
        needed_more c.args.limits.now 1 _ calls (Some piece) before.4 (record {
          left = 1;
          some = omega arith;
          held = held;
          past = none_passed c.args.limits.now (all_bytes calls) held before.2;
          waits = record {
            request = λ q m at. c.in-More.ensures.finds q m at;
            stop = λ f final at. let e = c.in-More.ensures.stops f final at in cc;
            hope = c.in-More.ensures.hope;
          };
          free = omega (arith, c.in-More.ensures.room, c.loop-request.auto.room, c.requires);
          fits = omega (arith, size, c.in-Ok-fill.ensures.bound, length-take c.loop-request.filled c.loop-request.room);
        }),
      );
    }

pub returns-in-Whole-clause-begun : goal.returns-in-Whole-clause-begun
returns-in-Whole-clause-begun g c =
    let rules = given_rules c.args.self.now in
    let limits = c.args.limits.now in
    let inv = c.loop-request.invariant in
    let before = inv.received in
    let calls = before.0 in
    let held = take c.loop-request.filled c.loop-request.room in
    let q = message c.in-Whole.request in
    let n = c.in-Whole.used in
    let front = c.in-Whole.ensures.stays in
    let inside = c.in-Whole.ensures.size.1 in
    let last = c.is_last-last.result in
    let size : length held ≡ c.loop-request.filled = omega (arith, length-take c.loop-request.filled c.loop-request.room, inv.inside, c.loop-request.auto.room) in
    let open_if : last ≡ false → IsOpen c.args.left calls held q n = λ e. open_of c.args.left n c.loop-request.filled c.loop-request.ended calls held q (sym c.is_last-last.ensures ∙ e) c.requires.left size before.3 in
    let reads = reads_so_far c.loop-request.ended calls before.3 in
    let replied = rw (inv.records, inv.sink, inv.waiting, inv.staying) at c.keep_or_answer.ensures.begun in
    let waits_by : is_early (ask_of rules q) ≡ false → IsWaiting rules limits calls held = λ late. record { reads = reads; are = before.2; q = q; n = n; front = front; inside = inside; late = late } in (
      calls,
      before.1,
      before.4,
      begun_weaker c.keep_or_answer.result _ _ _ _ _ _ _ _
          (λ ended it.
          let so = ends_so rules limits c.args.left calls held q n before.2 front inside _ _ _ _ g.S.Store c.args.records.now c.keep_or_answer.new.records last open_if c.loop-request.met_fault inv.met reads ended it.2 it.3 it.4 in
          (it.0, it.1, so.0, so.1, so.2, so.3))
          (λ it.
          let so = stays_so rules limits c.args.left calls held q n before.2 front inside _ _ _ _ g.S.Store c.args.records.now c.keep_or_answer.new.records last open_if it.2 in
          (it.0, it.1, reads, it.2.ok, inv.met, so.0, so.1))
          (λ it. (held, it.0, it.2, it.3, waits_by it.4, it.5, it.6, inv.met))
          (λ it.
          let is_open = open_if it.1 in
          (held, it.0, it.2, it.3, record { some = is_open.some; waits = waits_by it.4; exact = omega (arith, is_open.all, inside); goes_on = is_open.goes_on; gave_bytes = is_open.gave_bytes }, it.5, it.6, inv.met))
          replied,
    )

pub returns-in-Ok-clause-begun : goal.returns-in-Ok-clause-begun
returns-in-Ok-clause-begun g c =
    let rules = given_rules c.args.self.now in
    let limits = c.args.limits.now in
    let inv = c.loop-request.invariant in
    let before = inv.received in
    let calls = before.0 in
    let held = take c.loop-request.filled c.loop-request.room in
    let writes = rw inv.sink at c.in-Ok.ensures.writes in (
      calls,
      before.1,
      before.4,
      (
        c.loop-request.invariant.waiting,
        c.loop-request.invariant.staying,
        reads_so_far c.loop-request.ended calls before.3,
        writes.1,
        (λ was now go. rw (lives_stay (rw inv.records at go)) (inl (refusing_ok (machine rules) limits 1 was calls _ 1 _ was held c.in-Stop.kind c.loop-request.ended 0 _ _ _ _
            (reads_all (machine rules) limits was (all_bytes calls) held _ before.2) c.in-Stop.ensures.stays (found_end c.loop-request.ended calls before.3) refl writes))),
        (λ works clean. rw inv.records (leaves_stored (c.lives_are_whole.ensures.whole works.clean works.live) (c.lives_are_whole.ensures.kept works.clean works.live)
            (inl (shown (refusing_ok (machine rules) limits 1 _ calls _ 1 _ _ held c.in-Stop.kind c.loop-request.ended 0 _ _ _ _
            (reads_all (machine rules) limits _ (all_bytes calls) held _ before.2) c.in-Stop.ensures.stays (found_end c.loop-request.ended calls before.3) refl writes))))),
      ),
    )

pub returns-in-Err-clause-begun : goal.returns-in-Err-clause-begun
returns-in-Err-clause-begun g c =
    let rules = given_rules c.args.self.now in
    let limits = c.args.limits.now in
    let inv = c.loop-request.invariant in
    let before = inv.received in
    let calls = before.0 in
    let held = take c.loop-request.filled c.loop-request.room in
    let writes = rw inv.sink at c.in-Err.ensures.writes in (
      calls,
      before.1,
      before.4,
      (
        c.loop-request.invariant.waiting,
        c.loop-request.invariant.staying,
        reads_so_far c.loop-request.ended calls before.3,
        writes.3,
        (λ was now go. rw (lives_stay (rw inv.records at go)) (inl (refusing_err (machine rules) limits 1 was calls _ 1 _ was held c.in-Stop.kind c.loop-request.ended 0 _ _ _ c.in-Err.field-0
            (reads_all (machine rules) limits was (all_bytes calls) held _ before.2) c.in-Stop.ensures.stays (found_end c.loop-request.ended calls before.3) refl writes))),
        (λ works clean. rw inv.records (leaves_stored (c.lives_are_whole.ensures.whole works.clean works.live) (c.lives_are_whole.ensures.kept works.clean works.live)
            (inl (shown (refusing_err (machine rules) limits 1 _ calls _ 1 _ _ held c.in-Stop.kind c.loop-request.ended 0 _ _ _ c.in-Err.field-0
            (reads_all (machine rules) limits _ (all_bytes calls) held _ before.2) c.in-Stop.ensures.stays (found_end c.loop-request.ended calls before.3) refl writes))))),
      ),
    )

pub returns-in-Ended-clause-begun : goal.returns-in-Ended-clause-begun
returns-in-Ended-clause-begun g c =
    let rules = given_rules c.args.self.now in
    let limits = c.args.limits.now in
    let inv = c.loop-request.invariant in
    let before = inv.received in
    let calls = before.0 in
    let held = take c.loop-request.filled c.loop-request.room in
    let over = found_end c.loop-request.ended calls before.3 c.in-Ended.ensures.says.0 in (
      calls,
      before.1,
      before.4,
      (
        c.loop-request.invariant.waiting,
        c.loop-request.invariant.staying,
        reads_so_far c.loop-request.ended calls before.3,
        rw inv.sink refl,
        (λ was now go. rw (lives_stay (rw inv.records at go), inv.sink) (inl (inr (ending_held (machine rules) limits 1 was (all_bytes calls) _ 1 _ was held 0 _ (reads_all (machine rules) limits was (all_bytes calls) held _ before.2) refl c.in-Ended.ensures.says.1 inv.met, over)))),
        (λ works clean. rw (inv.records, inv.sink) (leaves_stored (c.lives_are_whole.ensures.whole works.clean works.live) (c.lives_are_whole.ensures.kept works.clean works.live)
            (inl (shown (inr (ending_held (machine rules) limits 1 _ (all_bytes calls) _ 1 _ _ held 0 _ (reads_all (machine rules) limits _ (all_bytes calls) held _ before.2) refl c.in-Ended.ensures.says.1 inv.met, over)))))),
      ),
    )

pub returns-in-Err-fill-clause-begun : goal.returns-in-Err-fill-clause-begun
returns-in-Err-fill-clause-begun g c =
    let rules = given_rules c.args.self.now in
    let limits = c.args.limits.now in
    let inv = c.loop-request.invariant in
    let before = inv.received in
    let calls = before.0 in
    let held = take c.loop-request.filled c.loop-request.room in
    let waits : NothingWaits limits held = record {
      request = λ q m at. c.in-More.ensures.finds q m at;
      stop = λ f final at. let e = c.in-More.ensures.stops f final at in cc;
      hope = c.in-More.ensures.hope;
    } in (
      calls ++ None ∷ [],
      gave_failed _ _ _ _ _ _ calls before.1 c.in-Err-fill.ensures.called c.in-Err-fill.ensures.known,
      needed_more limits 1 _ calls None before.4 (record {
        left = 1;
        some = omega arith;
        held = held;
        past = none_passed limits (all_bytes calls) held before.2;
        waits = waits;
        free = omega (arith, c.in-More.ensures.room, c.loop-request.auto.room, c.requires);
        fits = omega (arith, c.loop-request.auto.room, inv.inside, length-take c.loop-request.filled c.loop-request.room);
      }),
      (
        c.loop-request.invariant.waiting,
        c.loop-request.invariant.staying,
        failed_here calls (fruitful_yet c.loop-request.ended calls c.in-More.ensures.says.0 before.3),
        rw inv.sink refl,
        (λ was now go. rw (lives_stay (rw inv.records at go), inv.sink, all_failed calls) (inl (read_broken (machine rules) limits 1 was (all_bytes calls) _ 1 _ was held (omega arith) waits (reads_all (machine rules) limits was (all_bytes calls) held _ before.2)))),
        (λ works clean. rw (inv.records, inv.sink) (leaves_stored (c.lives_are_whole.ensures.whole works.clean works.live) (c.lives_are_whole.ensures.kept works.clean works.live)
            (inl (shown (rw (all_failed calls) (read_broken (machine rules) limits 1 _ (all_bytes calls) _ 1 _ _ held (omega arith) waits (reads_all (machine rules) limits _ (all_bytes calls) held _ before.2))))))),
      ),
    )
