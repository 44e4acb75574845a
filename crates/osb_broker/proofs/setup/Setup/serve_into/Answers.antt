use Rattle.std.proofs.Common.{◌-◌, ◌==◌, inl, inr, refl, arith}
use Rattle.osb_frames.specs.Steps.{message}
use Rattle.osb_broker.specs.Steps.{capped}
use Rattle.osb_broker.specs.Inside.{given_rules}
use Rattle.osb_broker.specs.Answering.{AnswersWholeOrLost}
use Rattle.osb_broker.proofs.CrashLemmas.{leaves_next, leaves_stored, leaves_weaker}
use Rattle.osb_broker.proofs.LostLemmas.{closing_whole_or_lost, not_lost_whole, of_answer, shown_whole}
use Rattle.osb_broker.proofs.RunLemmas.{reached_start}
use Rattle.osb_broker.proofs.WholeLemmas.{going_on, closing_whole, refusing_whole, ending_whole, none_whole, told_here}
use Rattle.osb_broker.proofs.ShutLemmas.{go_through, lives_stay, not_touched, worked_then}
use Rattle.osb_broker.proofs.setup.Setup.serve_into.Goals as goal

pub loop-left-init : goal.loop-left-init
loop-left-init g c = record {
  room = c.requires;
  worked = not_touched;
  leaves = λ works clean. leaves_stored (c.lives_are_whole.ensures.whole works.clean works.live) (c.lives_are_whole.ensures.kept works.clean works.live) (reached_start (capped (given_rules c.args.self.now)) c.args.limits.now c.args.most.number _ _ _);
  reached = λ before after go. rw (lives_stay go) (reached_start (capped (given_rules c.args.self.now)) c.args.limits.now c.args.most.number before _ _);
}

pub returns-then-reply_into-clause-served : goal.returns-then-reply_into-clause-served
returns-then-reply_into-clause-served g c before after go =
    let through = go_through c.loop-left.invariant.worked c.reply_into.ensures.worked before after go in
    closing_whole (capped (given_rules c.args.self.now)) c.args.limits.now c.args.most.number before c.args.bytes.now _ c.loop-left.left _ _ _ (message c.in-Whole.request) c.in-Whole.used (c.loop-left.left - 1) _ _ _
    (record { reached = c.loop-left.invariant.reached before through.0 through.1; front = c.in-Whole.ensures.says; fewer = omega arith })
    (c.reply_into.ensures.answers through.0 after through.2)
    c.if-reply_into.true

pub returns-then-reply_into-clause-leaves : goal.returns-then-reply_into-clause-leaves
returns-then-reply_into-clause-leaves g c works clean =
    leaves_next (λ u t. AnswersWholeOrLost (capped (given_rules c.args.self.now)) (message c.in-Whole.request) (c.loop-left.left - 1 == 0) u t _ _ c.reply_into.result)
    c.loop-left.invariant.worked c.reply_into.ensures.worked
    c.loop-left.invariant.leaves (λ w. c.loop-left.invariant.reached _ _ (inl (w, refl, refl)))
    c.reply_into.ensures.leaves (λ lives clean shut. of_answer (c.reply_into.ensures.answers lives lives (inr (clean, shut, refl))))
    (λ u t so_far answers. closing_whole_or_lost (capped (given_rules c.args.self.now)) c.args.limits.now c.args.most.number _ c.args.bytes.now _ c.loop-left.left _ u _ (message c.in-Whole.request) c.in-Whole.used (c.loop-left.left - 1)
    (record { reached = so_far; front = c.in-Whole.ensures.says; fewer = omega arith })
    t _ _ answers c.if-reply_into.true)
    works clean

pub loop-left-preserved : goal.loop-left-preserved
loop-left-preserved g c = record {
  room = c.reply_into.ensures.room c.if-reply_into.false;
  worked = worked_then c.loop-left.invariant.worked c.reply_into.ensures.worked;
  leaves = λ works clean. leaves_next (λ u t. AnswersWholeOrLost (capped (given_rules c.args.self.now)) (message c.in-Whole.request) (c.loop-left.left - 1 == 0) u t _ _ c.reply_into.result)
      c.loop-left.invariant.worked c.reply_into.ensures.worked
      c.loop-left.invariant.leaves (λ w. c.loop-left.invariant.reached _ _ (inl (w, refl, refl)))
      c.reply_into.ensures.leaves (λ lives clean shut. of_answer (c.reply_into.ensures.answers lives lives (inr (clean, shut, refl))))
      (λ u t so_far answers. not_lost_whole (capped (given_rules c.args.self.now)) c.args.limits.now c.args.most.number _ c.args.bytes.now _ c.loop-left.left _ u _ (message c.in-Whole.request) c.in-Whole.used (c.loop-left.left - 1)
      (record { reached = so_far; front = c.in-Whole.ensures.says; fewer = omega arith })
      t _ _ answers c.if-reply_into.false)
      works clean;
  reached = λ before after go.
      let through = go_through c.loop-left.invariant.worked c.reply_into.ensures.worked before after go in
      going_on (capped (given_rules c.args.self.now)) c.args.limits.now c.args.most.number before c.args.bytes.now _ c.loop-left.left _ _ c.loop-left.rest.now (message c.in-Whole.request) c.in-Whole.used (c.loop-left.left - 1) _ _ _
      (record { reached = c.loop-left.invariant.reached before through.0 through.1; front = c.in-Whole.ensures.says; fewer = omega arith })
      (c.reply_into.ensures.answers through.0 after through.2)
      c.if-reply_into.false;
}

pub returns-in-Stop-clause-served : goal.returns-in-Stop-clause-served
returns-in-Stop-clause-served g c before after go =
    refusing_whole (capped (given_rules c.args.self.now)) c.args.limits.now c.args.most.number before c.args.bytes.now _ c.loop-left.left _ _ _ c.in-Stop.kind (c.loop-left.left - 1) _
    (c.loop-left.invariant.reached before after go) (told_here c.args.limits.now _ _ _ c.in-Stop.ensures.stays) (omega arith) c.refuse_into.ensures

pub returns-in-Ended-clause-served : goal.returns-in-Ended-clause-served
returns-in-Ended-clause-served g c before after go =
    ending_whole (capped (given_rules c.args.self.now)) c.args.limits.now c.args.most.number before c.args.bytes.now _ c.loop-left.left _ _ _ (c.loop-left.left - 1)
    (c.loop-left.invariant.reached before after go) (omega arith) c.in-Ended.ensures.says.1

pub returns-clause-served : goal.returns-clause-served
returns-clause-served g c before after go =
    none_whole (capped (given_rules c.args.self.now)) c.args.limits.now c.args.most.number before c.args.bytes.now _ c.loop-left.left _ _ _
    (c.loop-left.invariant.reached before after go) (omega arith)

pub returns-in-Stop-clause-leaves : goal.returns-in-Stop-clause-leaves
returns-in-Stop-clause-leaves g c works clean =
    leaves_weaker (λ lives so_far. shown_whole (refusing_whole (capped (given_rules c.args.self.now)) c.args.limits.now c.args.most.number _ c.args.bytes.now _ c.loop-left.left _ _ _ c.in-Stop.kind (c.loop-left.left - 1) _
    so_far (told_here c.args.limits.now _ _ _ c.in-Stop.ensures.stays) (omega arith) c.refuse_into.ensures))
    (c.loop-left.invariant.leaves works clean)

pub returns-in-Ended-clause-leaves : goal.returns-in-Ended-clause-leaves
returns-in-Ended-clause-leaves g c works clean =
    leaves_weaker (λ lives so_far. shown_whole (ending_whole (capped (given_rules c.args.self.now)) c.args.limits.now c.args.most.number _ c.args.bytes.now _ c.loop-left.left _ _ _ (c.loop-left.left - 1)
    so_far (omega arith) c.in-Ended.ensures.says.1))
    (c.loop-left.invariant.leaves works clean)

pub returns-clause-leaves : goal.returns-clause-leaves
returns-clause-leaves g c works clean =
    leaves_weaker (λ lives so_far. shown_whole (none_whole (capped (given_rules c.args.self.now)) c.args.limits.now c.args.most.number _ c.args.bytes.now _ c.loop-left.left _ _ _
    so_far (omega arith)))
    (c.loop-left.invariant.leaves works clean)
