-- A request is replied to once its change is made, and handled.
use Rattle.std.proofs.Common.{◌≡◌, ◌∙◌, inl, inr, Bool, true, false, ◌||◌, Result, Ok, Err, sym, refl, ap, arith}
use Rattle.std.specs.Result.{IsErr}
use Rattle.sqlite.specs.Held.{Held, state}
use Rattle.sqlite.specs.State.{HasCleanDisk}
use Rattle.sqlite.proofs.StateLemmas.{survives_weaker}
use Rattle.sqlite_trees.specs.declared.store.Store.{Ghosts}
use Rattle.osb_frames.specs.Cuts.{Message}
use Rattle.osb_replies.specs.declared.reply.Reply.{Reply}
use Rattle.osb_replies.specs.Parts.{parts, refused}
use Rattle.osb_replies.specs.Text.{ReplyParts}
use Rattle.osb_catalog.specs.Rules.{Rules}
use Rattle.osb_asks.specs.Asks.{ask_of}
use Rattle.osb_orders.specs.Lives.{Lives}
use Rattle.osb_records.specs.CrashLeaves.{KeepsLives}
use Rattle.osb_statements.specs.Steps.{stored}
use Rattle.osb_broker.specs.declared.prepared.Prepared.{Prepared}
use Rattle.osb_broker.specs.Inside.{GivesPrepared, GivesReply, Handles, AppliesPending, Worked}
use Rattle.osb_broker.specs.BrokerState.{Works}
use Rattle.osb_broker.specs.Machine.{Answer, Answered, Machine, reply_of}
use Rattle.osb_broker.specs.Prepared.{answer_parts, after_pending}
use Rattle.osb_broker.specs.Refusals.{NeverFails}
use Rattle.osb_broker.specs.Steps.{machine, step_for}
use Rattle.osb_broker.proofs.FailureLemmas.{failures_stay}
use Rattle.osb_broker.proofs.StoreLemmas.{request_commits, request_lasts}

-- the answer couldn't be made ready
pub not_prepared : {S E F : Type 0} {g : Ghosts S} {rules : Rules} {q : Message} {last : Bool} {old new : Held S} {e : E} (result : Result Reply F) → IsErr result → GivesPrepared g rules (ask_of rules q) old new (Err e) → GivesReply g rules q last old new result
not_prepared (Ok reply) is gives = absurd (cc)
not_prepared {g = g} {old = old} {new = new} (Err f) is gives = record {
  ok = λ works. tt;
  err = gives.stays.same;
  closes = tt;
  was_open = λ clean needs. tt;
  told = λ before clean. tt;
  plain = λ plain. tt;
  untouched = gives.untouched;
  works = gives.stays.works;
  crash = survives_weaker (state g old) (state g new) _ _ (λ _ db none. absurd none) gives.stays.crash;
  durable = λ works clean. tt;
}

module _ {S E F : Type 0} {g : Ghosts S} {rules : Rules} {q : Message} {last : Bool} {old mid new : Held S} {prepared : Prepared} where
  -- the change was refused
  pub not_applied : {f : F} (result : Result Reply F) → IsErr result → GivesPrepared {E = E} g rules (ask_of rules q) old mid (Ok prepared) → AppliesPending g prepared.pending mid new (Err f) → GivesReply g rules q last old new result
  not_applied (Ok reply) is gives applies = absurd (cc)
  not_applied (Err f) is gives applies = record {
    ok = λ works. tt;
    err = λ works. applies.err works ∙ gives.stays.same (applies.works works);
    closes = tt;
    was_open = λ clean needs. tt;
    told = λ before clean. tt;
    plain = λ plain. tt;
    untouched = λ plain. applies.untouched (gives.silent plain) ∙ gives.untouched plain;
    works = λ works. gives.stays.works (applies.works works);
    crash = request_commits _ _ _ prepared _ gives.stays gives.ok applies.crash;
    durable = λ works clean. tt;
  }

  -- the change was made
  pub by_step : (reply : Reply) → GivesPrepared {E = E} g rules (ask_of rules q) old mid (Ok prepared) → (Works (state g old) → KeepsLives (state g old) (stored (state g old)))
      → AppliesPending {E = F} g prepared.pending mid new (Ok tt) → parts reply ≡ reply_of q last (answer_parts prepared.answer) → GivesReply {E = F} g rules q last old new (Ok reply)
  by_step reply gives kept applies is =
      let clean_between : HasCleanDisk (state g new) → HasCleanDisk (state g mid) = λ clean. omega (arith, applies.crash.clean) in
      record {
        ok = λ works.
            let between = applies.works works in
            let step = gives.ok (gives.stays.works between) between.clean in
            (is ∙ ap (reply_of q last) step.answer, applies.ok works.clean ∙ ap (after_pending prepared.pending) (gives.stays.same between) ∙ step.lives_are);
        err = λ works. tt;
        closes = λ closes. ap (λ (r : ReplyParts). r.close) is ∙ ap (λ b. b || last) closes;
        was_open = λ clean needs. gives.was_open (clean_between clean) needs;
        told = λ before clean. is ∙ ap (reply_of q last) (gives.ok before (clean_between clean)).answer;
        plain = λ plain lives.
            let step = gives.plain plain lives in
            (is ∙ ap (reply_of q last) step.answer, ap (λ pending. after_pending pending lives) (sym (gives.silent plain)) ∙ step.lives_are);
        untouched = λ plain. applies.untouched (gives.silent plain) ∙ gives.untouched plain;
        works = λ works. gives.stays.works (applies.works works);
        crash = request_commits _ _ _ prepared _ gives.stays gives.ok applies.crash;
        durable = λ before clean. request_lasts _ _ _ prepared _ gives.stays gives.ok applies.crash kept (applies.lasts clean) before clean;
      }

stepped : (m : Machine Lives) (rules : Rules) (q : Message) (last : Bool) → ((lives : Lives) → m.step lives q ≡ step_for rules lives (ask_of rules q)) → (lives after : Lives) (reply : ReplyParts)
    → Answered (machine rules) q last false lives reply after → Answered m q last false lives reply after
stepped m rules q last steps lives after reply (says, leads) =
    (says ∙ ap (λ (step : Answer × Lives). reply_of q last step.0) (sym (steps lives)), leads ∙ ap (λ (step : Answer × Lives). step.1) (sym (steps lives)))

-- a machine that takes the steps of these rules, whichever requests may be refused memory
module _ {S : Type 0} {g : Ghosts S} (m : Machine Lives) (rules : Rules) (q : Message) (last : Bool) (steps : (lives : Lives) → m.step lives q ≡ step_for rules lives (ask_of rules q)) {old new : Held S} where
  pub handles_reply : {E : Type 0} {reply : Reply} → NeverFails m → GivesReply {E = E} g rules q last old new (Ok reply) → Handles g m rules q last old new (parts reply)
  handles_reply {reply = reply} never gives = record {
    handled = λ works. (false, stepped m rules q last steps _ _ _ (gives.ok works));
    told = λ before clean. inr (gives.told before clean ∙ ap (λ (step : Answer × Lives). reply_of q last step.0) (sym (steps _)));
    stays = λ works is. failures_stay m never q last _ (parts reply) _ (false, stepped m rules q last steps _ _ _ (gives.ok works)) is;
    plain = λ plain lives. (false, stepped m rules q last steps lives lives _ (gives.plain plain lives));
    untouched = gives.untouched;
    shut = λ clean shut needs. let open_before = gives.was_open clean needs in cc;
    works = gives.works;
    crash = gives.crash;
    durable = λ before clean other. gives.durable before clean;
  }

  pub handles_refusal : {E : Type 0} {e : E} → m.takes_memory q ≡ true → GivesReply g rules q last old new (Err e) → Handles g m rules q last old new refused
  handles_refusal takes gives = record {
    handled = λ works. (true, (takes, refl, gives.err works));
    told = λ before clean. inl refl;
    stays = λ works is. gives.err works;
    plain = λ plain lives. (true, (takes, refl, refl));
    untouched = gives.untouched;
    shut = λ clean shut needs. refl;
    works = gives.works;
    crash = gives.crash;
    durable = λ before clean other. absurd (other refl);
  }

pub worked : {S : Type 0} {g : Ghosts S} {m : Machine Lives} {rules : Rules} {q : Message} {last : Bool} {old new : Held S} {reply : ReplyParts} → Handles g m rules q last old new reply → Worked (state g old) (state g new)
worked {g = g} {old = old} {new = new} handles = record {
  works = handles.works;
  clean = λ clean. omega (arith, handles.crash.clean);
  crash = survives_weaker (state g old) (state g new) _ _ (λ _ db commits. commits.was_open) handles.crash;
}
