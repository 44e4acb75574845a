-- What is done with a store that works still, or that a fault had shut.
use Rattle.std.proofs.Common.{◌≡◌, inl, inr, Bool, true, false, not, Result, Ok, Err, sym, refl, subst, subst₂}
use Rattle.sqlite.specs.Held.{Held, state}
use Rattle.sqlite.specs.State.{State, HasCleanDisk}
use Rattle.sqlite.proofs.StateLemmas.{survives_then}
use Rattle.sqlite_trees.specs.declared.store.Store.{Ghosts}
use Rattle.osb_frames.specs.Cuts.{Message}
use Rattle.osb_replies.specs.Text.{ReplyParts}
use Rattle.osb_catalog.specs.Rules.{Rules}
use Rattle.osb_asks.specs.declared.ask.Ask.{Ask}
use Rattle.osb_asks.specs.declared.ask_fault.AskFault.{AskFault}
use Rattle.osb_asks.specs.Asks.{ask_of, is_early}
use Rattle.osb_orders.specs.Lives.{Lives}
use Rattle.osb_statements.specs.Steps.{stored}
use Rattle.osb_broker.specs.Inside.{Handles, Worked}
use Rattle.osb_broker.specs.BrokerState.{IsShut, LivesGo, Works}
use Rattle.osb_broker.specs.Machine.{Handled, Machine}
use Rattle.osb_broker.specs.Steps.{needs_lives}
use Rattle.osb_broker.proofs.StoreLemmas.{survives_same}

-- a store that was shut stays shut
pub is_shut : (old new : State) → (Works new → Works old) → HasCleanDisk new → IsShut old → IsShut new
is_shut old new works clean shut = by new.is_open refl
  where
    by : (b : Bool) → new.is_open ≡ b → IsShut new
    by false e = e
    by true e = let before = (works (record { clean = clean; live = e })).live in cc

-- a store with which nothing was done
pub not_touched : {s : State} → Worked s s
not_touched {s} = record { works = λ works. works; clean = λ clean. clean; crash = survives_same s _ }

pub worked_then : {old mid new : State} → Worked old mid → Worked mid new → Worked old new
worked_then {old} {mid} {new} first second = record {
  works = λ works. first.works (second.works works);
  clean = λ clean. first.clean (second.clean clean);
  crash = survives_then old mid new _ _ _ (λ clean db live. live)
      (λ clean db live. (first.works (record { clean = second.clean clean; live = live })).live) first.crash second.crash;
}

-- then the lives stay
pub lives_stay : {s : State} {before after : Lives} → LivesGo s s before after → after ≡ before
lives_stay (inl (works, was, is)) = cc
lives_stay (inr (clean, shut, stays)) = stays

-- the lives between two steps
pub go_through : {old mid new : State} → Worked old mid → Worked mid new → (before after : Lives) → LivesGo old new before after → (between : Lives) × LivesGo old mid before between × LivesGo mid new between after
go_through {mid = mid} first second before after (inl (works, was, is)) = (stored mid, inl (second.works works, was, refl), inl (works, refl, is))
go_through {old} {mid} first second before after (inr (clean, shut, stays)) =
    (before, inr (second.clean clean, shut, refl), inr (clean, is_shut old mid first.works (second.clean clean) shut, stays))

-- what needs the lives may be refused memory
pub takes : (asked : Result Ask AskFault) → needs_lives asked ≡ true → not (is_early asked) ≡ true
takes (Ok ask) e = e
takes (Err fault) e = absurd (cc)

-- a request is handled so, whichever lives the store goes through
pub handled_so : {S : Type 0} {g : Ghosts S} {m : Machine Lives} {rules : Rules} {q : Message} {last : Bool} {old new : Held S} {reply : ReplyParts} → (needs_lives (ask_of rules q) ≡ true → m.takes_memory q ≡ true) → Handles g m rules q last old new reply
    → (before after : Lives) → LivesGo (state g old) (state g new) before after → Handled m q last before reply after
handled_so {m = m} {q = q} {last = last} {reply = reply} takes handles before after (inl (works, was, is)) =
    subst₂ (λ s t. Handled m q last s reply t) (sym was) (sym is) (handles.handled works)
handled_so {m = m} {rules = rules} {q = q} {last = last} {reply = reply} takes handles before after (inr (clean, shut, stays)) =
    subst (λ t. Handled m q last before reply t) (sym stays) (by (needs_lives (ask_of rules q)) refl)
  where
    by : (b : Bool) → needs_lives (ask_of rules q) ≡ b → Handled m q last before reply before
    by false e = handles.plain e before
    by true e = (true, (takes e, handles.shut clean shut e, refl))
