-- A request behind whose reply another may come.
use Rattle.std.proofs.Common.{◌≡◌, ◌∙◌, ◌⊎◌, ℕ, ◌<◌, ◌≤◌, ◌==◌, ◌||◌, Some, inl, inr, Bool, true, false, List, [], ◌∷◌, ◌++◌, length, Result, Ok, Err, sym, refl, ap, subst, arith}
use Rattle.std.specs.Prelude.{nat_lt}
use Rattle.std.proofs.lemmas.Bool.{eqb-false, false≢true, ltb-false}
use Rattle.sqlite.specs.Held.{Held, state}
use Rattle.sqlite.specs.State.{HasCleanDisk}
use Rattle.sqlite_trees.specs.declared.store.Store.{Ghosts}
use Rattle.osb_frames.specs.declared.limits.Limits.{Limits}
use Rattle.osb_frames.specs.Calls.{Call, all_bytes}
use Rattle.osb_frames.specs.Cuts.{closes, Message, whole, IsFront}
use Rattle.osb_replies.specs.declared.write.WriteFault.{WriteFault}
use Rattle.osb_replies.specs.Text.{ReplyParts, reply_text}
use Rattle.osb_catalog.specs.Rules.{Rules}
use Rattle.osb_orders.specs.Lives.{Lives}
use Rattle.osb_statements.specs.Steps.{stored}
use Rattle.osb_broker.specs.declared.begun.Begun.{Begun}
use Rattle.osb_broker.specs.declared.begun.Begun.TheVariants as begun
use Rattle.osb_broker.specs.declared.fault.ServeFault.{ServeFault}
use Rattle.osb_broker.specs.declared.fault.ServeFault.TheVariants.{Read, Write}
use Rattle.osb_broker.specs.BrokerState.{LivesGo, Works}
use Rattle.osb_broker.specs.Machine.{reply_of}
use Rattle.osb_broker.specs.Steps.{machine}
use Rattle.osb_broker.specs.Answering.{Answers, AnswersOrLost, LostReply}
use Rattle.osb_broker.specs.Serving.{EachGaveBytes, EndsWith, ReadsOf, WritesOf, WritesText}
use Rattle.osb_broker.specs.Crashes.{LeavesLives}
use Rattle.osb_broker.specs.Inside.{EndsBy, IsRepliedTo}
use Rattle.osb_broker.specs.Begun.{AnswersOpen, EndsOrBreaks, EndsOrBreaksOrLost, MatchBegun}
use Rattle.osb_broker.proofs.HoldLemmas.{breaking_held, closing_held, HoldsRequest}
use Rattle.osb_broker.proofs.LostLemmas.{breaking_or_lost, closing_or_lost}
use Rattle.osb_broker.proofs.CrashLemmas.{leaves_weaker}
use Rattle.osb_broker.proofs.ReadLemmas.{SoFar}
use Rattle.osb_broker.proofs.BegunLemmas.{holds_all, last_closes, last_closes_or_lost}

pub begun_weaker : (it : Begun) (P P' : Result (Unit {0}) ServeFault → Type 0) (Q Q' R R' S S' : Type 0) → ((ended : Result (Unit {0}) ServeFault) → P ended → P' ended) → (Q → Q') → (R → R') → (S → S') → MatchBegun it P Q R S → MatchBegun it P' Q' R' S'
begun_weaker (begun.Ended ended) P P' Q Q' R R' S S' one two three four is = one ended is
begun_weaker begun.Stays P P' Q Q' R R' S S' one two three four is = two is
begun_weaker begun.Waits P P' Q Q' R R' S S' one two three four is = three is
begun_weaker begun.MayStay P P' Q Q' R R' S S' one two three four is = four is

-- none of two is so
pub neither : (a b : Bool) → (a || b) ≡ false → (a ≡ false) × (b ≡ false)
neither true b e = cc
neither false b e = (refl, e)

or_none : (c : Bool) → c ≡ false → (c || false) ≡ false
or_none true e = e
or_none false e = refl

-- what holds of a request behind which another may come
pub record IsOpen (left : ℕ) (calls : List Call) (held : List ℕ) (q : Message) (n : ℕ) : Type 0 where
  pub some : 1 < left
  pub all : length held ≤ n
  pub goes_on : closes q ≡ false
  pub gave_bytes : EachGaveBytes calls

-- what isn't the last is so
pub open_of : (left used count : ℕ) (over : Bool) (calls : List Call) (held : List ℕ) (q : Message) → ((left == 1) || (over || (nat_lt used count || closes q))) ≡ false → 0 < left → length held ≡ count → SoFar over calls → IsOpen left calls held q used
open_of left used count over calls held q none some size so =
    let first = neither (left == 1) (over || (nat_lt used count || closes q)) none in
    let second = neither over (nat_lt used count || closes q) first.1 in
    let third = neither (nat_lt used count) (closes q) second.1 in
    let more : 1 < left = omega (arith, some, eqb-false left 1 first.0) in
    record { some = more; all = omega (arith, size, ltb-false used count third.0); goes_on = third.1; gave_bytes = subst (λ b. SoFar b calls) second.0 so }

module _ (rules : Rules) (limits : Limits) (left : ℕ) (calls : List Call) (held : List ℕ) (q : Message) (n : ℕ) (is : held ≡ all_bytes calls) (front : (more : List ℕ) → IsFront limits (held ++ more) (whole q n)) (inside : n ≤ length held) (base : List ℕ) (before : ℕ) (now : List ℕ) (after : ℕ) where
  module _ (open_is : IsOpen left calls held q n) (s t : Lives) where
    exact : (more : List ℕ) → IsFront limits (all_bytes calls ++ more) (whole q (length (all_bytes calls)))
    exact more =
        let size : n ≡ length held = omega (arith, open_is.all, inside) in
        subst (λ l. IsFront limits (l ++ more) (whole q (length l))) is (subst (λ m. IsFront limits (held ++ more) (whole q m)) size (front more))

    open_by : (result : Result (Unit {0}) WriteFault) → WritesText base before now after result (reply_text (reply_of q false ((machine rules).step s q).0)) → t ≡ ((machine rules).step s q).1 → AnswersOpen rules limits left s calls base before now after result t
    open_by result wrote leads = record { some = open_is.some; q = q; exact = exact; goes_on = open_is.goes_on; gave_bytes = open_is.gave_bytes; wrote = wrote; leaves = leads }

    -- a reply that leaves the connection open
    pub stays_open : Answers (machine rules) q false s t base before now after (Ok false) → AnswersOpen rules limits left s calls base before now after (Ok tt) t
    stays_open (true, reply, (may, told, same), wrote) = let bad : false ≡ true = wrote.2 ∙ ap (λ (r : ReplyParts). r.close) told in cc
    stays_open (false, reply, (told, leads), wrote) = open_by (Ok tt) (wrote.0 ∙ ap (λ r. base ++ reply_text r) told, wrote.1) leads

    pub stays_open_or_lost : AnswersOrLost (machine rules) q false s t base before now after (Ok false) → AnswersOpen rules limits left s calls base before now after (Ok tt) t
    stays_open_or_lost answers = elim answers.is [
      | inl it ↦ stays_open it
      | inr (it, lost) ↦ let bad : false ≡ true = lost.closes in cc
    ]

    -- one that closes is the fixed 500, as that of the last request may be
    as_last : (close : Bool) → close ≡ true → Answers (machine rules) q false s t base before now after (Ok close) → Answers (machine rules) q true s t base before now after (Ok close)
    as_last close shut (true, reply, answered, wrote) = (true, reply, answered, wrote)
    as_last close shut (false, reply, (told, leads), wrote) =
        let bad : true ≡ false = sym shut ∙ wrote.2 ∙ ap (λ (r : ReplyParts). r.close) told ∙ or_none (closes q) open_is.goes_on in cc

    -- a write failed
    breaks : (f : WriteFault) → Answers (machine rules) q false s t base before now after (Err f) → Answers (machine rules) q true s t base before now after (Err f) ⊎ AnswersOpen rules limits left s calls base before now after (Err f) t
    breaks f (true, reply, answered, wrote) = inl (true, reply, answered, wrote)
    breaks f (false, reply, (told, leads), wrote) = inr (open_by (Err f) (subst (λ r. WritesText base before now after (Err f) (reply_text r)) told wrote) leads)

  as_last_or_lost : IsOpen left calls held q n → (s t : Lives) (close : Bool) → close ≡ true → AnswersOrLost (machine rules) q false s t base before now after (Ok close) → AnswersOrLost (machine rules) q true s t base before now after (Ok close)
  as_last_or_lost open_is s t close shut answers = record {
    is = elim answers.is [
      | inl it ↦ inl (as_last open_is s t close shut it)
      | inr (it, lost) ↦ inr (as_last open_is s s close shut it, lost)
    ];
  }

  lost_breaks : IsOpen left calls held q n → (s t : Lives) (f : WriteFault) → Answers (machine rules) q false s s base before now after (Err f) → LostReply (machine rules) q s t base now (Err f) → AnswersOrLost (machine rules) q true s t base before now after (Err f) ⊎ AnswersOpen rules limits left s calls base before now after (Err f) t
  lost_breaks open_is s t f (true, reply, answered, wrote) lost = inl (record { is = inr ((true, reply, answered, wrote), lost) })
  lost_breaks open_is s t f (false, reply, (told, leads), wrote) lost = inr (open_by open_is s t (Err f) (subst (λ r. WritesText base before now after (Err f) (reply_text r)) told wrote) lost.leaves)

  breaks_or_lost : IsOpen left calls held q n → (s t : Lives) (f : WriteFault) → AnswersOrLost (machine rules) q false s t base before now after (Err f) → AnswersOrLost (machine rules) q true s t base before now after (Err f) ⊎ AnswersOpen rules limits left s calls base before now after (Err f) t
  breaks_or_lost open_is s t f answers = elim answers.is [
    | inl it ↦ elim (breaks open_is s t f it) [
      | inl last ↦ inl (record { is = inl last })
      | inr other ↦ inr other
    ]
    | inr (it, lost) ↦ lost_breaks open_is s t f it lost
  ]

  -- ---- handled, and replied to

  module _ {S : Type 0} (g : Ghosts S) (old new : Held S) (last : Bool) (open_if : last ≡ false → IsOpen left calls held q n) where
    abbrev Replied : Result Bool WriteFault → Type 0
    Replied written = IsRepliedTo g rules q last old new base before now after written

    abbrev was : Lives
    was = stored (state g old)

    -- the client's connection stays open
    abbrev StaysSo : Type 0
    StaysSo = ((s t : Lives) → LivesGo (state g old) (state g new) s t → AnswersOpen rules limits left s calls base before now after (Ok tt) t)
        × (Works (state g old) → HasCleanDisk (state g new) → LeavesLives (state g new) (λ lives. AnswersOpen rules limits left (stored (state g old)) calls base before now after (Ok tt) lives))

    staying : (b : Bool) → last ≡ b → Replied (Ok false) → StaysSo
    staying true at it = (
      (λ s t go. let bad : false ≡ true = last_closes rules q s t base before now after false (subst (λ b. Answers (machine rules) q b s t base before now after (Ok false)) at (it.answers s t go)) in absurd (false≢true bad)),
      (λ works clean. leaves_weaker (λ lives answers. absurd (false≢true (last_closes_or_lost rules q was lives base before now after false (subst (λ b. AnswersOrLost (machine rules) q b was lives base before now after (Ok false)) at answers)))) (it.leaves works clean)),
    )
    staying false at it = (
      (λ s t go. stays_open (open_if at) s t (subst (λ b. Answers (machine rules) q b s t base before now after (Ok false)) at (it.answers s t go))),
      (λ works clean. leaves_weaker (λ lives answers. stays_open_or_lost (open_if at) was lives (subst (λ b. AnswersOrLost (machine rules) q b was lives base before now after (Ok false)) at answers)) (it.leaves works clean)),
    )

    pub stays_so : Replied (Ok false) → StaysSo
    stays_so it = staying last refl it

    module _ (met_fault : Bool) (met : met_fault ≡ false) (reads : EachGaveBytes calls ⊎ EndsWith (Some []) calls) where
      abbrev EndsSo : Result (Unit {0}) ServeFault → Type 0
      EndsSo ended = ReadsOf ended calls × WritesOf ended before after
          × ((s t : Lives) → LivesGo (state g old) (state g new) s t → EndsOrBreaks ended rules limits left s calls met_fault base before now after t)
          × (Works (state g old) → HasCleanDisk (state g new) → LeavesLives (state g new) (λ lives. EndsOrBreaksOrLost ended rules limits left (stored (state g old)) calls met_fault base before now after lives))

      held_by : (s : Lives) → HoldsRequest (machine rules) limits 1 s (all_bytes calls) base 1 base s held q n 0
      held_by s = holds_all (machine rules) limits s (all_bytes calls) held base q n is front inside

      closed_so : (b : Bool) → last ≡ b → (close : Bool) → close ≡ true → Replied (Ok close) → EndsSo (Ok tt)
      closed_so true at close shut it = (
        reads,
        it.ok,
        (λ s t go. inl (inl (closing_held (machine rules) limits 1 s (all_bytes calls) base 1 base s held q n 0 t before now after close met_fault (held_by s) (subst (λ b. Answers (machine rules) q b s t base before now after (Ok close)) at (it.answers s t go)) shut met))),
        (λ works clean. leaves_weaker (λ lives answers. inl (closing_or_lost (machine rules) limits 1 was calls base 1 base was held q n 0 (held_by was) lives before now after met_fault close (subst (λ b. AnswersOrLost (machine rules) q b was lives base before now after (Ok close)) at answers) shut met)) (it.leaves works clean)),
      )
      closed_so false at close shut it = (
        reads,
        it.ok,
        (λ s t go. inl (inl (closing_held (machine rules) limits 1 s (all_bytes calls) base 1 base s held q n 0 t before now after close met_fault (held_by s) (as_last (open_if at) s t close shut (subst (λ b. Answers (machine rules) q b s t base before now after (Ok close)) at (it.answers s t go))) shut met))),
        (λ works clean. leaves_weaker (λ lives answers. inl (closing_or_lost (machine rules) limits 1 was calls base 1 base was held q n 0 (held_by was) lives before now after met_fault close (as_last_or_lost (open_if at) was lives close shut (subst (λ b. AnswersOrLost (machine rules) q b was lives base before now after (Ok close)) at answers)) shut met)) (it.leaves works clean)),
      )

      -- where a write failed: as inside the reply to the last request, or inside that to another
      broken_so : (b : Bool) → last ≡ b → (f : WriteFault) → Replied (Err f) → EndsSo (Err Write)
      broken_so true at f it = (
        reads,
        it.err,
        (λ s t go. inl (inl (breaking_held (machine rules) limits 1 s (all_bytes calls) base 1 base s held q n 0 t before now after f (held_by s) (subst (λ b. Answers (machine rules) q b s t base before now after (Err f)) at (it.answers s t go))))),
        (λ works clean. leaves_weaker (λ lives answers. inl (breaking_or_lost (machine rules) limits 1 was calls base 1 base was held q n 0 (held_by was) lives before now after met_fault f (subst (λ b. AnswersOrLost (machine rules) q b was lives base before now after (Err f)) at answers))) (it.leaves works clean)),
      )
      broken_so false at f it = (
        reads,
        it.err,
        (λ s t go. elim (breaks (open_if at) s t f (subst (λ b. Answers (machine rules) q b s t base before now after (Err f)) at (it.answers s t go))) [
          | inl answers ↦ inl (inl (breaking_held (machine rules) limits 1 s (all_bytes calls) base 1 base s held q n 0 t before now after f (held_by s) answers))
          | inr other ↦ inr (refl, met, f, other)
        ]),
        (λ works clean. leaves_weaker (λ lives answers. by_either lives answers) (it.leaves works clean)),
      )
        where
          by_either : (lives : Lives) → AnswersOrLost (machine rules) q last was lives base before now after (Err f) → EndsOrBreaksOrLost (Err Write) rules limits left (stored (state g old)) calls met_fault base before now after lives
          by_either lives answers = elim (breaks_or_lost (open_if at) was lives f (subst (λ b. AnswersOrLost (machine rules) q b was lives base before now after (Err f)) at answers)) [
            | inl these ↦ inl (breaking_or_lost (machine rules) limits 1 was calls base 1 base was held q n 0 (held_by was) lives before now after met_fault f these)
            | inr other ↦ inr (refl, met, f, other)
          ]

      pub ends_so : (ended : Result (Unit {0}) ServeFault) (written : Result Bool WriteFault) → EndsBy ended written → Replied written → EndsSo ended
      ends_so (Ok x) (Ok close) shut it = closed_so last refl close shut it
      ends_so (Ok x) (Err f) by it = absurd by
      ends_so (Err Write) (Err f) by it = broken_so last refl f it
      ends_so (Err Write) (Ok close) by it = absurd by
      ends_so (Err Read) (Ok close) by it = absurd by
      ends_so (Err Read) (Err f) by it = absurd by
