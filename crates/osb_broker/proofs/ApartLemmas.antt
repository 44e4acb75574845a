-- The connections of one instance, and those of others.
use Rattle.std.proofs.Common.{◌≡◌, ℕ, Bool, true, false, List, [], ◌∷◌, Option, None, Some, Result, Ok, Err, refl, sym, ap, subst, ◌∙◌, ◌⊎◌, inl, inr}
use Rattle.std.specs.Prelude.{bytes_eq}
use Rattle.std.proofs.lemmas.Slice.Eq.{bytes_eq-Decides}
use Rattle.osb_frames.specs.declared.limits.Limits.{Limits}
use Rattle.osb_frames.specs.Cuts.{Message, nothing, fault, whole, IsFront}
use Rattle.osb_frames.proofs.FrontLemmas.{front_unique}
use Rattle.osb_replies.specs.Text.{ReplyParts, reply_text}
use Rattle.osb_catalog.specs.Rules.{Rules}
use Rattle.osb_asks.specs.declared.ask.Ask.{Ask}
use Rattle.osb_asks.specs.declared.ask_fault.AskFault.{AskFault}
use Rattle.osb_asks.specs.Asks.{ask_of}
use Rattle.osb_orders.specs.Lives.{Lives, life_of}
use Rattle.osb_asks.specs.Subjects.{instance_id_of}
use Rattle.osb_machine.specs.Machine.{after_step}
use Rattle.osb_laws.proofs.MapLemmas.{answers_apart, one_life, others_stay, unnamed_stay}
use Rattle.osb_broker.specs.Machine.{Answered, reply_of}
use Rattle.osb_broker.specs.Steps.{step_of, step_for, lives_after}
use Rattle.osb_broker.specs.Connection.{ConnectionText, Run}
use Rattle.osb_broker.specs.Resend.{refusing}
use Rattle.osb_broker.specs.Apart.{AsksOf, Chooses, picked, InstancesAreApart}
use Rattle.osb_broker.proofs.OneByOneLemmas.{text_of_request}
use Rattle.osb_broker.proofs.RequestLemmas.{Kind, silent, broken, asks, Seen, view, AreValidTexts}
use Rattle.osb_broker.proofs.RepeatLemmas.{once}
use Rattle.osb_broker.proofs.StepLemmas.{answer_alone}

-- two maps with one life for the instance answer alike
pub same_told : (rules : Rules) (s v : Lives) (ask : Ask) (id : List ℕ) → instance_id_of ask ≡ Some id → life_of s id ≡ life_of v id → (step_of rules s ask).0 ≡ (step_of rules v ask).0
same_told rules s v ask id e same = ap answer_alone (answers_apart rules s v ask id e same)

-- ---- whether a connection asks something of the instance

module _ (rules : Rules) (limits : Limits) (id : List ℕ) where
  decide_at : (bytes : List ℕ) (q : Message) (n : ℕ) → IsFront limits bytes (whole q n) → (r : Result Ask AskFault) → ask_of rules q ≡ r → (at : Option (List ℕ)) → ((ask : Ask) → r ≡ Ok ask → instance_id_of ask ≡ at) → AsksOf rules limits id bytes ⊎ (AsksOf rules limits id bytes → ⊥)
  decide_at bytes q n front (Err f) e at is = inr (λ names.
      let same = front_unique limits bytes (whole q n) (whole names.q names.n) front names.front in
      let one : q ≡ names.q = cc in
      let found : Err f ≡ Ok names.ask = sym e ∙ ap (ask_of rules) one ∙ names.asks in
      cc)
  decide_at bytes q n front (Ok ask) e None is = inr (λ names.
      let same = front_unique limits bytes (whole q n) (whole names.q names.n) front names.front in
      let one : q ≡ names.q = cc in
      let found : Ok ask ≡ Ok names.ask = sym e ∙ ap (ask_of rules) one ∙ names.asks in
      let its : ask ≡ names.ask = cc in
      let none : None ≡ Some id = sym (is ask refl) ∙ ap instance_id_of its ∙ names.names in
      cc)
  decide_at bytes q n front (Ok ask) e (Some other) is = by (bytes_eq other id) refl
    where
      by : (b : Bool) → bytes_eq other id ≡ b → AsksOf rules limits id bytes ⊎ (AsksOf rules limits id bytes → ⊥)
      by true t = inl (record { q = q; n = n; ask = ask; front = front; asks = e; names = is ask refl ∙ ap Some ((bytes_eq-Decides other id).0 t) })
      by false t = inr (λ names.
          let same = front_unique limits bytes (whole q n) (whole names.q names.n) front names.front in
          let one : q ≡ names.q = cc in
          let found : Ok ask ≡ Ok names.ask = sym e ∙ ap (ask_of rules) one ∙ names.asks in
          let its : ask ≡ names.ask = cc in
          let some : Some other ≡ Some id = sym (is ask refl) ∙ ap instance_id_of its ∙ names.names in
          let it : other ≡ id = cc in
          let sure : bytes_eq other id ≡ true = (bytes_eq-Decides other id).1 it in
          let bad : true ≡ false = sym sure ∙ t in
          cc)

  abbrev pub instance_found : Result Ask AskFault → Option (List ℕ)
  instance_found (Ok ask) = instance_id_of ask
  instance_found (Err f) = None

  pub decide : (bytes : List ℕ) → Kind limits bytes → AsksOf rules limits id bytes ⊎ (AsksOf rules limits id bytes → ⊥)
  decide bytes (silent e) = inr (λ names. let same = front_unique limits bytes nothing (whole names.q names.n) e names.front in cc)
  decide bytes (broken f at) = inr (λ names. let same = front_unique limits bytes (fault f) (whole names.q names.n) at names.front in cc)
  decide bytes (asks q n at) = decide_at bytes q n at (ask_of rules q) refl (instance_found (ask_of rules q)) (λ ask e. sym (ap instance_found e))

-- ---- one connection

module _ (rules : Rules) (limits : Limits) (takes : Message → Bool) (id bytes : List ℕ) where
  -- one that asks nothing of the instance leaves its life
  pub stays : (kind : Kind limits bytes) (s : Lives) (marks : List Bool) (texts : List (List ℕ)) (u : Lives) → Seen rules takes limits bytes kind s marks texts u → (AsksOf rules limits id bytes → ⊥) → life_of u id ≡ life_of s id
  stays (silent e) s marks texts u (a, b, c) unnamed = ap (λ l. life_of l id) c
  stays (broken f at) s marks texts u (a, b, c) unnamed = ap (λ l. life_of l id) c
  stays (asks q n at) s marks texts u (true, reply, a, b, answered) unnamed = ap (λ l. life_of l id) answered.2
  stays (asks q n at) s marks texts u (false, reply, a, b, answered) unnamed = ap (λ l. life_of l id) answered.1 ∙ by (ask_of rules q) refl
    where
      over : (ask : Ask) → ask_of rules q ≡ Ok ask → (found : Option (List ℕ)) → instance_id_of ask ≡ found → life_of (after_step rules s ask) id ≡ life_of s id
      over ask e None is = ap (λ l. life_of l id) (unnamed_stay rules s ask is)
      over ask e (Some other) is = others_stay rules s ask other id is (λ same. unnamed (record { q = q; n = n; ask = ask; front = at; asks = e; names = is ∙ ap Some (sym same) }))

      by : (r : Result Ask AskFault) → ask_of rules q ≡ r → life_of (step_for rules s r).1 id ≡ life_of s id
      by (Ok ask) e = over ask e (instance_id_of ask) refl
      by (Err f) e = refl

  -- one that does is answered alike where the instance has that life, and leaves one life
  pub record Answers (v : Lives) (marks : List Bool) (texts : List (List ℕ)) (u : Lives) : Type 0 where
    pub next : Lives
    pub is : ConnectionText (refusing takes rules) limits 1 v bytes marks texts next
    pub same : life_of u id ≡ life_of next id

  made : (q : Message) (n : ℕ) → IsFront limits bytes (whole q n) → (mark : Bool) (reply : ReplyParts) (v w : Lives) → Answered (refusing takes rules) q true mark v reply w → ConnectionText (refusing takes rules) limits 1 v bytes (mark ∷ []) (reply_text reply ∷ []) w
  made q n at mark reply v w answered = text_of_request (refusing takes rules) limits v bytes q n mark reply w at answered

  answers_alike : (kind : Kind limits bytes) (s v : Lives) (marks : List Bool) (texts : List (List ℕ)) (u : Lives) → Seen rules takes limits bytes kind s marks texts u → AsksOf rules limits id bytes → life_of s id ≡ life_of v id → Answers v marks texts u
  answers_alike (silent e) s v marks texts u seen names same = let apart = front_unique limits bytes nothing (whole names.q names.n) e names.front in cc
  answers_alike (broken f at) s v marks texts u seen names same = let apart = front_unique limits bytes (fault f) (whole names.q names.n) at names.front in cc
  answers_alike (asks q n at) s v marks texts u (true, reply, a, b, answered) names same = record {
    next = v;
    is = subst (λ m. ConnectionText (refusing takes rules) limits 1 v bytes m texts v) (sym a) (subst (λ x. ConnectionText (refusing takes rules) limits 1 v bytes (true ∷ []) x v) (sym b) (made q n at true reply v v (answered.0, answered.1, refl)));
    same = ap (λ l. life_of l id) answered.2 ∙ same;
  }
  answers_alike (asks q n at) s v marks texts u (false, reply, a, b, answered) names same =
      let front = front_unique limits bytes (whole q n) (whole names.q names.n) at names.front in
      let one : q ≡ names.q = cc in
      let asked : ask_of rules q ≡ Ok names.ask = ap (ask_of rules) one ∙ names.asks in
      let told_alike : (step_for rules s (ask_of rules q)).0 ≡ (step_for rules v (ask_of rules q)).0 =
      ap (λ r. (step_for rules s r).0) asked ∙ same_told rules s v names.ask id names.names same ∙ sym (ap (λ r. (step_for rules v r).0) asked) in
      let life_alike : life_of (step_for rules s (ask_of rules q)).1 id ≡ life_of (step_for rules v (ask_of rules q)).1 id =
      ap (λ r. life_of (step_for rules s r).1 id) asked ∙ one_life rules s v names.ask id names.names same ∙ sym (ap (λ r. life_of (step_for rules v r).1 id) asked) in
      record {
        next = lives_after rules v q;
        is = subst (λ m. ConnectionText (refusing takes rules) limits 1 v bytes m texts (lives_after rules v q)) (sym a)
            (subst (λ x. ConnectionText (refusing takes rules) limits 1 v bytes (false ∷ []) x (lives_after rules v q)) (sym b)
            (made q n at false reply v (lives_after rules v q) (answered.0 ∙ ap (reply_of q true) told_alike, refl)));
        same = ap (λ l. life_of l id) answered.1 ∙ life_alike;
      }

-- ---- runs

pub record Alone (rules : Rules) (limits : Limits) (takes : Message → Bool) (id : List ℕ) (v : Lives) (cs : List (List ℕ)) (ms : List (List Bool)) (xs : List (List (List ℕ))) (t : Lives) : Type 0 where
  pub chosen : List Bool
  pub chooses : Chooses (AsksOf rules limits id) chosen cs
  pub alone : Lives
  pub is : Run (refusing takes rules) limits 1 v (picked chosen cs) (picked chosen ms) (picked chosen xs) alone
  pub life : life_of t id ≡ life_of alone id

pub runs_alone : (rules : Rules) (limits : Limits) (takes : Message → Bool) (id : List ℕ) (s v : Lives) (cs : List (List ℕ)) (ms : List (List Bool)) (xs : List (List (List ℕ))) (t : Lives) → life_of s id ≡ life_of v id → Run (refusing takes rules) limits 1 s cs ms xs t → Alone rules limits takes id v cs ms xs t
runs_alone rules limits takes id s v [] [] [] t same run = record { chosen = []; chooses = tt; alone = v; is = refl; life = ap (λ l. life_of l id) run ∙ same }
runs_alone rules limits takes id s v [] [] (x ∷ xs) t same run = absurd run
runs_alone rules limits takes id s v [] (m ∷ ms) xs t same run = absurd run
runs_alone rules limits takes id s v (c ∷ cs) [] xs t same run = absurd run
runs_alone rules limits takes id s v (c ∷ cs) (m ∷ ms) [] t same run = absurd run
runs_alone rules limits takes id s v (c ∷ cs) (m ∷ ms) (x ∷ xs) t same (u, first, run) =
    let seen = view rules takes limits s c m x u first in
    by seen.0 seen.1 (decide rules limits id c seen.0) (λ w alike. runs_alone rules limits takes id u w cs ms xs t alike run)
  where
    by : (kind : Kind limits c) → Seen rules takes limits c kind s m x u → AsksOf rules limits id c ⊎ (AsksOf rules limits id c → ⊥) → ((w : Lives) → life_of u id ≡ life_of w id → Alone rules limits takes id w cs ms xs t) → Alone rules limits takes id v (c ∷ cs) (m ∷ ms) (x ∷ xs) t
    by kind seen (inl names) more =
        let here = answers_alike rules limits takes id c kind s v m x u seen names same in
        let later = more here.next here.same in
        record { chosen = true ∷ later.chosen; chooses = (names, later.chooses); alone = later.alone; is = (here.next, here.is, later.is); life = later.life }
    by kind seen (inr unnamed) more =
        let later = more v (stays rules limits takes id c kind s m x u seen unnamed ∙ same) in
        record { chosen = false ∷ later.chosen; chooses = (unnamed, later.chooses); alone = later.alone; is = later.is; life = later.life }

pub are_apart : AreValidTexts → InstancesAreApart
are_apart valid_texts rules limits takes s cs ms xs t sound h run id =
    let it = runs_alone rules limits takes id s s cs ms xs t refl run in
    record {
      chosen = it.chosen;
      chooses = it.chooses;
      alone = it.alone;
      is = it.is;
      life = it.life;
      once = once valid_texts rules limits takes s (picked it.chosen cs) (picked it.chosen ms) (picked it.chosen xs) it.alone sound h it.is;
    }
