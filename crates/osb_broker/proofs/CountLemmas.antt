-- A request that is made again and again opens at most one order, and one more for each failure that is reported.
use Rattle.std.proofs.Common.{◌≡◌, ◌≤◌, ℕ, suc, ◌+◌, ◌⊎◌, inl, inr, List, [], ◌∷◌, length, refl, sym, ap, subst, ◌∙◌, arith}
use Rattle.osb_frames.specs.declared.limits.Limits.{Limits}
use Rattle.osb_catalog.specs.Rules.{Rules}
use Rattle.osb_asks.specs.declared.ask.ReportState.{ReportState}
use Rattle.osb_asks.specs.declared.ask.ReportState.TheVariants as said
use Rattle.osb_asks.specs.declared.ask.Ask.TheVariants as the
use Rattle.osb_orders.specs.Lives.{Lives, life_of}
use Rattle.osb_machine.specs.Machine.{after_step}
use Rattle.osb_laws.proofs.CountLemmas.{Spent, spent_stays, opens_or_not, report_length, report_spent}
use Rattle.osb_broker.specs.Apart.{AsksOf}
use Rattle.osb_broker.specs.Attempts.{AttemptOutcome, answered, failed, lost, Attempt}
use Rattle.osb_broker.specs.Histories.{Leaves, History, Picks}
use Rattle.osb_broker.specs.ActsOnce.{Carried}
use Rattle.osb_broker.specs.Counted.{IsReport, IsFailure, CarriedWithReports}
use Rattle.osb_broker.proofs.ApartLemmas.{decide}
use Rattle.osb_broker.proofs.ActsOnceLemmas.{shown}
use Rattle.osb_broker.proofs.ReportedLemmas.{asked_is, unnamed}

module _ (rules : Rules) (limits : Limits) (id bytes : List ℕ) (own : AsksOf rules limits id bytes) where
  abbrev SpentIn : Lives → Type 0
  SpentIn s = Spent rules own.ask id (life_of s id)

  abbrev size : Lives → ℕ
  size s = length (life_of s id)

  -- what an attempt does: no order more; or one, that is spent; or no order more, and a failure is reported
  data Does (s u : Lives) (other : List ℕ) : Type 0 where
    rests : size u ≡ size s → (SpentIn s → SpentIn u) → Does s u other
    opens : size u ≡ size s + 1 → SpentIn u → (SpentIn s → ⊥) → Does s u other
    fails : size u ≡ size s → IsFailure rules limits id other → Does s u other

  no_more : (n : ℕ) → n ≡ n + 1 → ⊥
  no_more n e = omega (arith, e)

  stays : (s u : Lives) (other : List ℕ) → life_of u id ≡ life_of s id → Does s u other
  stays s u other same = rests (ap (λ l. length l) same) (λ spent. subst (Spent rules own.ask id) (sym same) spent)

  made : (s u : Lives) (x : List (List ℕ)) → Carried rules limits s bytes x u → Does s u bytes
  made s u x c = by (opens_or_not rules own.ask id s own.names)
    where
      is : u ≡ after_step rules s own.ask
      is = asked_is rules limits s u bytes x own.q own.n own.ask own.front own.asks c

      by : (length (life_of (after_step rules s own.ask) id) ≡ size s) ⊎ ((length (life_of (after_step rules s own.ask) id) ≡ size s + 1) × Spent rules own.ask id (life_of (after_step rules s own.ask) id)) → Does s u bytes
      by (inl same) = rests (ap size is ∙ same) (λ spent. subst SpentIn (sym (is ∙ spent_stays rules own.ask id s own.names spent)) spent)
      by (inr (more, spent)) = opens (ap size is ∙ more) (subst SpentIn (sym is) spent) (λ before. no_more (size s) (sym (ap size (spent_stays rules own.ask id s own.names before)) ∙ more))

  reported : (s u : Lives) (other : List ℕ) (x : List (List ℕ)) → IsReport rules limits id other → Carried rules limits s other x u → Does s u other
  reported s u other x r c = by r.report.state refl
    where
      is : u ≡ after_step rules s (the.Report r.report)
      is = asked_is rules limits s u other x r.q r.n (the.Report r.report) r.front r.asks c

      long : size u ≡ size s
      long = ap size is ∙ report_length rules s r.report id r.names

      by : (state : ReportState) → r.report.state ≡ state → Does s u other
      by said.Succeeded e = rests long (λ spent. subst SpentIn (sym is) (report_spent rules own.ask id s r.report r.names e spent))
      by said.Failed e = fails long (record { is = r; failed = e })

  carried : (s u : Lives) (other : List ℕ) (x : List (List ℕ)) → CarriedWithReports rules limits id bytes s other x u → Does s u other
  carried s u other x (c, beside) = by (decide rules limits id other (shown rules limits s other x u c).kind)
    where
      such : (other ≡ bytes) ⊎ (IsReport rules limits id other ⊎ (life_of u id ≡ life_of s id)) → Does s u other
      such (inl same) = subst (Does s u) (sym same) (made s u x (subst (λ b. Carried rules limits s b x u) same c))
      such (inr (inl r)) = reported s u other x r c
      such (inr (inr same)) = stays s u other same

      by : AsksOf rules limits id other ⊎ (AsksOf rules limits id other → ⊥) → Does s u other
      by (inl names) = such (beside names)
      by (inr differs) = stays s u other (unnamed rules limits id s u other x differs c)

  does : (s u : Lives) (other : List ℕ) (o : AttemptOutcome) → Leaves (CarriedWithReports rules limits id bytes) s other o u → Does s u other
  does s u other (answered texts) l = carried s u other texts l
  does s u other failed l = stays s u other (ap (λ (v : Lives). life_of v id) l)
  does s u other lost (texts, l) = carried s u other texts l

  -- at most one more, and none where it is spent
  record Counted (s t : Lives) (f : ℕ) : Type 0 where
    most : size t ≤ size s + 1 + f
    spent : SpentIn s → size t ≤ size s + f

  begins : (n m f : ℕ) → m ≡ n → m ≤ n + 1 + f
  begins n m f e = omega (arith, e)

  begins_spent : (n m f : ℕ) → m ≡ n → m ≤ n + f
  begins_spent n m f e = omega (arith, e)

  more : (t u s f g : ℕ) → t ≤ u + f → u ≡ s → f ≤ g → t ≤ s + g
  more t u s f g a e b = omega (arith, a, e, b)

  more_one : (t u s f g : ℕ) → t ≤ u + 1 + f → u ≡ s → f ≤ g → t ≤ s + 1 + g
  more_one t u s f g a e b = omega (arith, a, e, b)

  opened : (t u s f g : ℕ) → t ≤ u + f → u ≡ s + 1 → f ≤ g → t ≤ s + 1 + g
  opened t u s f g a e b = omega (arith, a, e, b)

  again : (t u s f g : ℕ) → t ≤ u + 1 + f → u ≡ s → g ≡ f + 1 → t ≤ s + g
  again t u s f g a e b = omega (arith, a, e, b)

  again_one : (t u s f g : ℕ) → t ≤ u + 1 + f → u ≡ s → g ≡ f + 1 → t ≤ s + 1 + g
  again_one t u s f g a e b = omega (arith, a, e, b)

  after_it : (s u t : Lives) (other : List ℕ) (f g : ℕ) → f ≤ g → (IsFailure rules limits id other → g ≡ f + 1) → Does s u other → Counted u t f → Counted s t g
  after_it s u t other f g less grows (rests e keeps) c = record {
    most = more_one (size t) (size u) (size s) f g c.most e less;
    spent = λ p. more (size t) (size u) (size s) f g (c.spent (keeps p)) e less;
  }
  after_it s u t other f g less grows (opens e spent before) c = record {
    most = opened (size t) (size u) (size s) f g (c.spent spent) e less;
    spent = λ p. absurd (before p);
  }
  after_it s u t other f g less grows (fails e is) c = record {
    most = again_one (size t) (size u) (size s) f g c.most e (grows is);
    spent = λ p. again (size t) (size u) (size s) f g c.most e (grows is);
  }

  itself : (n : ℕ) → n ≤ n
  itself n = omega arith

  grown : (n m : ℕ) → m ≡ n + 1 → n ≤ m
  grown n m e = omega (arith, e)

  count : (s : Lives) (attempts failures : List Attempt) (t : Lives) → History (CarriedWithReports rules limits id bytes) s attempts t → Picks (IsFailure rules limits id) attempts failures → Counted s t (length failures)
  count s [] failures t e none = record {
    most = begins (size s) (size t) (length failures) (ap size e);
    spent = λ p. begins_spent (size s) (size t) (length failures) (ap size e);
  }
  count s (a ∷ later) failures t (u, l, h) (inl (such, rest, e, picks)) =
      let long : length failures ≡ length rest + 1 = ap (λ l. length l) e ∙ one_more (length rest) in
      after_it s u t a.bytes (length rest) (length failures) (grown (length rest) (length failures) long) (λ _. long) (does s u a.bytes a.outcome l) (count u later rest t h picks)
    where
      one_more : (n : ℕ) → suc n ≡ n + 1
      one_more n = omega (arith)
  count s (a ∷ later) failures t (u, l, h) (inr (other, picks)) =
      after_it s u t a.bytes (length failures) (length failures) (itself (length failures)) (λ is. absurd (other is)) (does s u a.bytes a.outcome l) (count u later failures t h picks)

pub requests_open_one : (rules : Rules) (limits : Limits) (lives : Lives) (attempts failures : List Attempt) (after : Lives) (id bytes : List ℕ) → AsksOf rules limits id bytes →
    History (CarriedWithReports rules limits id bytes) lives attempts after → Picks (IsFailure rules limits id) attempts failures → length (life_of after id) ≤ length (life_of lives id) + 1 + length failures
requests_open_one rules limits lives attempts failures after id bytes own h picks = (count rules limits id bytes own lives attempts failures after h picks).most
