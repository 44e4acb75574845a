-- What is asked again and again opens at most one order, and one more for each failure that is reported.
use Rattle.std.proofs.Common.{◌≡◌, ◌∙◌, ◌≤◌, ◌⊎◌, ℕ, suc, ◌+◌, inl, inr, List, [], ◌∷◌, length, Some, refl, sym, ap, subst, arith}
use Rattle.osb_frames.specs.declared.limits.Limits.{Limits}
use Rattle.osb_catalog.specs.Rules.{Rules}
use Rattle.osb_asks.specs.declared.ask.Ask.{Ask}
use Rattle.osb_asks.specs.declared.ask.Ask.TheVariants as the
use Rattle.osb_asks.specs.declared.ask.Report.{Report}
use Rattle.osb_asks.specs.declared.ask.ReportState.{ReportState}
use Rattle.osb_asks.specs.declared.ask.ReportState.TheVariants as state
use Rattle.osb_asks.specs.Subjects.{instance_id_of}
use Rattle.osb_orders.specs.Lives.{Lives, life_of}
use Rattle.osb_machine.specs.Machine.{after_step}
use Rattle.osb_laws.proofs.CountLemmas.{Spent, spent_stays, opens_or_not, report_length, report_spent}
use Rattle.osb_broker.specs.Exchanges.{Exchange, IsExchange, AreExchanges, all_exchanges}
use Rattle.osb_broker.specs.Asked.{IsAskedIn, OfEachAsk, IsFailureIn, AreFailures, IsAgainOrReport, AskedAgainOpensOne}
use Rattle.osb_broker.proofs.AskedLemmas.{does, about}
use Rattle.osb_broker.proofs.ReportedLemmas.{reading_stays}
use Rattle.osb_broker.proofs.ExchangeLemmas.{runs_go_on}

module _ (rules : Rules) (limits : Limits) (id : List ℕ) (ask : Ask) (named : instance_id_of ask ≡ Some id) where
  -- an order of the ask has ended the life, and didn't fail
  abbrev IsSpent : Lives → Type 0
  IsSpent lives = Spent rules ask id (life_of lives id)

  abbrev count : Lives → ℕ
  count lives = length (life_of lives id)

  -- what an exchange does: no order more; or one, that is spent; or no order more, and it reports a failure
  data Does (x : Exchange) (old new : Lives) : Type 0 where
    rests : count new ≡ count old → (IsSpent old → IsSpent new) → Does x old new
    opens : count new ≡ count old + 1 → IsSpent new → (IsSpent old → ⊥) → Does x old new
    fails : count new ≡ count old → IsFailureIn rules limits id x → Does x old new

  stays : (x : Exchange) (old new : Lives) → life_of new id ≡ life_of old id → Does x old new
  stays x old new same = rests (ap (λ life. length life) same) (λ spent. subst (Spent rules ask id) (sym same) spent)

  no_more : (n : ℕ) → n ≡ n + 1 → ⊥
  no_more n e = omega (arith, e)

  asked : (x : Exchange) (old new : Lives) → new ≡ after_step rules old ask → Does x old new
  asked x old new is = by (opens_or_not rules ask id old named)
    where
      by : (count (after_step rules old ask) ≡ count old) ⊎ ((count (after_step rules old ask) ≡ count old + 1) × IsSpent (after_step rules old ask)) → Does x old new
      by (inl same) = rests (ap count is ∙ same) (λ spent. subst IsSpent (sym (is ∙ spent_stays rules ask id old named spent)) spent)
      by (inr (more, spent)) = opens (ap count is ∙ more) (subst IsSpent (sym is) spent) (λ before. no_more (count old) (sym (ap count (spent_stays rules ask id old named before)) ∙ more))

  reported : (x : Exchange) (old new : Lives) (report : Report) → report.instance ≡ id → IsAskedIn rules limits (the.Report report) x → new ≡ after_step rules old (the.Report report) → Does x old new
  reported x old new report its this is = by report.state refl
    where
      long : count new ≡ count old
      long = ap count is ∙ report_length rules old report id its

      by : (said : ReportState) → report.state ≡ said → Does x old new
      by state.Succeeded e = rests long (λ spent. subst IsSpent (sym is) (report_spent rules ask id old report its e spent))
      by state.Failed e = fails long (the.Report report, this, (report, refl, its, e))

  made : (x : Exchange) (old new : Lives) (other : Ask) → IsAskedIn rules limits other x → new ≡ after_step rules old other → IsAgainOrReport id ask other → Does x old new
  made x old new other this is (inl same) = asked x old new (is ∙ ap (λ a. after_step rules old a) same)
  made x old new other this is (inr (inl (report, same, its))) =
      reported x old new report its (subst (λ a. IsAskedIn rules limits a x) same this) (is ∙ ap (λ a. after_step rules old a) same)
  made x old new other this is (inr (inr reads)) = stays x old new (ap (λ lives. life_of lives id) (is ∙ reading_stays rules old other reads))

  abbrev Such : Exchange → Type 0
  Such x = (other : Ask) → IsAskedIn rules limits other x → instance_id_of other ≡ Some id → IsAgainOrReport id ask other

  one : (k : ℕ) (x : Exchange) (old new : Lives) → IsExchange rules limits k old x new → Such x → Does x old new
  one k x old new is such = by (does rules limits k x old new is)
    where
      by : (new ≡ old) ⊎ ((other : Ask) × IsAskedIn rules limits other x × (new ≡ after_step rules old other)) → Does x old new
      by (inl same) = stays x old new (ap (λ lives. life_of lives id) same)
      by (inr (other, this, leaves)) = of (about rules id old new other leaves)
        where
          of : (life_of new id ≡ life_of old id) ⊎ (instance_id_of other ≡ Some id) → Does x old new
          of (inl same) = stays x old new same
          of (inr its) = made x old new other this leaves (such other this its)

  -- at most one order more, and none where one is spent, but for failures
  record IsCounted (old new : Lives) (failures : ℕ) : Type 0 where
    most : count new ≤ count old + 1 + failures
    spent : IsSpent old → count new ≤ count old + failures

  same_most : (n m f : ℕ) → m ≡ n → m ≤ n + 1 + f
  same_most n m f e = omega (arith, e)

  same_spent : (n m f : ℕ) → m ≡ n → m ≤ n + f
  same_spent n m f e = omega (arith, e)

  later_most : (t u s f g : ℕ) → t ≤ u + 1 + f → u ≡ s → f ≤ g → t ≤ s + 1 + g
  later_most t u s f g a e b = omega (arith, a, e, b)

  later_spent : (t u s f g : ℕ) → t ≤ u + f → u ≡ s → f ≤ g → t ≤ s + g
  later_spent t u s f g a e b = omega (arith, a, e, b)

  opened_most : (t u s f g : ℕ) → t ≤ u + f → u ≡ s + 1 → f ≤ g → t ≤ s + 1 + g
  opened_most t u s f g a e b = omega (arith, a, e, b)

  failed_most : (t u s f g : ℕ) → t ≤ u + 1 + f → u ≡ s → g ≡ suc f → t ≤ s + 1 + g
  failed_most t u s f g a e b = omega (arith, a, e, b)

  failed_spent : (t u s f g : ℕ) → t ≤ u + 1 + f → u ≡ s → g ≡ suc f → t ≤ s + g
  failed_spent t u s f g a e b = omega (arith, a, e, b)

  behind : (x : Exchange) (old next new : Lives) (f g : ℕ) → f ≤ g → (IsFailureIn rules limits id x → g ≡ suc f) → Does x old next → IsCounted next new f → IsCounted old new g
  behind x old next new f g less grows (rests e keeps) c = record {
    most = later_most (count new) (count next) (count old) f g c.most e less;
    spent = λ is. later_spent (count new) (count next) (count old) f g (c.spent (keeps is)) e less;
  }
  behind x old next new f g less grows (opens e spent before) c = record {
    most = opened_most (count new) (count next) (count old) f g (c.spent spent) e less;
    spent = λ is. absurd (before is);
  }
  behind x old next new f g less grows (fails e is) c = record {
    most = failed_most (count new) (count next) (count old) f g c.most e (grows is);
    spent = λ _. failed_spent (count new) (count next) (count old) f g c.most e (grows is);
  }

  grown : (n m : ℕ) → m ≡ suc n → n ≤ m
  grown n m e = omega (arith, e)

  itself : (n : ℕ) → n ≤ n
  itself n = omega arith

  all : (k : ℕ) (old : Lives) (exchanges : List Exchange) (new : Lives) (failures : ℕ) → AreExchanges rules limits k old exchanges new → OfEachAsk rules limits id (IsAgainOrReport id ask) exchanges → AreFailures rules limits id exchanges failures → IsCounted old new failures
  all k old [] new failures none each no_failures = record {
    most = same_most (count old) (count new) failures (ap count none);
    spent = λ _. same_spent (count old) (count new) failures (ap count none);
  }
  all k old (x ∷ later) new failures (next, is, rest) each (inl (fewer, e, it, are)) =
      behind x old next new fewer failures (grown fewer failures e) (λ _. e) (one k x old next is each.0) (all k next later new fewer rest each.1 are)
  all k old (x ∷ later) new failures (next, is, rest) each (inr (other, are)) =
      behind x old next new failures failures (itself failures) (λ it. absurd (other it)) (one k x old next is each.0) (all k next later new failures rest each.1 are)

pub opens_one : AskedAgainOpensOne
opens_one rules limits k old runs new id ask failures named are each fail =
    (all rules limits id ask named k old (all_exchanges runs) new failures (runs_go_on rules limits k old runs new are) each fail).most
