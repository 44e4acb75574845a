-- Two maps of lives that differ in nothing but the attributes of fixed orders, each up to a succeeded deletion.
use Rattle.std.proofs.Common.{append-nil, ◌≡◌, ℕ, Bool, true, false, cond, List, [], ◌∷◌, ◌++◌, map, drop, Option, None, Some, refl, sym, ◌∙◌, ap, subst, append_assoc}
use Rattle.std.specs.Prelude.{unwrap_or, option_map}
use Rattle.std.specs.declared.cmp.Ordering.{Ordering}
use Rattle.std.specs.declared.cmp.Ordering.TheVariants.{Less, Equal, Greater}
use Rattle.std.specs.Ordering.{nat_cmp, is_eq, eq_by_cmp}
use Rattle.std.specs.Cmp.Lexicographic.{slice_cmp, nat_list_cmp_total}
use Rattle.std.specs.FinMap.{get, get-insert, insert, slice_cmp-IsAntisymmetric, nat_cmp-IsAntisymmetric}
use Rattle.std.proofs.lemmas.Bool.{true≢false}
use Rattle.osb_catalog.specs.Rules.{Rules}
use Rattle.osb_asks.specs.declared.ask.Ask.{Ask}
use Rattle.osb_orders.specs.declared.order.Outcome.{Outcome}
use Rattle.osb_orders.specs.declared.order.Order.{Order}
use Rattle.osb_orders.specs.declared.order.Change.{Change}
use Rattle.osb_orders.specs.declared.order.Change.TheVariants.{Nothing, Append, Finish}
use Rattle.osb_orders.specs.Life.{Life}
use Rattle.osb_orders.specs.Lives.{Lives, life_of, named_life}
use Rattle.osb_asks.specs.Subjects.{instance_id_of}
use Rattle.osb_orders.specs.Changed.{with_last_ended, after_change}
use Rattle.osb_orders.specs.IsLife.{ends_running, IsLives}
use Rattle.osb_machine.specs.Machine.{answer_to, after_step}
use Rattle.osb_laws.proofs.StepLemmas.{IsStep}
use Rattle.osb_trim.specs.Trimmed.{erased, trimmed, trimmed_lives}
use Rattle.osb_trim.proofs.LivesLemmas.{same_lives, get-trimmed}
use Rattle.osb_trim.proofs.AnswerLemmas.{answer_stays}
use Rattle.osb_trim.proofs.StepLemmas.{AreInOrder, in_order, in_order-trimmed, allowed, step_in_order}
use Rattle.osb_trim.proofs.FrontLemmas.{IsClosed, closed-erased, trimmed-closed, closed_ended, parts_of}

-- ---- one life

-- the lives begin with the one front and with the other, and go on alike
abbrev pub AreSwapped : Life → Life → Life → Life → Type 0
AreSwapped front other life swapped = (rest : Life) × (life ≡ front ++ rest) × (swapped ≡ other ++ rest)

ended_behind : (outcome : Outcome) (front : Life) (order : Order) (rest : Life) → with_last_ended outcome (front ++ order ∷ rest) ≡ front ++ with_last_ended outcome (order ∷ rest)
ended_behind outcome [] order rest = refl
ended_behind outcome (first ∷ []) order rest = refl
ended_behind outcome (first ∷ next ∷ front) order rest = ap (λ (l : Life). first ∷ l) (ended_behind outcome (next ∷ front) order rest)

ended_swapped : (outcome : Outcome) (front other life swapped rest : Life) → IsClosed front → life ≡ front ++ rest → swapped ≡ other ++ rest → ends_running life ≡ true → AreSwapped front other (with_last_ended outcome life) (with_last_ended outcome swapped)
ended_swapped outcome front other life swapped [] closed one two runs =
    let ended : ends_running life ≡ false = ap ends_running (one ∙ append-nil front) ∙ closed_ended front closed in
    absurd (true≢false (sym runs ∙ ended))
ended_swapped outcome front other life swapped (order ∷ rest) closed one two runs = (
  with_last_ended outcome (order ∷ rest),
  ap (with_last_ended outcome) one ∙ ended_behind outcome front order rest,
  ap (with_last_ended outcome) two ∙ ended_behind outcome other order rest,
)

appended : (order : Order) (front other life swapped : Life) → AreSwapped front other life swapped → AreSwapped front other (life ++ order ∷ []) (swapped ++ order ∷ [])
appended order front other life swapped (rest, one, two) = (
  rest ++ order ∷ [],
  ap (λ (l : Life). l ++ order ∷ []) one ∙ append_assoc front rest (order ∷ []),
  ap (λ (l : Life). l ++ order ∷ []) two ∙ append_assoc other rest (order ∷ []),
)

cancelled : (front rest other : Life) → front ++ rest ≡ front ++ other → rest ≡ other
cancelled [] rest other e = e
cancelled (order ∷ front) rest other e = cancelled front rest other (ap (drop 1) e)

-- ---- what is found of one instance

abbrev pub AreFound : Life → Life → Option Life → Option Life → Type 0
AreFound front other None None = (front ≡ []) × (other ≡ [])
AreFound front other (Some life) (Some swapped) = AreSwapped front other life swapped
AreFound front other _ _ = ⊥

life_found : (front other : Life) (found swapped : Option Life) → AreFound front other found swapped → AreSwapped front other (unwrap_or found []) (unwrap_or swapped [])
life_found front other None None (one, two) = ([], sym (append-nil front ∙ one), sym (append-nil other ∙ two))
life_found front other (Some life) (Some swapped) h = h
life_found front other None (Some swapped) h = absurd h
life_found front other (Some life) None h = absurd h

found_trimmed : (front other : Life) (found swapped : Option Life) → IsClosed front → IsClosed other → map erased front ≡ map erased other → AreFound front other found swapped → option_map trimmed found ≡ option_map trimmed swapped
found_trimmed front other None None closed others same h = refl
found_trimmed front other (Some life) (Some swapped) closed others same (rest, one, two) = ap Some (
    ap trimmed one ∙ trimmed-closed front rest closed
    ∙ ap (λ (f : Life). f ++ trimmed rest) same
    ∙ sym (trimmed-closed other rest others) ∙ ap trimmed (sym two))
found_trimmed front other None (Some swapped) closed others same h = absurd h
found_trimmed front other (Some life) None closed others same h = absurd h

found_once : (front other : Life) (found one two : Option Life) → AreFound front other found one → AreFound front other found two → one ≡ two
found_once front other None None None h g = refl
found_once front other (Some life) (Some one) (Some two) (rest, a, b) (others, c, d) =
    let same : rest ≡ others = cancelled front rest others (sym a ∙ c) in
    ap Some (b ∙ ap (λ (l : Life). other ++ l) same ∙ sym d)
found_once front other None (Some one) two h g = absurd h
found_once front other (Some life) None two h g = absurd h
found_once front other None None (Some two) h g = absurd g
found_once front other (Some life) (Some one) None h g = absurd g

no_front : (front rest : Life) → [] ≡ front ++ rest → front ≡ []
no_front [] rest e = refl
no_front (order ∷ front) rest e = cc

-- a life, and the same trimmed
found_parts : (found : Option Life) → AreFound (parts_of (unwrap_or found [])).front (map erased (parts_of (unwrap_or found [])).front) found (option_map trimmed found)
found_parts None =
    let parts = parts_of [] in
    let none = no_front parts.front parts.rest parts.whole in
    (none, ap (map erased) none)
found_parts (Some life) = let parts = parts_of life in (parts.rest, parts.whole, parts.trims)

-- ---- all lives

-- of each instance the orders that one map has at first, and those of the other map
pub record Fronts : Type 0 where
  pub one : List ℕ → Life
  pub other : List ℕ → Life
  pub closed : (id : List ℕ) → IsClosed (one id)
  pub others_closed : (id : List ℕ) → IsClosed (other id)
  pub same : (id : List ℕ) → map erased (one id) ≡ map erased (other id)

pub record Matches (fronts : Fronts) (lives others : Lives) : Type 0 where
  pub one : AreInOrder lives
  pub other : AreInOrder others
  pub found : (id : List ℕ) → AreFound (fronts.one id) (fronts.other id) (get lives id) (get others id)

equal_of : (o : Ordering) → is_eq o ≡ true → o ≡ Equal
equal_of Less e = cc
equal_of Equal e = refl
equal_of Greater e = cc

same_id : (id at : List ℕ) → eq_by_cmp (slice_cmp nat_cmp) id at ≡ true → id ≡ at
same_id id at e = slice_cmp-IsAntisymmetric nat_cmp-IsAntisymmetric id at (equal_of (slice_cmp nat_cmp id at) e)

module _ (fronts : Fronts) where
  pub alike : (lives others : Lives) → Matches fronts lives others → trimmed_lives lives ≡ trimmed_lives others
  alike lives others h = same_lives (trimmed_lives lives) (trimmed_lives others) (λ id.
      get-trimmed lives id
      ∙ found_trimmed (fronts.one id) (fronts.other id) (get lives id) (get others id) (fronts.closed id) (fronts.others_closed id) (fronts.same id) (h.found id)
      ∙ sym (get-trimmed others id))

  -- each map matches one other
  pub matches_one : (lives others more : Lives) → Matches fronts lives others → Matches fronts lives more → others ≡ more
  matches_one lives others more h g = same_lives others more (λ id. found_once (fronts.one id) (fronts.other id) (get lives id) (get others id) (get more id) (h.found id) (g.found id))

  swapped_at : (lives others : Lives) (id : List ℕ) → Matches fronts lives others → AreSwapped (fronts.one id) (fronts.other id) (life_of lives id) (life_of others id)
  swapped_at lives others id h = life_found (fronts.one id) (fronts.other id) (get lives id) (get others id) (h.found id)

  inserted : (lives others : Lives) (at : List ℕ) (life swapped : Life) → Matches fronts lives others → AreSwapped (fronts.one at) (fronts.other at) life swapped → (id : List ℕ) → AreFound (fronts.one id) (fronts.other id) (get (insert lives at life) id) (get (insert others at swapped) id)
  inserted lives others at life swapped h new id =
      let here : Bool = eq_by_cmp (slice_cmp nat_cmp) id at in
      let Found : Option Life → Option Life → Type 0 = AreFound (fronts.one id) (fronts.other id) in
      subst (λ (found : Option Life). Found found (get (insert others at swapped) id)) (sym (get-insert nat_list_cmp_total lives at life id))
      (subst (Found (cond here (Some life) (get lives id))) (sym (get-insert nat_list_cmp_total others at swapped id)) (by here refl))
    where
      by : (here : Bool) → eq_by_cmp (slice_cmp nat_cmp) id at ≡ here → AreFound (fronts.one id) (fronts.other id) (cond here (Some life) (get lives id)) (cond here (Some swapped) (get others id))
      by true e = subst (λ (i : List ℕ). AreSwapped (fronts.one i) (fronts.other i) life swapped) (sym (same_id id at e)) new
      by false e = h.found id

  change_found : (rules : Rules) (lives others : Lives) (change : Change) (at : Option (List ℕ)) → Matches fronts lives others → IsStep rules (named_life lives at) change → (id : List ℕ) → AreFound (fronts.one id) (fronts.other id) (get (after_change change lives at) id) (get (after_change change others at) id)
  change_found rules lives others change None h step = h.found
  change_found rules lives others Nothing (Some at) h step = h.found
  change_found rules lives others (Append order) (Some at) h step =
      inserted lives others at (life_of lives at ++ order ∷ []) (life_of others at ++ order ∷ []) h
      (appended order (fronts.one at) (fronts.other at) (life_of lives at) (life_of others at) (swapped_at lives others at h))
  change_found rules lives others (Finish number outcome) (Some at) h step =
      let swapped = swapped_at lives others at h in
      inserted lives others at (with_last_ended outcome (life_of lives at)) (with_last_ended outcome (life_of others at)) h
      (ended_swapped outcome (fronts.one at) (fronts.other at) (life_of lives at) (life_of others at) swapped.0 (fronts.closed at) swapped.1 swapped.2 step.0)

  module _ (rules : Rules) where
    pub answers_match : (lives others : Lives) (ask : Ask) → Matches fronts lives others → answer_to rules lives ask ≡ answer_to rules others ask
    answers_match lives others ask h = sym (answer_stays rules lives ask) ∙ ap (λ (all : Lives). answer_to rules all ask) (alike lives others h) ∙ answer_stays rules others ask

    pub steps_match : (lives others : Lives) (ask : Ask) → Matches fronts lives others → Matches fronts (after_step rules lives ask) (after_step rules others ask)
    steps_match lives others ask h = record {
      one = step_in_order rules lives ask h.one;
      other = step_in_order rules others ask h.other;
      found = λ id. subst (λ (change : Change). AreFound (fronts.one id) (fronts.other id) (get (after_step rules lives ask) id) (get (after_change change others (instance_id_of ask)) id))
          (ap (λ decision. decision.change) (answers_match lives others ask h))
          (change_found rules lives others (answer_to rules lives ask).change (instance_id_of ask) h (allowed rules lives ask h.one) id);
    }

-- ---- lives and the same trimmed

pub twice : (life : Life) → map erased life ≡ map erased (map erased life)
twice [] = refl
twice (order ∷ life) = ap (λ (l : Life). erased order ∷ l) (twice life)

abbrev pub fronts_of : Lives → Fronts
fronts_of lives = record {
  one = λ id. (parts_of (life_of lives id)).front;
  other = λ id. map erased (parts_of (life_of lives id)).front;
  closed = λ id. (parts_of (life_of lives id)).closed;
  others_closed = λ id. closed-erased (parts_of (life_of lives id)).front (parts_of (life_of lives id)).closed;
  same = λ id. twice (parts_of (life_of lives id)).front;
}

pub matches_trimmed : (lives : Lives) → IsLives lives → Matches (fronts_of lives) lives (trimmed_lives lives)
matches_trimmed lives h = record {
  one = in_order lives h;
  other = in_order-trimmed lives (in_order lives h);
  found = λ id. subst (AreFound (parts_of (life_of lives id)).front (map erased (parts_of (life_of lives id)).front) (get lives id)) (sym (get-trimmed lives id)) (found_parts (get lives id));
}

abbrev pub turned : Fronts → Fronts
turned fronts = record { one = fronts.other; other = fronts.one; closed = fronts.others_closed; others_closed = fronts.closed; same = λ id. sym (fronts.same id) }

found_turned : (front other : Life) (found swapped : Option Life) → AreFound front other found swapped → AreFound other front swapped found
found_turned front other None None (one, two) = (two, one)
found_turned front other (Some life) (Some swapped) (rest, one, two) = (rest, two, one)
found_turned front other None (Some swapped) h = absurd h
found_turned front other (Some life) None h = absurd h

pub matches_turned : (fronts : Fronts) (lives others : Lives) → Matches fronts lives others → Matches (turned fronts) others lives
matches_turned fronts lives others h = record { one = h.other; other = h.one; found = λ id. found_turned (fronts.one id) (fronts.other id) (get lives id) (get others id) (h.found id) }
