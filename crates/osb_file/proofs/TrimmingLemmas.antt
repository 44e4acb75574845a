-- Lives that are copied into other records, each trimmed.
use Rattle.std.proofs.Common.{◌≡◌, ◌≢◌, ℕ, zero, suc, ◌+◌, ◌<◌, ◌≤◌, Bool, true, false, cond, List, [], ◌∷◌, ◌++◌, length, take, get_or, bytes_eq, Option, Some, None, Ordering, Less, Equal, Greater, is_gt, refl, sym, ap, subst, ◌∙◌, IsTrue, arith, true≢false, append-nil, append_assoc}
use Rattle.std.specs.Prelude.{IfSome, option_map, unwrap_or}
use Rattle.std.specs.Ordering.{nat_cmp, ordering_reverse}
use Rattle.std.specs.List.{AllByRecursion}
use Rattle.std.proofs.lemmas.Bool.{false≢true}
use Rattle.std.specs.Cmp.Lexicographic.{nat_list_cmp_total, slice_cmp}
use Rattle.std.specs.FinMap.{empty, get, get-empty, same_map, slice_cmp-IsAntisymmetric, nat_cmp-IsAntisymmetric}
use Rattle.std.proofs.Math.Seq.{take-length}
use Rattle.sqlite.specs.State.{State}
use Rattle.osb_text.specs.Id.{is_id}
use Rattle.osb_audit.proofs.RunLemmas.{by_bytes, UpTo, strictly, not_itself, same_text as same_ids, text_itself as id_itself}
use Rattle.osb_orders.specs.declared.order.Order.{Order}
use Rattle.osb_orders.specs.declared.order.Change.TheVariants.{Append}
use Rattle.osb_orders.specs.Life.{Life}
use Rattle.osb_orders.specs.Lives.{Lives, life_of}
use Rattle.osb_orders.specs.Changed.{lives_changed}
use Rattle.osb_orders.specs.IsLife.{HasValidTexts, IsInstance, IsLife, IsLifeAfter, IsLives, IsNext}
use Rattle.osb_orders.specs.Allowed.{IsAppendable}
use Rattle.osb_laws.specs.Exclusive.{ChangesKeepLives}
use Rattle.osb_statements.specs.NextId.{IsBelow, IsNextId}
use Rattle.osb_statements.specs.Steps.{stored}
use Rattle.osb_statements.proofs.PutLemmas.{inserted_life}
use Rattle.osb_statements.proofs.StoredPieceLemmas.{not_an_id}
use Rattle.osb_records.proofs.ChangesLemmas.{all_at, taken_next}
use Rattle.osb_trim.specs.Trimmed.{trimmed, trimmed_lives}
use Rattle.osb_trim.specs.Erased.{EachLifeIsTrimmed, TrimmedLifeIsWhole, TrimmedLivesAreWhole}
use Rattle.osb_file.specs.Inside.{HasLifeToo}

-- ---- orders, one after the other

next_at : (before later : Life) (i : ℕ) (order : Order) → IsLifeAfter before later → i < length later → order ≡ get_or later i order → IsNext (before ++ take i later) order
next_at before [] i order after low at = absurd (omega (arith, low))
next_at before (first ∷ later) zero order after low at = subst (λ (o : Order). IsNext (before ++ []) o) (sym at) (subst (λ (l : Life). IsNext l first) (sym (append-nil before)) after.0)
next_at before (first ∷ later) (suc i) order after low at =
    subst (λ (l : Life). IsNext l order) (append_assoc before (first ∷ []) (take i later))
    (next_at (before ++ first ∷ []) later i order after.1 (omega (arith, low)) at)

appendable_at : (life : Life) (i : ℕ) (order : Order) → IsLife life → i < length life → order ≡ get_or life i order → IsAppendable (take i life) order
appendable_at life i order whole low at = record {
  room = subst (λ n. n < 1000000) (sym (take_shorter life i low)) (omega (arith, low, whole.count));
  next = next_at [] life i order whole.orders low at;
  texts = all_at HasValidTexts life i order whole.texts low at;
}
  where
    take_shorter : (life : Life) (i : ℕ) → i < length life → length (take i life) ≡ i
    take_shorter [] i low = absurd (omega (arith, low))
    take_shorter (order ∷ life) zero low = refl
    take_shorter (order ∷ life) (suc i) low = ap suc (take_shorter life i (omega (arith, low)))

-- these orders of the instance were written into records that had none of it
pub record HasAppended (old now : State) (id : List ℕ) (life : Life) : Type 0 where
  pub was_open : IsTrue now.is_open → IsTrue old.is_open
  pub has : IsTrue now.is_open → HasLifeToo (stored old) id life (stored now)

pub none_appended : (s : State) (id : List ℕ) → (IsTrue s.is_open → life_of (stored s) id ≡ []) → HasAppended s s id []
none_appended s id none = record {
  was_open = λ live. live;
  has = λ live. record { here = none live; others = λ other apart. refl };
}

apart_back : (a b : List ℕ) → bytes_eq b a ≡ false → bytes_eq a b ≡ false
apart_back a b apart = go (bytes_eq a b) refl
  where
    go : (c : Bool) → bytes_eq a b ≡ c → c ≡ false
    go false is = refl
    go true is = absurd (true≢false (sym (subst (λ (other : List ℕ). bytes_eq other a ≡ true) (same_ids a b is) (id_itself a)) ∙ apart))

module _ (old now : State) (id : List ℕ) (life : Life) (i : ℕ) (order : Order) (low : i < length life) (at : order ≡ get_or life i order) (so_far : HasAppended old now id (take i life)) where
  -- the next one leaves well-formed lives
  pub append_keeps : ChangesKeepLives → is_id id ≡ true → IsLife life → IsTrue now.is_open → IsLives (stored now) → IsLives (lives_changed (Append order) id (stored now))
  append_keeps law word is_life live whole =
      law (stored now) (Append order) id whole word
      (subst (λ (l : Life). IsAppendable l order) (sym (so_far.has live).here) (appendable_at life i order is_life low at))

  pub next_appended : (next : State) → (IsTrue next.is_open → IsTrue now.is_open) → stored next ≡ lives_changed (Append order) id (stored now) → HasAppended old next id (take (i + 1) life)
  next_appended next was are = record {
    was_open = λ live. so_far.was_open (was live);
    has = λ live.
        let has = so_far.has (was live) in
        record {
          here =
              ap (λ (lives : Lives). life_of lives id) are ∙ inserted_life (stored now) id id _ true (id_itself id)
              ∙ ap (λ (l : Life). l ++ order ∷ []) has.here ∙ sym (taken_next life i order low at);
          others = λ other apart.
              ap (λ (lives : Lives). life_of lives other) are
              ∙ inserted_life (stored now) id other _ false (apart_back id other apart) ∙ has.others other apart;
        };
  }

pub all_appended : (old now : State) (id : List ℕ) (life : Life) → HasAppended old now id (take (length life) life) → IsTrue now.is_open → HasLifeToo (stored old) id life (stored now)
all_appended old now id life appended live = subst (λ (l : Life). HasLifeToo (stored old) id l (stored now)) (take-length life) (appended.has live)

-- ---- lives

pub named : (lives : Lives) (id : List ℕ) → IsLives lives → life_of lives id ≢ [] → IsInstance id (life_of lives id)
named lives id whole some = go (get lives id) refl (whole id) some
  where
    go : (found : Option Life) → get lives id ≡ found → IfSome found (IsInstance id) → unwrap_or found [] ≢ [] → IsInstance id (unwrap_or found [])
    go None is instance some = absurd (some refl)
    go (Some life) is instance some = instance

-- the empty id names no instance
no_name : (lives : Lives) → IsLives lives → life_of lives [] ≡ []
no_name lives whole = go (get lives []) (whole [])
  where
    go : (found : Option Life) → IfSome found (IsInstance []) → unwrap_or found [] ≡ []
    go None instance = refl
    go (Some life) instance = absurd (false≢true (not_an_id _ _ _ instance.id))

-- well-formed lives with the same life of each instance are the same
same_lives : (one other : Lives) → IsLives one → IsLives other → ((id : List ℕ) → life_of one id ≡ life_of other id) → one ≡ other
same_lives one other whole also same =
    same_map nat_list_cmp_total (slice_cmp-IsAntisymmetric nat_cmp-IsAntisymmetric) one other (λ id. go id (get one id) (get other id) (whole id) (also id) (same id))
  where
    go : (id : List ℕ) (a b : Option Life) → IfSome a (IsInstance id) → IfSome b (IsInstance id) → unwrap_or a [] ≡ unwrap_or b [] → a ≡ b
    go id None None p q is = refl
    go id None (Some life) p q is = absurd (q.opened (sym is))
    go id (Some life) None p q is = absurd (p.opened is)
    go id (Some life) (Some more) p q is = ap Some is

-- the lives up to this id were copied
pub record HasCopied (source now first target : State) (after : List ℕ) : Type 0 where
  pub same : IsTrue now.is_open → stored now ≡ stored source
  pub source_was_open : IsTrue now.is_open → IsTrue source.is_open
  pub was_open : IsTrue target.is_open → IsTrue first.is_open
  pub copied : IsTrue target.is_open → IsTrue source.is_open → (id : List ℕ) → UpTo id after → life_of (stored target) id ≡ trimmed (life_of (stored source) id)
  pub above : IsTrue target.is_open → (id : List ℕ) → IsBelow after id → life_of (stored target) id ≡ []

no_life : (lives : Lives) (id : List ℕ) → lives ≡ empty → life_of lives id ≡ []
no_life lives id none = ap (λ (l : Lives). life_of l id) none ∙ ap (λ (found : Option Life). unwrap_or found []) (get-empty (slice_cmp nat_cmp) id)

-- only the empty id isn't above it
up_to_none : (id : List ℕ) → UpTo id [] → id ≡ []
up_to_none [] up = refl
up_to_none (byte ∷ id) up = absurd (cc)

pub none_copied : (source first : State) (after : List ℕ) → after ≡ [] → (IsTrue source.is_open → IsLives (stored source)) → (IsTrue first.is_open → stored first ≡ empty) → HasCopied source source first first after
none_copied source first after begun whole none = record {
  same = λ live. refl;
  source_was_open = λ live. live;
  was_open = λ live. live;
  copied = λ live there id up.
      let is : id ≡ [] = up_to_none id (subst (UpTo id) begun up) in
      no_life (stored first) id (none live)
      ∙ sym (ap trimmed (ap (life_of (stored source)) is ∙ no_name (stored source) (whole there)));
  above = λ live id below. no_life (stored first) id (none live);
}

-- an id below another isn't above it
below_is_up : (a b : List ℕ) → IsBelow a b → UpTo a b
below_is_up a b below = ap is_gt below

not_up : (a b : List ℕ) → is_gt (by_bytes a b) ≡ true → IsBelow b a
not_up a b above = nat_list_cmp_total.antisymm b a ∙ turned (by_bytes a b) above
  where
    turned : (o : Ordering) → is_gt o ≡ true → ordering_reverse o ≡ Less
    turned Less above = absurd (cc)
    turned Equal above = absurd (cc)
    turned Greater above = refl

module _ (source now first target : State) (after : List ℕ) (so_far : HasCopied source now first target after) (mid : State) (looked : IsTrue now.is_open) (mid_was : IsTrue mid.is_open → IsTrue now.is_open) (mid_same : IsTrue mid.is_open → stored mid ≡ stored now) where
  found_source : stored now ≡ stored source
  found_source = so_far.same looked

  source_open : IsTrue source.is_open
  source_open = so_far.source_was_open looked

  module _ (id : List ℕ) (found : IsNextId (stored now) after (Some id)) where
    -- what copying it asks for
    pub next_is_some : IsTrue mid.is_open → life_of (stored mid) id ≢ []
    next_is_some live = subst (λ (lives : Lives). life_of lives id ≢ []) (sym (mid_same live)) found.1

    pub next_is_new : IsTrue target.is_open → life_of (stored target) id ≡ []
    next_is_new live = so_far.above live id found.0

    module _ (next later : State) (read : IsTrue mid.is_open) (next_was : IsTrue next.is_open → IsTrue mid.is_open) (next_same : IsTrue next.is_open → stored next ≡ stored mid) (later_was : IsTrue later.is_open → IsTrue target.is_open)
        (written : IsTrue later.is_open → HasLifeToo (stored target) id (trimmed (life_of (stored mid) id)) (stored later)) where
      same_source : stored mid ≡ stored source
      same_source = mid_same read ∙ found_source

      copied_at : IsTrue later.is_open → (other : List ℕ) → UpTo other id → life_of (stored later) other ≡ trimmed (life_of (stored source) other)
      copied_at live other up = go (bytes_eq other id) refl
        where
          has : HasLifeToo (stored target) id (trimmed (life_of (stored mid) id)) (stored later)
          has = written live

          between : (b : Bool) → is_gt (by_bytes other after) ≡ b → bytes_eq other id ≡ false → life_of (stored later) other ≡ trimmed (life_of (stored source) other)
          between false low apart = has.others other apart ∙ so_far.copied (later_was live) source_open other low
          between true high apart =
              let above : IsBelow after other = not_up other after high in
              let none : life_of (stored now) other ≡ [] = found.2 other above (strictly other id up (apart_back id other apart)) in
              has.others other apart ∙ so_far.above (later_was live) other above
              ∙ sym (ap trimmed (ap (λ (lives : Lives). life_of lives other) (sym found_source) ∙ none))

          go : (b : Bool) → bytes_eq other id ≡ b → life_of (stored later) other ≡ trimmed (life_of (stored source) other)
          go true is =
              let same : other ≡ id = same_ids other id is in
              ap (life_of (stored later)) same ∙ has.here
              ∙ ap (λ (lives : Lives). trimmed (life_of lives id)) same_source ∙ sym (ap (λ (i : List ℕ). trimmed (life_of (stored source) i)) same)
          go false is = between (is_gt (by_bytes other after)) refl is

      pub next_copied : HasCopied source next first later id
      next_copied = record {
        same = λ live. next_same live ∙ same_source;
        source_was_open = λ live. source_open;
        was_open = λ live. so_far.was_open (later_was live);
        copied = λ live there other up. copied_at live other up;
        above = λ live other below.
            (written live).others other (not_itself id other below)
            ∙ so_far.above (later_was live) other (nat_list_cmp_total.trans after id other found.0 below);
      }

  -- where no other has orders, all were copied
  pub all_copied : EachLifeIsTrimmed → TrimmedLivesAreWhole → IsNextId (stored now) after None → (IsTrue source.is_open → IsLives (stored source)) → (IsTrue target.is_open → IsLives (stored target)) → IsTrue target.is_open → stored target ≡ trimmed_lives (stored source)
  all_copied each keep none whole target_whole live =
      same_lives (stored target) (trimmed_lives (stored source)) (target_whole live) (keep (stored source) (whole source_open))
      (λ id. of_id id (is_gt (by_bytes id after)) refl ∙ sym (trimmed_at id))
    where
      trimmed_at : (id : List ℕ) → life_of (trimmed_lives (stored source)) id ≡ trimmed (life_of (stored source) id)
      trimmed_at id = ap (λ (found : Option Life). unwrap_or found []) (each (stored source) id) ∙ go (get (stored source) id)
        where
          go : (found : Option Life) → unwrap_or (option_map trimmed found) [] ≡ trimmed (unwrap_or found [])
          go None = refl
          go (Some life) = refl

      of_id : (id : List ℕ) (b : Bool) → is_gt (by_bytes id after) ≡ b → life_of (stored target) id ≡ trimmed (life_of (stored source) id)
      of_id id false low = so_far.copied live source_open id low
      of_id id true high =
          let above : IsBelow after id = not_up id after high in
          so_far.above live id above
          ∙ sym (ap trimmed (ap (λ (lives : Lives). life_of lives id) (sym found_source) ∙ none id above))
