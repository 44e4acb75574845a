-- The contexts of one instance, key by key.
use Rattle.std.proofs.Common.{◌≡◌, ◌≢◌, ℕ, ◌+◌, ◌<◌, ◌≤◌, ◌==◌, ◌&&◌, List, [], ◌∷◌, ◌++◌, length, map, filter, bytes_eq, Bool, true, false, Less, Greater, nat_cmp, refl, ap, subst, ◌∙◌, arith}
use Rattle.std.specs.List.{AllByRecursion}
use Rattle.std.specs.Ordering.{ordering_then}
use Rattle.std.specs.Cmp.{IsTotalOrder, tied_itself}
use Rattle.std.specs.Cmp.Lexicographic.{nat_list_cmp_total}
use Rattle.std.proofs.lemmas.Cmp.{nat_cmp_total, on_total, then_total}
use Rattle.std.proofs.lemmas.Bool.Decides.{nat_tests}
use Rattle.sqlite_keyed.proofs.ListLemmas.{all_weaker, all_both, all-map, filter_none}
use Rattle.osb_orders.specs.declared.order.Order.{Order}
use Rattle.osb_orders.specs.Life.{Life, standing_of}
use Rattle.osb_orders.specs.IsLife.{IsLifeAfter}
use Rattle.osb_audit.proofs.RunLemmas.{text_itself}
use Rattle.osb_joined.specs.declared.entry.ContextEntry.{ContextEntry}
use Rattle.osb_joined.specs.Contexts.{context_entry, context_cmp, AreRising, is_context, context_of_order, context_of_standing, contexts_of_instance}
use Rattle.osb_joined.proofs.ListLemmas.{filter_hit, filter_miss}

pub context_total : IsTotalOrder context_cmp
context_total = then_total (on_total (λ (entry : ContextEntry). entry.instance) nat_list_cmp_total) (on_total (λ (entry : ContextEntry). entry.number) nat_cmp_total)

-- the entry is of the instance
abbrev pub is_context_of : List ℕ → ContextEntry → Bool
is_context_of id entry = bytes_eq entry.instance id

-- ---- numbers

-- the numbers go on from this one
abbrev pub IsNumberedFrom : ℕ → Life → Type 0
IsNumberedFrom n [] = Unit {0}
IsNumberedFrom n (order ∷ later) = (order.number ≡ n + 1) × IsNumberedFrom (n + 1) later

pub length_one_more : (before : Life) (order : Order) → length (before ++ order ∷ []) ≡ length before + 1
length_one_more [] order = refl
length_one_more (first ∷ before) order = omega (arith, length_one_more before order)

pub numbered_after : (before life : Life) → IsLifeAfter before life → IsNumberedFrom (length before) life
numbered_after before [] h = tt
numbered_after before (order ∷ later) h = (h.0.number, subst (λ n. IsNumberedFrom n later) (length_one_more before order) (numbered_after (before ++ order ∷ []) later h.1))

pub numbered_push : (n : ℕ) (life : Life) (order : Order) → IsNumberedFrom n life → order.number ≡ n + length life + 1 → IsNumberedFrom n (life ++ order ∷ [])
numbered_push n [] order h is = (omega (arith, is), tt)
numbered_push n (first ∷ life) order h is = (h.0, numbered_push (n + 1) life order h.1 (omega (arith, is)))

pub numbers_above : (n : ℕ) (life : Life) → IsNumberedFrom n life → AllByRecursion (λ (order : Order). n < order.number) life
numbers_above n [] h = tt
numbers_above n (order ∷ later) h = (omega (arith, h.0), all_weaker (λ (order : Order). n + 1 < order.number) (λ (order : Order). n < order.number) (λ order above. omega (arith, above)) later (numbers_above (n + 1) later h.1))

pub numbers_up_to : (n : ℕ) (life : Life) → IsNumberedFrom n life → AllByRecursion (λ (order : Order). order.number ≤ n + length life) life
numbers_up_to n [] h = tt
numbers_up_to n (order ∷ later) h = (omega (arith, h.0), all_weaker (λ (order : Order). order.number ≤ n + 1 + length later) (λ (order : Order). order.number ≤ n + length (order ∷ later)) (λ order low. omega (arith, low)) later (numbers_up_to (n + 1) later h.1))

pub same_number : (m n : ℕ) → m ≡ n → (m == n) ≡ true
same_number m n h = grind (arith, nat_tests)

pub lower_number : (m n : ℕ) → m < n → (m == n) ≡ false
lower_number m n h = grind (arith, nat_tests)

pub higher_number : (m n : ℕ) → n < m → (m == n) ≡ false
higher_number m n h = grind (arith, nat_tests)

pub numbers_less : (m n : ℕ) → m < n → nat_cmp m n ≡ Less
numbers_less m n h = grind (arith, nat_tests)

pub numbers_greater : (m n : ℕ) → n < m → nat_cmp m n ≡ Greater
numbers_greater m n h = grind (arith, nat_tests)

-- ---- keys

module _ (id : List ℕ) where
  pub same_key : (entry : ContextEntry) (number : ℕ) → entry.instance ≡ id → entry.number ≡ number → is_context id number entry ≡ true
  same_key entry number of is = (λ i. bytes_eq (of i) id && (entry.number == number)) ∙ (λ i. text_itself id i && same_number entry.number number is i)

  pub other_key : (text : List ℕ) (m n : ℕ) → (m == n) ≡ false → (bytes_eq text id && (m == n)) ≡ false
  other_key text m n is = go (bytes_eq text id) (m == n) is
    where
      go : (a b : Bool) → b ≡ false → (a && b) ≡ false
      go true b is = is
      go false b is = refl

  pub by_number : (m n : ℕ) (a b : List ℕ) → context_cmp (context_entry id m a) (context_entry id n b) ≡ nat_cmp m n
  by_number m n a b = ap (λ o. ordering_then o (nat_cmp m n)) (tied_itself nat_list_cmp_total id)

  -- ---- the entries of orders

  abbrev pub of_orders : Life → List ContextEntry
  of_orders life = map (context_of_order id) life

  pub of_orders_all : (P : ContextEntry → Type 0) (life : Life) → AllByRecursion (λ (order : Order). P (context_of_order id order)) life → AllByRecursion P (of_orders life)
  of_orders_all P [] h = tt
  of_orders_all P (order ∷ later) h = (h.0, of_orders_all P later h.1)

  pub none_numbered : (number : ℕ) (life : Life) → AllByRecursion (λ (order : Order). (order.number == number) ≡ false) life → filter (is_context id number) (of_orders life) ≡ []
  none_numbered number life others = filter_none (is_context id number) (of_orders life)
      (of_orders_all (λ entry. is_context id number entry ≡ false) life (all_weaker (λ (order : Order). (order.number == number) ≡ false) (λ (order : Order). is_context id number (context_of_order id order) ≡ false) (λ order is. other_key id order.number number is) life others))

  -- that number 0 is no order's
  pub none_is_0 : (n : ℕ) (life : Life) → IsNumberedFrom n life → AllByRecursion (λ (order : Order). (order.number == 0) ≡ false) life
  none_is_0 n life h = all_weaker (λ (order : Order). n < order.number) (λ (order : Order). (order.number == 0) ≡ false) (λ order above. higher_number order.number 0 (omega (arith, above))) life (numbers_above n life h)

  abbrev Hits : Life → Order → Type 0
  Hits life order = filter (is_context id order.number) (of_orders life) ≡ context_of_order id order ∷ []

  hit_first : (n : ℕ) (order : Order) (later : Life) → IsNumberedFrom n (order ∷ later) → Hits (order ∷ later) order
  hit_first n order later h =
      filter_hit (is_context id order.number) (context_of_order id order) (of_orders later) (same_key (context_of_order id order) order.number refl refl)
      ∙ ap (λ entries. context_of_order id order ∷ entries)
      (none_numbered order.number later (all_weaker (λ (other : Order). n + 1 < other.number) (λ (other : Order). (other.number == order.number) ≡ false) (λ other above. higher_number other.number order.number (omega (arith, above, h.0))) later (numbers_above (n + 1) later h.1)))

  pub hits : (n : ℕ) (life : Life) → IsNumberedFrom n life → AllByRecursion (Hits life) life
  hits n [] h = tt
  hits n (first ∷ later) h = (
    hit_first n first later h,
    all_both (λ (order : Order). n + 1 < order.number) (Hits later) (Hits (first ∷ later))
        (λ order above hit. filter_miss (is_context id order.number) (context_of_order id first) (of_orders later) (other_key id first.number order.number (lower_number first.number order.number (omega (arith, above, h.0)))) ∙ hit)
        later (numbers_above (n + 1) later h.1) (hits (n + 1) later h.1),
  )

  of_orders_rise : (n : ℕ) (life : Life) → IsNumberedFrom n life → AreRising (of_orders life)
  of_orders_rise n [] h = tt
  of_orders_rise n (first ∷ later) h = (
    of_orders_all (λ entry. context_cmp (context_of_order id first) entry ≡ Less) later
        (all_weaker (λ (order : Order). n + 1 < order.number) (λ (order : Order). context_cmp (context_of_order id first) (context_of_order id order) ≡ Less)
        (λ order above. by_number first.number order.number first.attributes.context order.attributes.context ∙ numbers_less first.number order.number (omega (arith, above, h.0))) later (numbers_above (n + 1) later h.1)),
    of_orders_rise (n + 1) later h.1,
  )

  -- ---- with that of what stands

  abbrev pub with_standing : Life → List ContextEntry
  with_standing life = context_of_standing id (standing_of life) ∷ of_orders life

  pub shown : (life : Life) → life ≢ [] → contexts_of_instance id life ≡ with_standing life
  shown [] some = absurd (some refl)
  shown (order ∷ later) some = refl

  pub shown-push : (life : Life) (order : Order) → contexts_of_instance id (life ++ order ∷ []) ≡ with_standing (life ++ order ∷ [])
  shown-push [] order = refl
  shown-push (first ∷ life) order = refl

  pub all_of_it : (life : Life) → AllByRecursion (λ (entry : ContextEntry). entry.instance ≡ id) (contexts_of_instance id life)
  all_of_it [] = tt
  all_of_it (order ∷ later) = (refl, all-map (λ (entry : ContextEntry). entry.instance ≡ id) (context_of_order id) (λ _. refl) (order ∷ later))

  -- each order
  pub instance_hits : (life : Life) → IsNumberedFrom 0 life → AllByRecursion (λ (order : Order). filter (is_context id order.number) (contexts_of_instance id life) ≡ context_of_order id order ∷ []) life
  instance_hits [] h = tt
  instance_hits (first ∷ later) h =
      let life : Life = first ∷ later in
      all_both (λ (order : Order). 0 < order.number) (Hits life) (λ (order : Order). filter (is_context id order.number) (contexts_of_instance id life) ≡ context_of_order id order ∷ [])
      (λ order above hit. filter_miss (is_context id order.number) (context_of_standing id (standing_of life)) (of_orders life) (other_key id 0 order.number (lower_number 0 order.number above)) ∙ hit)
      life (numbers_above 0 life h) (hits 0 life h)

  -- what stands
  pub standing_hits : (life : Life) → life ≢ [] → IsNumberedFrom 0 life → filter (is_context id 0) (contexts_of_instance id life) ≡ context_of_standing id (standing_of life) ∷ []
  standing_hits [] some h = absurd (some refl)
  standing_hits (first ∷ later) some h =
      let life : Life = first ∷ later in
      filter_hit (is_context id 0) (context_of_standing id (standing_of life)) (of_orders life) (same_key (context_of_standing id (standing_of life)) 0 refl refl)
      ∙ ap (λ entries. context_of_standing id (standing_of life) ∷ entries) (none_numbered 0 life (none_is_0 0 life h))

  -- nothing above
  pub none_above : (life : Life) (number : ℕ) → IsNumberedFrom 0 life → length life < number → filter (is_context id number) (contexts_of_instance id life) ≡ []
  none_above [] number h above = refl
  none_above (first ∷ later) number h above =
      let life : Life = first ∷ later in
      filter_miss (is_context id number) (context_of_standing id (standing_of life)) (of_orders life) (other_key id 0 number (lower_number 0 number (omega (arith, above))))
      ∙ none_numbered number life (all_weaker (λ (order : Order). order.number ≤ 0 + length life) (λ (order : Order). (order.number == number) ≡ false) (λ order low. lower_number order.number number (omega (arith, low, above))) life (numbers_up_to 0 life h))

  pub instance_rises : (life : Life) → IsNumberedFrom 0 life → AreRising (contexts_of_instance id life)
  instance_rises [] h = tt
  instance_rises (first ∷ later) h =
      let life : Life = first ∷ later in (
        of_orders_all (λ entry. context_cmp (context_of_standing id (standing_of life)) entry ≡ Less) life
            (all_weaker (λ (order : Order). 0 < order.number) (λ (order : Order). context_cmp (context_of_standing id (standing_of life)) (context_of_order id order) ≡ Less)
            (λ order above. ap (λ o. ordering_then o (nat_cmp 0 order.number)) (tied_itself nat_list_cmp_total id) ∙ numbers_less 0 order.number above) life (numbers_above 0 life h)),
        of_orders_rise 0 life h,
      )
