-- What lives have, counted off their rows.
use Rattle.std.proofs.Common.{◌≡◌, ℕ, ◌+◌, Bool, true, false, cond, not, ◌&&◌, T, List, [], ◌∷◌, ◌++◌, length, map, filter, bytes_eq, is_eq, is_lt, Some, None, Ordering, Less, Equal, Greater, refl, sym, ◌∙◌, ap, ap₂, subst, arith, suc}
use Rattle.std.specs.Prelude.{unwrap_or, is_some}
use Rattle.std.specs.List.{flat_map}
use Rattle.std.specs.Option.{option_to_list}
use Rattle.std.specs.Cmp.Lexicographic.{nat_list_eq_equiv}
use Rattle.std.specs.FinMap.{find, is_sorted, entries, entries_sorted, get-entries}
use Rattle.std.specs.FinMap.Entries.{below_all}
use Rattle.std.proofs.lemmas.List.{length-append, length-map}
use Rattle.std.proofs.lemmas.List.Elements.{filter-append}
use Rattle.osb_orders.specs.declared.order.OrderState.TheVariants.{Running}
use Rattle.osb_orders.specs.Lists.{last_from}
use Rattle.osb_orders.specs.Orders.{is_now}
use Rattle.osb_orders.specs.Life.{Life, standing_of}
use Rattle.osb_orders.specs.Lives.{Lives, life_of}
use Rattle.osb_standing.specs.declared.row.InstanceRow.{InstanceRow}
use Rattle.osb_standing.specs.Rows.{row_by, row_of, bindings_of}
use Rattle.osb_audit.specs.declared.entry.BindingEntry.{BindingEntry}
use Rattle.osb_audit.specs.Instances.{InstanceEntry, is_instance, InstancesStand}
use Rattle.osb_audit.specs.Bindings.{binding_entry, is_bound, AllBindingsStand}
use Rattle.osb_audit.specs.Counts.{is_there, is_busy, bindings_in}
use Rattle.osb_audit.proofs.RunLemmas.{by_bytes, same_text}
use Rattle.osb_audit.proofs.LivesLemmas.{key_is, no_bindings}

abbrev Lived : Type 0
Lived = List ℕ × Life

-- the life at an id among those of instances
abbrev life_at : List ℕ → List Lived → Life
life_at id es = unwrap_or (find by_bytes id es) []

pub left : (a b : Bool) → T (a && b) → T a
left true b p = tt
left false b p = p

pub right : (a b : Bool) → T (a && b) → T b
right true b p = p
right false b p = absurd p

pub less : (o : Ordering) → T (is_lt o) → o ≡ Less
less Less p = refl
less Equal p = absurd p
less Greater p = absurd p

-- an id below all others isn't among them
missing : (id : List ℕ) (es : List Lived) → T (below_all by_bytes id es) → find by_bytes id es ≡ None
missing id [] h = refl
missing id (e ∷ es) h = ap (λ o. cond (is_eq o) (Some e.1) (find by_bytes id es)) (less _ (left _ _ h)) ∙ missing id es (right _ _ h)

-- the life of the first, or of one of the others
life_first : (id : List ℕ) (e : Lived) (es : List Lived) → bytes_eq e.0 id ≡ true → life_at id (e ∷ es) ≡ e.1
life_first id e es is = ap (λ b. unwrap_or (cond b (Some e.1) (find by_bytes id es)) []) (key_is id e.0 ∙ is)

life_later : (id : List ℕ) (e : Lived) (es : List Lived) → bytes_eq e.0 id ≡ false → life_at id (e ∷ es) ≡ life_at id es
life_later id e es other = ap (λ b. unwrap_or (cond b (Some e.1) (find by_bytes id es)) []) (key_is id e.0 ∙ other)

-- ---- rows, of which those of each instance are a list of their own

module _ {X : Type 0} (key : X → List ℕ) (shown : List ℕ → Life → List X) (none : (id : List ℕ) → shown id [] ≡ []) (test : X → Bool) where
  abbrev of : List ℕ → X → Bool
  of id x = bytes_eq (key x) id

  abbrev others : List ℕ → List X → List X
  others id xs = filter (λ x. not (of id x)) xs

  abbrev AreShown : List X → List Lived → Type 0
  AreShown xs es = (id : List ℕ) → filter (of id) xs ≡ shown id (life_at id es)

  abbrev passing : List X → ℕ
  passing xs = length (filter test xs)

  -- one more where the first passes
  first : (x : X) (xs : List X) → passing (x ∷ xs) ≡ cond (test x) 1 0 + passing xs
  first x xs = go (test x)
    where
      go : (b : Bool) → length (cond b (x ∷ filter test xs) (filter test xs)) ≡ cond b 1 0 + passing xs
      go true = omega arith
      go false = omega arith

  -- the rows of an instance and the others are all of them
  parted : (id : List ℕ) (xs : List X) → passing xs ≡ passing (filter (of id) xs) + passing (others id xs)
  parted id [] = refl
  parted id (x ∷ xs) = go (of id x) (parted id xs)
    where
      go : (mine : Bool) → passing xs ≡ passing (filter (of id) xs) + passing (others id xs)
          → passing (x ∷ xs) ≡ passing (cond mine (x ∷ filter (of id) xs) (filter (of id) xs)) + passing (cond (not mine) (x ∷ others id xs) (others id xs))
      go true e = omega (arith, first x xs, first x (filter (of id) xs), e)
      go false e = omega (arith, first x xs, first x (others id xs), e)

  -- the others have none of the instance, and all of each other one
  none_left : (id : List ℕ) (xs : List X) → filter (of id) (others id xs) ≡ []
  none_left id [] = refl
  none_left id (x ∷ xs) = go (of id x) refl (none_left id xs)
    where
      go : (mine : Bool) → of id x ≡ mine → filter (of id) (others id xs) ≡ [] → filter (of id) (cond (not mine) (x ∷ others id xs) (others id xs)) ≡ []
      go true is e = e
      go false is e = ap (λ b. cond b (x ∷ filter (of id) (others id xs)) (filter (of id) (others id xs))) is ∙ e

  all_left : (id q : List ℕ) → bytes_eq id q ≡ false → (xs : List X) → filter (of q) (others id xs) ≡ filter (of q) xs
  all_left id q apart [] = refl
  all_left id q apart (x ∷ xs) = go (of id x) refl (all_left id q apart xs)
    where
      go : (mine : Bool) → of id x ≡ mine → filter (of q) (others id xs) ≡ filter (of q) xs
          → filter (of q) (cond (not mine) (x ∷ others id xs) (others id xs)) ≡ cond (of q x) (x ∷ filter (of q) xs) (filter (of q) xs)
      go true is e =
          let other : of q x ≡ false = ap (λ (at : List ℕ). bytes_eq at q) (same_text (key x) id is) ∙ apart in
          e ∙ sym (ap (λ b. cond b (x ∷ filter (of q) xs) (filter (of q) xs)) other)
      go false is e = ap (λ (ys : List X). cond (of q x) (x ∷ ys) ys) e

  no_rows : (xs : List X) → AreShown xs [] → xs ≡ []
  no_rows [] h = refl
  no_rows (x ∷ xs) h =
      let some : filter (of (key x)) (x ∷ xs) ≡ x ∷ filter (of (key x)) xs = ap (λ b. cond b (x ∷ filter (of (key x)) xs) (filter (of (key x)) xs)) (nat_list_eq_equiv.refl (key x)) in
      absurd (not_some x (filter (of (key x)) xs) (sym some ∙ h (key x) ∙ none (key x)))
    where
      not_some : (x : X) (xs : List X) → x ∷ xs ≡ [] → ⊥
      not_some x xs e = cc

  left_shown : (e : Lived) (es : List Lived) (xs : List X) → T (below_all by_bytes e.0 es) → AreShown xs (e ∷ es) → AreShown (others e.0 xs) es
  left_shown e es xs below h q = go (bytes_eq e.0 q) refl
    where
      go : (b : Bool) → bytes_eq e.0 q ≡ b → filter (of q) (others e.0 xs) ≡ shown q (life_at q es)
      go true is =
          let same : e.0 ≡ q = same_text e.0 q is in
          subst (λ (at : List ℕ). filter (of at) (others e.0 xs) ≡ shown at (life_at at es)) same
          (none_left e.0 xs ∙ sym (none e.0) ∙ ap (λ found. shown e.0 (unwrap_or found [])) (sym (missing e.0 es below)))
      go false is = all_left e.0 q is xs ∙ h q ∙ ap (shown q) (life_later q e es is)

  pub total : (es : List Lived) → T (is_sorted by_bytes es) → (xs : List X) → AreShown xs es → passing xs ≡ passing (flat_map (λ (e : Lived). shown e.0 e.1) es)
  total [] s xs h = ap passing (no_rows xs h)
  total (e ∷ es) s xs h =
      let here : filter (of e.0) xs ≡ shown e.0 e.1 = h e.0 ∙ ap (shown e.0) (life_first e.0 e es (nat_list_eq_equiv.refl e.0)) in
      let later = total es (right _ _ s) (others e.0 xs) (left_shown e es xs (left _ _ s) h) in
      let both : passing (shown e.0 e.1 ++ flat_map (λ (e : Lived). shown e.0 e.1) es) ≡ passing (shown e.0 e.1) + passing (flat_map (λ (e : Lived). shown e.0 e.1) es) =
      ap length (filter-append test (shown e.0 e.1) _) ∙ length-append (filter test (shown e.0 e.1)) _ in
      omega (arith, parted e.0 xs, ap passing here, later, both)

-- ---- instances

abbrev instance_shown : List ℕ → Life → List InstanceEntry
instance_shown id life = map (λ (row : InstanceRow). (id, row)) (option_to_list (row_of life))

no_instance : (id : List ℕ) → instance_shown id [] ≡ []
no_instance id = refl

abbrev stands : InstanceEntry → Bool
stands entry = is_some entry.1.standing

abbrev runs : InstanceEntry → Bool
runs entry = entry.1.busy

abbrev all_rows : List Lived → List InstanceEntry
all_rows es = flat_map (λ (e : Lived). instance_shown e.0 e.1) es

one_more : {A B : Type 0} (b : Bool) (x : A) (xs : List A) (y : B) (ys : List B) → length xs ≡ length ys → length (cond b (x ∷ xs) xs) ≡ length (cond b (y ∷ ys) ys)
one_more true x xs y ys e = ap (λ n. suc n) e
one_more false x xs y ys e = e

all_there : (es : List Lived) → length (filter stands (all_rows es)) ≡ length (filter is_there es)
all_there [] = refl
all_there ((id, []) ∷ es) = all_there es
all_there ((id, order ∷ life) ∷ es) =
    one_more (is_some (standing_of (order ∷ life))) (id, row_by (standing_of (order ∷ life)) (last_from order life)) (filter stands (all_rows es)) (id, order ∷ life) (filter is_there es) (all_there es)

all_busy : (es : List Lived) → length (filter runs (all_rows es)) ≡ length (filter is_busy es)
all_busy [] = refl
all_busy ((id, []) ∷ es) = all_busy es
all_busy ((id, order ∷ life) ∷ es) =
    one_more (is_now Running (last_from order life)) (id, row_by (standing_of (order ∷ life)) (last_from order life)) (filter runs (all_rows es)) (id, order ∷ life) (filter is_busy es) (all_busy es)

-- ---- bindings

abbrev binding_shown : List ℕ → Life → List BindingEntry
binding_shown id life = map (binding_entry id) (entries (bindings_of life))

no_binding : (id : List ℕ) → binding_shown id [] ≡ []
no_binding id = ap (map (binding_entry id)) no_bindings

abbrev any : {A : Type 0} → A → Bool
any x = true

all_pass : {A : Type 0} (xs : List A) → filter any xs ≡ xs
all_pass [] = refl
all_pass (x ∷ xs) = ap (λ (ys : List _). x ∷ ys) (all_pass xs)

all_bound : (es : List Lived) → length (flat_map (λ (e : Lived). binding_shown e.0 e.1) es) ≡ length (flat_map bindings_in es)
all_bound [] = refl
all_bound (e ∷ es) =
    length-append (binding_shown e.0 e.1) _
    ∙ ap₂ (λ n m. n + m) (length-map (bindings_in e) (binding_entry e.0)) (all_bound es)
    ∙ sym (length-append (bindings_in e) _)

-- ---- both

module _ (lives : Lives) where
  at_all : (id : List ℕ) → life_of lives id ≡ life_at id (entries lives)
  at_all id = ap (λ found. unwrap_or found []) (get-entries lives id)

  rows_shown : (instances : List InstanceEntry) → InstancesStand lives instances → (id : List ℕ) → filter (is_instance id) instances ≡ instance_shown id (life_at id (entries lives))
  rows_shown instances stand id = stand id ∙ ap (instance_shown id) (at_all id)

  bound_shown : (bindings : List BindingEntry) → AllBindingsStand lives bindings → (id : List ℕ) → filter (is_bound id) bindings ≡ binding_shown id (life_at id (entries lives))
  bound_shown bindings stand id = stand id ∙ ap (binding_shown id) (at_all id)

  pub counted_there : (instances : List InstanceEntry) → InstancesStand lives instances → length (filter stands instances) ≡ length (filter is_there (entries lives))
  counted_there instances stand =
      total (λ (entry : InstanceEntry). entry.0) instance_shown no_instance stands (entries lives) (entries_sorted lives) instances (rows_shown instances stand)
      ∙ all_there (entries lives)

  pub counted_busy : (instances : List InstanceEntry) → InstancesStand lives instances → length (filter runs instances) ≡ length (filter is_busy (entries lives))
  counted_busy instances stand =
      total (λ (entry : InstanceEntry). entry.0) instance_shown no_instance runs (entries lives) (entries_sorted lives) instances (rows_shown instances stand)
      ∙ all_busy (entries lives)

  pub counted_bound : (bindings : List BindingEntry) → AllBindingsStand lives bindings → length bindings ≡ length (flat_map bindings_in (entries lives))
  counted_bound bindings stand =
      sym (ap length (all_pass bindings))
      ∙ total (λ (entry : BindingEntry). entry.instance) binding_shown no_binding any (entries lives) (entries_sorted lives) bindings (bound_shown bindings stand)
      ∙ ap length (all_pass (flat_map (λ (e : Lived). binding_shown e.0 e.1) (entries lives)))
      ∙ all_bound (entries lives)
