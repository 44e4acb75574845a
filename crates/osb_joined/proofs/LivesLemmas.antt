-- The contexts of all instances, id by id.
use Rattle.std.proofs.Common.{append-nil, ◌≡◌, ◌≢◌, ℕ, ◌<◌, ◌==◌, List, [], ◌∷◌, ◌++◌, length, filter, bytes_eq, Bool, true, false, cond, ◌&&◌, T, Ordering, Less, Equal, Greater, is_lt, nat_cmp, Option, None, Some, refl, sym, ap, subst, ◌∙◌}
use Rattle.std.specs.Prelude.{unwrap_or, IfSome}
use Rattle.std.specs.List.{AllByRecursion, flat_map}
use Rattle.std.specs.Ordering.{ordering_then}
use Rattle.std.specs.FinMap.{get, entries, entries_sorted, get-entries}
use Rattle.std.specs.FinMap.Entries.{find, below_all, is_sorted}
use Rattle.std.proofs.lemmas.Bool.{and_parts}
use Rattle.std.proofs.lemmas.List.Elements.{filter-append}
use Rattle.sqlite_keyed.proofs.ListLemmas.{all_weaker, all-flat_map, ascending-append, filter_all, filter_none, filter-filter}
use Rattle.osb_orders.specs.declared.order.Order.{Order}
use Rattle.osb_orders.specs.Life.{Life, standing_of}
use Rattle.osb_orders.specs.Lives.{Lives, life_of}
use Rattle.osb_orders.specs.IsLife.{IsInstance, IsLives}
use Rattle.osb_audit.proofs.LivesLemmas.{key_is}
use Rattle.osb_audit.proofs.RunLemmas.{same_text, text_itself, by_bytes, not_itself}
use Rattle.osb_joined.specs.declared.entry.ContextEntry.{ContextEntry}
use Rattle.osb_joined.specs.Contexts.{context_cmp, AreRising, is_context, context_of_order, context_of_standing, contexts_of_instance, contexts_of}
use Rattle.osb_joined.proofs.InstanceLemmas.{is_context_of, IsNumberedFrom, numbered_after, all_of_it, instance_hits, standing_hits, none_above, instance_rises}

-- an instance's id with its life
abbrev Instance : Type 0
Instance = List ℕ × Life

abbrev its_contexts : Instance → List ContextEntry
its_contexts instance = contexts_of_instance instance.0 instance.1

-- ---- ids in order

abbrev AllAfter : List ℕ → List Instance → Type 0
AllAfter id es = AllByRecursion (λ (e : Instance). by_bytes id e.0 ≡ Less) es

first_true : (a b : Bool) → T (a && b) → T a
first_true true b h = tt
first_true false b h = h

second_true : (a b : Bool) → T (a && b) → T b
second_true true b h = h
second_true false b h = absurd h

less : (o : Ordering) → T (is_lt o) → o ≡ Less
less Less h = refl
less Equal h = absurd h
less Greater h = absurd h

after : (id : List ℕ) (es : List Instance) → T (below_all by_bytes id es) → AllAfter id es
after id [] h = tt
after id (e ∷ es) h = (less (by_bytes id e.0) (first_true (is_lt (by_bytes id e.0)) (below_all by_bytes id es) h), after id es (second_true (is_lt (by_bytes id e.0)) (below_all by_bytes id es) h))

first_after : (e : Instance) (es : List Instance) → T (is_sorted by_bytes (e ∷ es)) → AllAfter e.0 es
first_after e es h = after e.0 es (first_true (below_all by_bytes e.0 es) (is_sorted by_bytes es) h)

rest_sorted : (e : Instance) (es : List Instance) → T (is_sorted by_bytes (e ∷ es)) → T (is_sorted by_bytes es)
rest_sorted e es h = second_true (below_all by_bytes e.0 es) (is_sorted by_bytes es) h

not_found : (id : List ℕ) (es : List Instance) → AllAfter id es → find by_bytes id es ≡ None
not_found id [] h = refl
not_found id (e ∷ es) h = ap (λ b. cond b (Some e.1) (find by_bytes id es)) (key_is id e.0 ∙ not_itself id e.0 h.0) ∙ not_found id es h.1

-- what holds of each life that is found holds of each entry
module _ (P : List ℕ → Life → Type 0) where
  pub each_entry : (es : List Instance) → T (is_sorted by_bytes es) → ((id : List ℕ) → IfSome (find by_bytes id es) (P id)) → AllByRecursion (λ (e : Instance). P e.0 e.1) es
  each_entry [] sorted h = tt
  each_entry (e ∷ es) sorted h = (here, each_entry es (rest_sorted e es sorted) (λ id. go id (bytes_eq e.0 id) refl))
    where
      here : P e.0 e.1
      here = subst (λ (b : Bool). IfSome (cond b (Some e.1) (find by_bytes e.0 es)) (P e.0)) (key_is e.0 e.0 ∙ text_itself e.0) (h e.0)

      go : (id : List ℕ) (b : Bool) → bytes_eq e.0 id ≡ b → IfSome (find by_bytes id es) (P id)
      go id true is = subst (λ (found : Option Life). IfSome found (P id)) (sym (not_found id es (subst (λ (key : List ℕ). AllAfter key es) (same_text e.0 id is) (first_after e es sorted)))) tt
      go id false is = subst (λ (b : Bool). IfSome (cond b (Some e.1) (find by_bytes id es)) (P id)) (key_is id e.0 ∙ is) (h id)

-- ---- the entries of one instance

others_none : (id key : List ℕ) (life : Life) → bytes_eq key id ≡ false → filter (is_context_of id) (contexts_of_instance key life) ≡ []
others_none id key life other = filter_none (is_context_of id) (contexts_of_instance key life)
    (all_weaker (λ (entry : ContextEntry). entry.instance ≡ key) (λ (entry : ContextEntry). is_context_of id entry ≡ false) (λ entry of. ap (λ (text : List ℕ). bytes_eq text id) of ∙ other) (contexts_of_instance key life) (all_of_it key life))

all_its_own : (id : List ℕ) (life : Life) → filter (is_context_of id) (contexts_of_instance id life) ≡ contexts_of_instance id life
all_its_own id life = filter_all (is_context_of id) (contexts_of_instance id life)
    (all_weaker (λ (entry : ContextEntry). entry.instance ≡ id) (λ (entry : ContextEntry). is_context_of id entry ≡ true) (λ entry of. ap (λ (text : List ℕ). bytes_eq text id) of ∙ text_itself id) (contexts_of_instance id life) (all_of_it id life))

none_later : (id : List ℕ) (es : List Instance) → AllAfter id es → filter (is_context_of id) (flat_map its_contexts es) ≡ []
none_later id [] h = refl
none_later id (e ∷ es) h =
    filter-append (is_context_of id) (its_contexts e) (flat_map its_contexts es)
    ∙ (λ i. others_none id e.0 e.1 (not_itself id e.0 h.0) i ++ none_later id es h.1 i)

at_id : (id : List ℕ) (es : List Instance) → T (is_sorted by_bytes es) → filter (is_context_of id) (flat_map its_contexts es) ≡ contexts_of_instance id (unwrap_or (find by_bytes id es) [])
at_id id [] sorted = refl
at_id id (e ∷ es) sorted = filter-append (is_context_of id) (its_contexts e) (flat_map its_contexts es) ∙ go (bytes_eq e.0 id) refl (at_id id es (rest_sorted e es sorted))
    ∙ sym (ap (λ b. contexts_of_instance id (unwrap_or (cond b (Some e.1) (find by_bytes id es)) [])) (key_is id e.0))
  where
    own : bytes_eq e.0 id ≡ true → filter (is_context_of id) (its_contexts e) ≡ contexts_of_instance id e.1
    own is = ap (λ (key : List ℕ). filter (is_context_of id) (contexts_of_instance key e.1)) (same_text e.0 id is) ∙ all_its_own id e.1

    later : bytes_eq e.0 id ≡ true → filter (is_context_of id) (flat_map its_contexts es) ≡ []
    later is = none_later id es (subst (λ (key : List ℕ). AllAfter key es) (same_text e.0 id is) (first_after e es sorted))

    go : (b : Bool) → bytes_eq e.0 id ≡ b → filter (is_context_of id) (flat_map its_contexts es) ≡ contexts_of_instance id (unwrap_or (find by_bytes id es) [])
        → filter (is_context_of id) (its_contexts e) ++ filter (is_context_of id) (flat_map its_contexts es) ≡ contexts_of_instance id (unwrap_or (cond b (Some e.1) (find by_bytes id es)) [])
    go true is more = (λ i. own is i ++ later is i) ∙ append-nil (contexts_of_instance id e.1)
    go false is more = ap (λ entries. entries ++ filter (is_context_of id) (flat_map its_contexts es)) (others_none id e.0 e.1 is) ∙ more

-- those of the instance
pub of_instance : (lives : Lives) (id : List ℕ) → filter (is_context_of id) (contexts_of lives) ≡ contexts_of_instance id (life_of lives id)
of_instance lives id = at_id id (entries lives) (entries_sorted lives) ∙ ap (λ found. contexts_of_instance id (unwrap_or found [])) (sym (get-entries lives id))

pub of_key : (lives : Lives) (id : List ℕ) (number : ℕ) → filter (is_context id number) (contexts_of lives) ≡ filter (is_context id number) (contexts_of_instance id (life_of lives id))
of_key lives id number =
    sym (filter-filter (is_context id number) (is_context_of id) (λ entry hit. (and_parts (is_context_of id entry) (entry.number == number) hit).0) (contexts_of lives))
    ∙ ap (filter (is_context id number)) (of_instance lives id)

-- ---- numbers

abbrev pub AreNumbered : Lives → Type 0
AreNumbered lives = (id : List ℕ) → IsNumberedFrom 0 (life_of lives id)

pub numbered : (lives : Lives) → IsLives lives → AreNumbered lives
numbered lives whole = λ id. go id (get lives id) (whole id)
  where
    go : (id : List ℕ) (found : Option Life) → IfSome found (IsInstance id) → IsNumberedFrom 0 (unwrap_or found [])
    go id None h = tt
    go id (Some life) h = numbered_after [] life h.life.orders

-- ---- the laws of keys

across : (e : Instance) (es : List Instance) → AllAfter e.0 es → AllByRecursion (λ (a : ContextEntry). AllByRecursion (λ b. context_cmp a b ≡ Less) (flat_map its_contexts es)) (its_contexts e)
across e es later =
    all_weaker (λ (a : ContextEntry). a.instance ≡ e.0) (λ (a : ContextEntry). AllByRecursion (λ b. context_cmp a b ≡ Less) (flat_map its_contexts es))
    (λ a of. all-flat_map (λ b. context_cmp a b ≡ Less) its_contexts es
    (all_weaker (λ (f : Instance). by_bytes e.0 f.0 ≡ Less) (λ (f : Instance). AllByRecursion (λ b. context_cmp a b ≡ Less) (its_contexts f))
    (λ f below. all_weaker (λ (b : ContextEntry). b.instance ≡ f.0) (λ b. context_cmp a b ≡ Less)
    (λ b of_f. (λ i. ordering_then (by_bytes (of i) (of_f i)) (nat_cmp a.number b.number)) ∙ ap (λ o. ordering_then o (nat_cmp a.number b.number)) below)
    (its_contexts f) (all_of_it f.0 f.1)) es later)) (its_contexts e) (all_of_it e.0 e.1)

rise : (es : List Instance) → T (is_sorted by_bytes es) → AllByRecursion (λ (e : Instance). IsNumberedFrom 0 e.1) es → AreRising (flat_map its_contexts es)
rise [] sorted h = tt
rise (e ∷ es) sorted h = ascending-append (λ a b. context_cmp a b ≡ Less) (its_contexts e) (flat_map its_contexts es) (instance_rises e.0 e.1 h.0) (rise es (rest_sorted e es sorted) h.1) (across e es (first_after e es sorted))

pub contexts_rise : (lives : Lives) → AreNumbered lives → AreRising (contexts_of lives)
contexts_rise lives h = rise (entries lives) (entries_sorted lives) (each_entry (λ _. IsNumberedFrom 0) (entries lives) (entries_sorted lives) (λ id. go id (find by_bytes id (entries lives)) (get-entries lives id)))
  where
    go : (id : List ℕ) (found : Option Life) → get lives id ≡ found → IfSome found (IsNumberedFrom 0)
    go id None is = tt
    go id (Some life) is = subst (λ (found : Option Life). IsNumberedFrom 0 (unwrap_or found [])) is (h id)

pub context_of_order_is : (lives : Lives) (id : List ℕ) → IsLives lives → AllByRecursion (λ (order : Order). filter (is_context id order.number) (contexts_of lives) ≡ context_of_order id order ∷ []) (life_of lives id)
context_of_order_is lives id whole =
    all_weaker (λ (order : Order). filter (is_context id order.number) (contexts_of_instance id (life_of lives id)) ≡ context_of_order id order ∷ []) (λ (order : Order). filter (is_context id order.number) (contexts_of lives) ≡ context_of_order id order ∷ [])
    (λ order hit. of_key lives id order.number ∙ hit) (life_of lives id) (instance_hits id (life_of lives id) (numbered lives whole id))

pub context_of_standing_is : (lives : Lives) (id : List ℕ) → IsLives lives → life_of lives id ≢ [] → filter (is_context id 0) (contexts_of lives) ≡ context_of_standing id (standing_of (life_of lives id)) ∷ []
context_of_standing_is lives id whole some = of_key lives id 0 ∙ standing_hits id (life_of lives id) some (numbered lives whole id)

pub no_life : (lives : Lives) (id : List ℕ) (number : ℕ) → life_of lives id ≡ [] → filter (is_context id number) (contexts_of lives) ≡ []
no_life lives id number none = of_key lives id number ∙ ap (λ (life : Life). filter (is_context id number) (contexts_of_instance id life)) none

pub no_later_number : (lives : Lives) (id : List ℕ) (number : ℕ) → IsLives lives → length (life_of lives id) < number → filter (is_context id number) (contexts_of lives) ≡ []
no_later_number lives id number whole above = of_key lives id number ∙ none_above id (life_of lives id) number (numbered lives whole id) above
