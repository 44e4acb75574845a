-- Bare lives with their contexts are the lives.
use Rattle.std.proofs.Common.{◌≡◌, ◌≢◌, ℕ, List, [], ◌∷◌, map, filter, slice_get, bytes_eq, Bool, true, false, cond, T, ◌&&◌, Option, None, Some, option_map, refl, sym, ap, subst, ◌∙◌}
use Rattle.std.specs.Prelude.{unwrap_or}
use Rattle.std.specs.Option.{option_map_or}
use Rattle.std.specs.Ordering.{is_lt, eq_by_cmp}
use Rattle.std.specs.Cmp.Lexicographic.{nat_list_cmp_total}
use Rattle.std.specs.FinMap.{get, get-entries, get-from_sorted, entries, entries_sorted, same_map, slice_cmp-IsAntisymmetric, nat_cmp-IsAntisymmetric}
use Rattle.std.specs.FinMap.Entries.{find as found_in, below_all, is_sorted}
use Rattle.sqlite_keyed.proofs.ListLemmas.{slice_get-filter}
use Rattle.osb_orders.specs.declared.order.Order.{Order}
use Rattle.osb_orders.specs.declared.view.Standing.{Standing}
use Rattle.osb_orders.specs.Lists.{last_of}
use Rattle.osb_orders.specs.Life.{Life, standing_of}
use Rattle.osb_orders.specs.Lives.{Lives, life_of}
use Rattle.osb_orders.specs.IsLife.{IsLives}
use Rattle.osb_standing.specs.Rows.{row_by, row_of}
use Rattle.osb_audit.proofs.LivesLemmas.{key_is}
use Rattle.osb_audit.proofs.RunLemmas.{same_text, by_bytes}
use Rattle.osb_bare.specs.Bare.{bare_order, bare_life, bare_lives, bare_standing, bare_row}
use Rattle.osb_bare.specs.Context.{standing_context}
use Rattle.osb_bare.proofs.LifeLemmas.{standing_of-bare, row_of-bare}
use Rattle.osb_bare.proofs.LivesLemmas.{get-bare}
use Rattle.osb_joined.specs.declared.entry.ContextEntry.{ContextEntry}
use Rattle.osb_joined.specs.Contexts.{context_entry, is_context, contexts_of}
use Rattle.osb_joined.specs.Joined.{context_at, joined_life, joined_instance, joined_lives, joined_standing, joined_row}
use Rattle.osb_joined.proofs.LivesLemmas.{context_of_standing_is}

-- the one entry of a key has its context
pub context_found : (contexts : List ContextEntry) (id : List ℕ) (number : ℕ) (context : List ℕ) → filter (is_context id number) contexts ≡ context_entry id number context ∷ [] → context_at contexts id number ≡ context
context_found contexts id number context one =
    ap (λ found. option_map_or (λ (entry : ContextEntry). entry.context) found [])
    (sym (slice_get-filter (is_context id number) contexts) ∙ ap (λ hits. slice_get hits 0) one)

-- ---- one instance

module _ (contexts : List ContextEntry) (id : List ℕ) where
  standing_back : (standing : Option Standing) → context_at contexts id 0 ≡ standing_context standing → option_map (joined_standing contexts id) (option_map bare_standing standing) ≡ standing
  standing_back None is = refl
  standing_back (Some standing) is = λ i. Some (record standing { attributes = record standing.attributes { context = is i } })

  row_back : (standing : Option Standing) (last : Option Order) → context_at contexts id 0 ≡ standing_context standing → option_map (joined_row contexts id) (option_map bare_row (option_map (row_by standing) last)) ≡ option_map (row_by standing) last
  row_back standing None is = refl
  row_back standing (Some order) is = λ i. Some (row_by (standing_back standing is i) order)

-- ---- all instances

module _ (contexts : List ContextEntry) where
  below-joined : (id : List ℕ) (es : List (List ℕ × Life)) → below_all by_bytes id (map (joined_instance contexts) es) ≡ below_all by_bytes id es
  below-joined id [] = refl
  below-joined id (e ∷ es) = ap (λ b. is_lt (by_bytes id e.0) && b) (below-joined id es)

  sorted-joined : (es : List (List ℕ × Life)) → is_sorted by_bytes (map (joined_instance contexts) es) ≡ is_sorted by_bytes es
  sorted-joined [] = refl
  sorted-joined (e ∷ es) = λ i. below-joined e.0 es i && sorted-joined es i

  found-joined : (id : List ℕ) (es : List (List ℕ × Life)) → found_in by_bytes id (map (joined_instance contexts) es) ≡ option_map (joined_life contexts id) (found_in by_bytes id es)
  found-joined id [] = refl
  found-joined id (e ∷ es) = go (eq_by_cmp by_bytes id e.0) (sym (key_is id e.0)) (found-joined id es)
    where
      go : (b : Bool) → bytes_eq e.0 id ≡ b → found_in by_bytes id (map (joined_instance contexts) es) ≡ option_map (joined_life contexts id) (found_in by_bytes id es)
          → cond b (Some (joined_life contexts e.0 e.1)) (found_in by_bytes id (map (joined_instance contexts) es)) ≡ option_map (joined_life contexts id) (cond b (Some e.1) (found_in by_bytes id es))
      go true is more = ap (λ (key : List ℕ). Some (joined_life contexts key e.1)) (same_text e.0 id is)
      go false is more = more

  pub get-joined : (lives : Lives) (id : List ℕ) → get (joined_lives contexts lives) id ≡ option_map (joined_life contexts id) (get lives id)
  get-joined lives id =
      get-from_sorted by_bytes (map (joined_instance contexts) (entries lives)) id (subst T (sym (sorted-joined (entries lives))) (entries_sorted lives))
      ∙ found-joined id (entries lives)
      ∙ ap (option_map (joined_life contexts id)) (sym (get-entries lives id))

  life_found : (id : List ℕ) (found : Option Life) → unwrap_or (option_map (joined_life contexts id) found) [] ≡ joined_life contexts id (unwrap_or found [])
  life_found id None = refl
  life_found id (Some life) = refl

  pub life_of-joined : (lives : Lives) (id : List ℕ) → life_of (joined_lives contexts lives) id ≡ joined_life contexts id (life_of lives id)
  life_of-joined lives id = ap (λ found. unwrap_or found []) (get-joined lives id) ∙ life_found id (get lives id)

  bare_life-joined : (id : List ℕ) (life : Life) → bare_life (joined_life contexts id life) ≡ bare_life life
  bare_life-joined id [] = refl
  bare_life-joined id (order ∷ later) = ap (λ (life : Life). bare_order order ∷ life) (bare_life-joined id later)

  bare_found : (id : List ℕ) (found : Option Life) → option_map bare_life (option_map (joined_life contexts id) found) ≡ option_map bare_life found
  bare_found id None = refl
  bare_found id (Some life) = ap Some (bare_life-joined id life)

  -- the contexts aside they are the same lives
  pub bare-joined : (lives : Lives) → bare_lives (joined_lives contexts lives) ≡ bare_lives lives
  bare-joined lives = same_map nat_list_cmp_total (slice_cmp-IsAntisymmetric nat_cmp-IsAntisymmetric) (bare_lives (joined_lives contexts lives)) (bare_lives lives) (λ id.
      get-bare (joined_lives contexts lives) id
      ∙ ap (option_map bare_life) (get-joined lives id)
      ∙ bare_found id (get lives id)
      ∙ sym (get-bare lives id))

-- where the instance stands, its context is found
module _ (lives : Lives) (id : List ℕ) (whole : IsLives lives) where
  standing_is : (life : Life) → life_of lives id ≡ life → life ≢ [] → context_at (contexts_of lives) id 0 ≡ standing_context (standing_of life)
  standing_is life is some =
      context_found (contexts_of lives) id 0 (standing_context (standing_of (life_of lives id))) (context_of_standing_is lives id whole (λ none. some (sym is ∙ none)))
      ∙ ap (λ (life : Life). standing_context (standing_of life)) is

  by_life : (life : Life) → life_of lives id ≡ life → option_map (joined_standing (contexts_of lives) id) (option_map bare_standing (standing_of life)) ≡ standing_of life
  by_life [] is = refl
  by_life (order ∷ later) is = standing_back (contexts_of lives) id (standing_of (order ∷ later)) (standing_is (order ∷ later) is (λ e. cc))

  row_by_life : (life : Life) → life_of lives id ≡ life → option_map (joined_row (contexts_of lives) id) (option_map bare_row (row_of life)) ≡ row_of life
  row_by_life [] is = refl
  row_by_life (order ∷ later) is = row_back (contexts_of lives) id (standing_of (order ∷ later)) (last_of (order ∷ later)) (standing_is (order ∷ later) is (λ e. cc))

  pub standing_joined : option_map (joined_standing (contexts_of lives) id) (standing_of (bare_life (life_of lives id))) ≡ standing_of (life_of lives id)
  standing_joined = ap (option_map (joined_standing (contexts_of lives) id)) (standing_of-bare (life_of lives id)) ∙ by_life (life_of lives id) refl

  pub row_joined : option_map (joined_row (contexts_of lives) id) (row_of (bare_life (life_of lives id))) ≡ row_of (life_of lives id)
  row_joined = ap (option_map (joined_row (contexts_of lives) id)) (row_of-bare (life_of lives id)) ∙ row_by_life (life_of lives id) refl
