-- What is read order by order off bare lives, with its contexts, is what is read off the lives.
use Rattle.std.proofs.Common.{◌≡◌, ℕ, ◌==◌, List, [], ◌∷◌, map, filter, take, bytes_eq, Option, None, Some, option_map, refl, sym, ap, subst, ◌∙◌}
use Rattle.std.specs.Prelude.{filter_map, unwrap_or, IfSome}
use Rattle.std.specs.List.{AllByRecursion}
use Rattle.std.specs.Cmp.Lexicographic.{nat_list_cmp_total}
use Rattle.std.specs.FinMap.{get, entries, entries_sorted, get-entries, same_map, slice_cmp-IsAntisymmetric, nat_cmp-IsAntisymmetric}
use Rattle.std.specs.FinMap.Entries.{find as found_in}
use Rattle.std.proofs.lemmas.List.{take-map}
use Rattle.osb_asks.specs.declared.ask.Ask.{Ask}
use Rattle.osb_asks.specs.declared.ask.Ask.TheVariants as the
use Rattle.osb_orders.specs.declared.order.Order.{Order}
use Rattle.osb_orders.specs.Lists.{last_of}
use Rattle.osb_orders.specs.Orders.{is_of_instance, is_of_binding, name_of}
use Rattle.osb_orders.specs.Life.{Life}
use Rattle.osb_orders.specs.Lives.{Lives, life_of}
use Rattle.osb_orders.specs.Named.{named_by, named_in, subject}
use Rattle.osb_orders.specs.Listing.{with_last, is_listed, listing}
use Rattle.osb_orders.specs.IsLife.{IsLives}
use Rattle.osb_audit.proofs.RunLemmas.{by_bytes}
use Rattle.osb_bare.specs.Bare.{bare_life, bare_instance, bare_lives}
use Rattle.osb_bare.proofs.ListLemmas.{last_of-map, filter-map, find-map, filter_map-map}
use Rattle.osb_bare.proofs.LivesLemmas.{entries-bare, get-bare}
use Rattle.osb_joined.specs.declared.entry.ContextEntry.{ContextEntry}
use Rattle.osb_joined.specs.Contexts.{is_context, context_of_order, contexts_of}
use Rattle.osb_joined.specs.Joined.{context_at, joined_order, joined_life, joined_lives, joined_entry, joined_instance}
use Rattle.osb_joined.proofs.LivesLemmas.{each_entry, context_of_order_is}
use Rattle.osb_joined.proofs.JoinLemmas.{context_found, get-joined}

-- ---- a context changes none of what orders are looked for by

module _ (contexts : List ContextEntry) where
  module _ (id : List ℕ) where
    abbrev joins : Order → Order
    joins = joined_order contexts id

    subject-joined : (ask : Ask) (life : Life) → subject ask (joined_life contexts id life) ≡ joined_life contexts id (subject ask life)
    subject-joined (the.InstanceOp ask) life = filter-map joins is_of_instance life
    subject-joined (the.BindingOp ask) life = filter-map joins (is_of_binding ask.binding) life
    subject-joined _ life = refl

    named_by-joined : (operation : Option (List ℕ)) (orders : Life) → named_by operation (joined_life contexts id orders) ≡ option_map joins (named_by operation orders)
    named_by-joined None orders = refl
    named_by-joined (Some name) orders = find-map joins (λ order. bytes_eq (name_of order) name) orders

    named_in-joined : (ask : Ask) (life : Life) → named_in ask (joined_life contexts id life) ≡ option_map joins (named_in ask life)
    named_in-joined (the.InstanceOp ask) life = ap (named_by ask.operation) (filter-map joins is_of_instance life) ∙ named_by-joined ask.operation (filter is_of_instance life)
    named_in-joined (the.BindingOp ask) life = ap (named_by ask.operation) (filter-map joins (is_of_binding ask.binding) life) ∙ named_by-joined ask.operation (filter (is_of_binding ask.binding) life)
    named_in-joined (the.Report ask) life = find-map joins (λ order. order.number == ask.number) life
    named_in-joined _ life = refl

    -- ---- of one life

    orders_back : (life : Life) → AllByRecursion (λ (order : Order). filter (is_context id order.number) contexts ≡ context_of_order id order ∷ []) life → joined_life contexts id (bare_life life) ≡ life
    orders_back [] one = refl
    orders_back (order ∷ later) one =
        let context : context_at contexts id order.number ≡ order.attributes.context = context_found contexts id order.number order.attributes.context one.0 in
        λ i. record order { attributes = record order.attributes { context = context i } } ∷ orders_back later one.1 i

    module _ (life : Life) (back : joined_life contexts id (bare_life life) ≡ life) where
      last_back : option_map joins (last_of (bare_life life)) ≡ last_of life
      last_back = sym (last_of-map joins (bare_life life)) ∙ ap last_of back

      named_back : (ask : Ask) → option_map joins (named_in ask (bare_life life)) ≡ named_in ask life
      named_back ask = sym (named_in-joined ask (bare_life life)) ∙ ap (named_in ask) back

      subject_back : (ask : Ask) → option_map joins (last_of (subject ask (bare_life life))) ≡ last_of (subject ask life)
      subject_back ask = sym (last_of-map joins (subject ask (bare_life life))) ∙ ap last_of (sym (subject-joined ask (bare_life life)) ∙ ap (subject ask) back)

  -- ---- of all

  paired-joined : (id : List ℕ) (last : Option Order) → option_map (λ (order : Order). (id, order)) (option_map (joined_order contexts id) last) ≡ option_map (joined_entry contexts) (option_map (λ (order : Order). (id, order)) last)
  paired-joined id None = refl
  paired-joined id (Some order) = refl

  with_last-joined : (instance : List ℕ × Life) → with_last (joined_instance contexts instance) ≡ option_map (joined_entry contexts) (with_last instance)
  with_last-joined instance = ap (option_map (λ (order : Order). (instance.0, order))) (last_of-map (joined_order contexts instance.0) instance.1) ∙ paired-joined instance.0 (last_of instance.1)

  instances_back : (instances : List (List ℕ × Life)) → AllByRecursion (λ (instance : List ℕ × Life). joined_life contexts instance.0 (bare_life instance.1) ≡ instance.1) instances → map (joined_instance contexts) (map bare_instance instances) ≡ instances
  instances_back [] back = refl
  instances_back (instance ∷ instances) back = λ i. (instance.0, back.0 i) ∷ instances_back instances back.1 i

  listed_back : (lives : Lives) → map (joined_instance contexts) (entries (bare_lives lives)) ≡ entries lives → (after : List ℕ) (limit : ℕ) → map (joined_entry contexts) (listing (bare_lives lives) after limit) ≡ listing lives after limit
  listed_back lives back after limit =
      let bare : List (List ℕ × Life) = entries (bare_lives lives) in
      let lasts : List (List ℕ × Order) = filter_map with_last bare in
      sym (take-map (joined_entry contexts) limit (filter (is_listed after) lasts))
      ∙ ap (take limit) (sym (filter-map (joined_entry contexts) (is_listed after) lasts))
      ∙ ap (λ pairs. take limit (filter (is_listed after) pairs)) (sym (filter_map-map (joined_instance contexts) (joined_entry contexts) with_last with_last with_last-joined bare))
      ∙ ap (λ instances. take limit (filter (is_listed after) (filter_map with_last instances))) back

-- ---- with the contexts of the lives

module _ (lives : Lives) (whole : IsLives lives) where
  abbrev contexts : List ContextEntry
  contexts = contexts_of lives

  pub life_joined : (id : List ℕ) → joined_life contexts id (bare_life (life_of lives id)) ≡ life_of lives id
  life_joined id = orders_back contexts id (life_of lives id) (context_of_order_is lives id whole)

  pub last_joined : (id : List ℕ) → option_map (joined_order contexts id) (last_of (bare_life (life_of lives id))) ≡ last_of (life_of lives id)
  last_joined id = last_back contexts id (life_of lives id) (life_joined id)

  pub named_joined : (ask : Ask) (id : List ℕ) → option_map (joined_order contexts id) (named_in ask (bare_life (life_of lives id))) ≡ named_in ask (life_of lives id)
  named_joined ask id = named_back contexts id (life_of lives id) (life_joined id) ask

  pub subject_joined : (ask : Ask) (id : List ℕ) → option_map (joined_order contexts id) (last_of (subject ask (bare_life (life_of lives id)))) ≡ last_of (subject ask (life_of lives id))
  subject_joined ask id = subject_back contexts id (life_of lives id) (life_joined id) ask

  each_back : AllByRecursion (λ (instance : List ℕ × Life). joined_life contexts instance.0 (bare_life instance.1) ≡ instance.1) (entries lives)
  each_back = each_entry (λ (id : List ℕ) (life : Life). joined_life contexts id (bare_life life) ≡ life) (entries lives) (entries_sorted lives) (λ id. go id (found_in by_bytes id (entries lives)) (get-entries lives id))
    where
      go : (id : List ℕ) (found : Option Life) → get lives id ≡ found → IfSome found (λ life. joined_life contexts id (bare_life life) ≡ life)
      go id None is = tt
      go id (Some life) is = subst (λ (found : Option Life). joined_life contexts id (bare_life (unwrap_or found [])) ≡ unwrap_or found []) is (life_joined id)

  pub listing_joined : (after : List ℕ) (limit : ℕ) → map (joined_entry contexts) (listing (bare_lives lives) after limit) ≡ listing lives after limit
  listing_joined = listed_back contexts lives (ap (map (joined_instance contexts)) (entries-bare lives) ∙ instances_back contexts (entries lives) each_back)

-- all of them are the lives
pub lives_joined : (lives : Lives) → IsLives lives → joined_lives (contexts_of lives) (bare_lives lives) ≡ lives
lives_joined lives whole =
    same_map nat_list_cmp_total (slice_cmp-IsAntisymmetric nat_cmp-IsAntisymmetric) (joined_lives contexts (bare_lives lives)) lives
    (λ id. get-joined contexts (bare_lives lives) id ∙ ap (option_map (joined_life contexts id)) (get-bare lives id) ∙ go id (get lives id) (context_of_order_is lives id whole))
  where
    contexts : List ContextEntry
    contexts = contexts_of lives

    go : (id : List ℕ) (found : Option Life) → AllByRecursion (λ (order : Order). filter (is_context id order.number) contexts ≡ context_of_order id order ∷ []) (unwrap_or found []) → option_map (joined_life contexts id) (option_map bare_life found) ≡ found
    go id None h = refl
    go id (Some life) h = ap Some (orders_back contexts id life h)
