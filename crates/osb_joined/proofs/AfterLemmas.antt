-- What an order that is written makes of the contexts of one instance, and of a list that has those of others too.
use Rattle.std.proofs.Common.{◌≡◌, ℕ, ◌+◌, ◌≤◌, ◌==◌, ◌&&◌, List, [], ◌∷◌, ◌++◌, length, filter, bytes_eq, Bool, true, false, cond, Ordering, Less, Equal, Greater, is_eq, nat_cmp, Option, None, Some, refl, sym, ap, subst, ◌∙◌, arith}
use Rattle.std.specs.Prelude.{unwrap_or}
use Rattle.std.specs.List.{AllByRecursion}
use Rattle.std.specs.Ordering.{ordering_then}
use Rattle.std.specs.Cmp.Lexicographic.{nat_list_eq_equiv}
use Rattle.std.proofs.lemmas.Bool.Decides.{nat_tests}
use Rattle.std.proofs.lemmas.List.{map-append}
use Rattle.std.proofs.lemmas.Option.{same_Some}
use Rattle.sqlite_keyed.specs.Lists.{insert_sorted}
use Rattle.sqlite_keyed.proofs.ListLemmas.{all_weaker, ascending-map, ascending_weaker}
use Rattle.osb_orders.specs.declared.order.OrderKind.{OrderKind}
use Rattle.osb_orders.specs.declared.order.OrderKind.TheVariants.{Create}
use Rattle.osb_orders.specs.declared.order.OrderState.{OrderState}
use Rattle.osb_orders.specs.declared.order.Order.{Order}
use Rattle.osb_orders.specs.declared.order.Outcome.{Outcome}
use Rattle.osb_orders.specs.declared.order.Change.{Change}
use Rattle.osb_orders.specs.declared.order.Change.TheVariants.{Nothing, Append, Finish}
use Rattle.osb_orders.specs.Orders.{kind_number}
use Rattle.osb_orders.specs.Life.{Life, standing_of}
use Rattle.osb_orders.specs.Changed.{with_last_ended, changed}
use Rattle.osb_standing.specs.Written.{IsWritten}
use Rattle.osb_audit.proofs.LivesLemmas.{key_is}
use Rattle.osb_audit.proofs.RunLemmas.{same_text, text_itself, by_bytes}
use Rattle.osb_bare.specs.Context.{standing_context, context_over, context_edit}
use Rattle.osb_bare.proofs.ContextLemmas.{context_stands}
use Rattle.osb_joined.specs.declared.entry.ContextEntry.{ContextEntry}
use Rattle.osb_joined.specs.Contexts.{context_entry, context_cmp, AreRising, is_context, with_context, context_of_order, contexts_of_instance}
use Rattle.osb_joined.specs.After.{standing_set, contexts_after}
use Rattle.osb_joined.proofs.ListLemmas.{all_pass, passes_none, insert_other, insert_last, insert_first, insert_passes, insert_rises, filter_update, update_none}
use Rattle.osb_joined.proofs.InstanceLemmas.{context_total, is_context_of, IsNumberedFrom, numbered_after, numbered_push, numbers_up_to, same_number, higher_number, numbers_less, numbers_greater, same_key, other_key, by_number, of_orders, of_orders_all, none_is_0, with_standing, shown-push}

-- a Create leaves its own context standing
pub create_edit : (kind : OrderKind) (state : OrderState) (context : List ℕ) → (kind_number kind == 1) ≡ true → context_over kind state context ≡ Some context
create_edit Create state context is = refl
create_edit _ state context is = cc

-- ---- keys that are free

same_both : (o p : Ordering) → is_eq (ordering_then o p) ≡ (is_eq o && is_eq p)
same_both Less p = refl
same_both Equal p = refl
same_both Greater p = refl

number_is : (m n : ℕ) → is_eq (nat_cmp m n) ≡ (n == m)
number_is m n = grind (arith, nat_tests)

module _ (id : List ℕ) where
  key_tied : (number : ℕ) (context : List ℕ) (entry : ContextEntry) → is_eq (context_cmp (context_entry id number context) entry) ≡ is_context id number entry
  key_tied number context entry = same_both (by_bytes id entry.instance) (nat_cmp number entry.number) ∙ (λ i. key_is id entry.instance i && number_is number entry.number i)

  fresh : (number : ℕ) (context : List ℕ) (contexts : List ContextEntry) → filter (is_context id number) contexts ≡ [] → AllByRecursion (λ entry. is_eq (context_cmp (context_entry id number context) entry) ≡ false) contexts
  fresh number context contexts free =
      all_weaker (λ entry. is_context id number entry ≡ false) (λ entry. is_eq (context_cmp (context_entry id number context) entry) ≡ false) (λ entry misses. key_tied number context entry ∙ misses) contexts (passes_none (is_context id number) contexts free)

  -- ---- the entry of what stands, in any list

  same_place : (context : List ℕ) (a b : ContextEntry) (p q : Bool) → context_cmp (cond p (with_context context a) a) (cond q (with_context context b) b) ≡ context_cmp a b
  same_place context a b true true = refl
  same_place context a b true false = refl
  same_place context a b false true = refl
  same_place context a b false false = refl

  pub set_rises : (first : Bool) (edit : Option (List ℕ)) (contexts : List ContextEntry) → AreRising contexts → (first ≡ true → filter (is_context id 0) contexts ≡ []) → AreRising (standing_set first edit id contexts)
  set_rises first None contexts up free = up
  set_rises true (Some context) contexts up free = insert_rises context_cmp context_total (context_entry id 0 context) contexts (fresh 0 context contexts (free refl)) up
  set_rises false (Some context) contexts up free =
      let put : ContextEntry → ContextEntry = λ entry. cond (is_context id 0 entry) (with_context context entry) entry in
      ascending-map (λ a b. context_cmp a b ≡ Less) put contexts
      (ascending_weaker (λ a b. context_cmp a b ≡ Less) (λ a b. context_cmp (put a) (put b) ≡ Less) (λ a b below. same_place context a b (is_context id 0 a) (is_context id 0 b) ∙ below) contexts up)

  pub set_own : (first : Bool) (edit : Option (List ℕ)) (contexts : List ContextEntry) → AreRising contexts → filter (is_context_of id) (standing_set first edit id contexts) ≡ standing_set first edit id (filter (is_context_of id) contexts)
  set_own first None contexts up = refl
  set_own true (Some context) contexts up = insert_passes context_cmp context_total (is_context_of id) (context_entry id 0 context) contexts (text_itself id) up
  set_own false (Some context) contexts up = filter_update (is_context id 0) (with_context context) (is_context_of id) (λ _. refl) contexts

  not_of : (q : List ℕ) → bytes_eq id q ≡ false → (entry : ContextEntry) → is_context_of q entry ≡ true → is_context id 0 entry ≡ false
  not_of q other entry of = ap (λ b. b && (entry.number == 0)) (ap (λ (text : List ℕ). bytes_eq text id) (same_text entry.instance q of) ∙ nat_list_eq_equiv.symm q id ∙ other)

  pub set_other : (first : Bool) (edit : Option (List ℕ)) (contexts : List ContextEntry) (q : List ℕ) → bytes_eq id q ≡ false → filter (is_context_of q) (standing_set first edit id contexts) ≡ filter (is_context_of q) contexts
  set_other first None contexts q other = refl
  set_other true (Some context) contexts q other = insert_other context_cmp (is_context_of q) (context_entry id 0 context) contexts other
  set_other false (Some context) contexts q other =
      filter_update (is_context id 0) (with_context context) (is_context_of q) (λ _. refl) contexts
      ∙ update_none (is_context id 0) (with_context context) (filter (is_context_of q) contexts)
      (all_weaker (λ entry. is_context_of q entry ≡ true) (λ entry. is_context id 0 entry ≡ false) (not_of q other) (filter (is_context_of q) contexts) (all_pass (is_context_of q) contexts))

  -- ---- and the entry of a new order

  module _ (order : Order) (contexts : List ContextEntry) (up : AreRising contexts) where
    abbrev added : List ContextEntry
    added = insert_sorted context_cmp (context_of_order id order) contexts

    module _ (free : filter (is_context id order.number) contexts ≡ []) where
      added_rises : AreRising added
      added_rises = insert_rises context_cmp context_total (context_of_order id order) contexts (fresh order.number order.attributes.context contexts free) up

      added_free : ((order.number == 1) ≡ true → filter (is_context id 0) contexts ≡ []) → (order.number == 1) ≡ true → filter (is_context id 0) added ≡ []
      added_free free_0 first = insert_other context_cmp (is_context id 0) (context_of_order id order) contexts (other_key id id order.number 0 (not_0 order.number first)) ∙ free_0 first
        where
          not_0 : (n : ℕ) → (n == 1) ≡ true → (n == 0) ≡ false
          not_0 n is = grind (arith, nat_tests)

      pub appended_rises : (o : Order) → ((order.number == 1) ≡ true → filter (is_context id 0) contexts ≡ []) → AreRising (contexts_after (Append o) order id contexts)
      appended_rises o free_0 = set_rises (order.number == 1) (context_edit order) added added_rises (added_free free_0)

      pub appended_own : (o : Order) → filter (is_context_of id) (contexts_after (Append o) order id contexts) ≡ contexts_after (Append o) order id (filter (is_context_of id) contexts)
      appended_own o =
          set_own (order.number == 1) (context_edit order) added added_rises
          ∙ ap (standing_set (order.number == 1) (context_edit order) id) (insert_passes context_cmp context_total (is_context_of id) (context_of_order id order) contexts (text_itself id) up)

    pub appended_other : (o : Order) (q : List ℕ) → bytes_eq id q ≡ false → filter (is_context_of q) (contexts_after (Append o) order id contexts) ≡ filter (is_context_of q) contexts
    appended_other o q other = set_other (order.number == 1) (context_edit order) added q other ∙ insert_other context_cmp (is_context_of q) (context_of_order id order) contexts other

  -- ---- of one life

  set_first : (edit : Option (List ℕ)) (context : List ℕ) (later : List ContextEntry) → AllByRecursion (λ entry. is_context id 0 entry ≡ false) later → standing_set false edit id (context_entry id 0 context ∷ later) ≡ context_entry id 0 (unwrap_or edit context) ∷ later
  set_first None context later others = refl
  set_first (Some given) context later others =
      λ i. cond (same_key id (context_entry id 0 context) 0 refl refl i) (context_entry id 0 given) (context_entry id 0 context) ∷ update_none (is_context id 0) (with_context given) later others i

  not_standing : (n : ℕ) (life : Life) → IsNumberedFrom n life → AllByRecursion (λ entry. is_context id 0 entry ≡ false) (of_orders id life)
  not_standing n life h = of_orders_all id (λ entry. is_context id 0 entry ≡ false) life
      (all_weaker (λ (order : Order). (order.number == 0) ≡ false) (λ (order : Order). is_context id 0 (context_of_order id order) ≡ false) (λ order is. other_key id id order.number 0 is) life (none_is_0 id n life h))

  of_orders-push : (life : Life) (order : Order) → of_orders id (life ++ order ∷ []) ≡ of_orders id life ++ context_of_order id order ∷ []
  of_orders-push life order = map-append (context_of_order id) life (order ∷ [])

  of_orders-ended : (outcome : Outcome) (life : Life) → of_orders id (with_last_ended outcome life) ≡ of_orders id life
  of_orders-ended outcome [] = refl
  of_orders-ended outcome (order ∷ []) = refl
  of_orders-ended outcome (order ∷ next ∷ later) = ap (λ entries. context_of_order id order ∷ entries) (of_orders-ended outcome (next ∷ later))

  shown-ended : (outcome : Outcome) (first : Order) (later : Life) → contexts_of_instance id (with_last_ended outcome (first ∷ later)) ≡ with_standing id (with_last_ended outcome (first ∷ later))
  shown-ended outcome first [] = refl
  shown-ended outcome first (next ∷ later) = refl

  first_order : (order : Order) → IsWritten [] (Append order) order → contexts_of_instance id (order ∷ []) ≡ contexts_after (Append order) order id []
  first_order order w =
      let edit : context_edit order ≡ Some order.attributes.context = create_edit order.kind order.outcome.state order.attributes.context w.allowed.next.creates in
      let stands : standing_context (standing_of (order ∷ [])) ≡ order.attributes.context = context_stands [] (Append order) order w ∙ ap (λ edit. unwrap_or edit []) edit in
      let below : context_cmp (context_entry id 0 order.attributes.context) (context_of_order id order) ≡ Less = by_number id 0 order.number order.attributes.context order.attributes.context ∙ numbers_less 0 order.number (omega (arith, w.allowed.next.number)) in
      ap (λ context. context_entry id 0 context ∷ context_of_order id order ∷ []) stands
      ∙ sym (insert_first context_cmp (context_entry id 0 order.attributes.context) (context_of_order id order ∷ []) (below, tt))
      ∙ (λ i. standing_set (sym (same_number order.number 1 w.allowed.next.number) i) (sym edit i) id (context_of_order id order ∷ []))

  module _ (first : Order) (later : Life) where
    abbrev life : Life
    life = first ∷ later

    later_order : (order : Order) → IsWritten life (Append order) order → contexts_of_instance id (life ++ order ∷ []) ≡ contexts_after (Append order) order id (contexts_of_instance id life)
    later_order order w =
        let numbered : IsNumberedFrom 0 life = numbered_after [] life w.is_life.orders in
        let entry : ContextEntry = context_of_order id order in
        let stood : List ℕ = standing_context (standing_of life) in
        let low : AllByRecursion (λ other. context_cmp entry other ≡ Greater) (of_orders id life) = of_orders_all id (λ other. context_cmp entry other ≡ Greater) life
        (all_weaker (λ (other : Order). other.number ≤ 0 + length life) (λ (other : Order). context_cmp entry (context_of_order id other) ≡ Greater)
        (λ other low. by_number id order.number other.number order.attributes.context other.attributes.context ∙ numbers_greater order.number other.number (omega (arith, low, w.allowed.next.number))) life (numbers_up_to 0 life numbered)) in
        let last : insert_sorted context_cmp entry (with_standing id life) ≡ with_standing id life ++ entry ∷ [] =
        insert_last context_cmp entry (with_standing id life) (by_number id order.number 0 order.attributes.context stood ∙ numbers_greater order.number 0 (omega (arith, w.allowed.next.number)), low) in
        let others : AllByRecursion (λ entry. is_context id 0 entry ≡ false) (of_orders id life ++ entry ∷ []) = subst (AllByRecursion (λ entry. is_context id 0 entry ≡ false)) (of_orders-push life order) (not_standing 0 (life ++ order ∷ []) (numbered_push 0 life order numbered (omega (arith, w.allowed.next.number)))) in
        shown-push id life order
        ∙ (λ i. context_entry id 0 (context_stands life (Append order) order w i) ∷ of_orders-push life order i)
        ∙ sym (set_first (context_edit order) stood (of_orders id life ++ entry ∷ []) others)
        ∙ (λ i. standing_set (sym (higher_number order.number 1 (omega (arith, w.allowed.next.number))) i) (context_edit order) id (sym last i))

    ended_order : (number : ℕ) (outcome : Outcome) (order : Order) → IsWritten life (Finish number outcome) order → contexts_of_instance id (with_last_ended outcome life) ≡ contexts_after (Finish number outcome) order id (contexts_of_instance id life)
    ended_order number outcome order w =
        shown-ended outcome first later
        ∙ (λ i. context_entry id 0 (context_stands life (Finish number outcome) order w i) ∷ of_orders-ended outcome life i)
        ∙ sym (set_first (context_edit order) (standing_context (standing_of life)) (of_orders id life) (not_standing 0 life (numbered_after [] life w.is_life.orders)))

  pub instance_after : (life : Life) (change : Change) (order : Order) → IsWritten life change order → contexts_of_instance id (changed change life) ≡ contexts_after change order id (contexts_of_instance id life)
  instance_after life Nothing order w = let none : None ≡ Some order = w.writes in cc
  instance_after [] (Append o) order w = let same : o ≡ order = same_Some o order w.writes in subst (λ (o : Order). IsWritten [] (Append o) order → contexts_of_instance id (o ∷ []) ≡ contexts_after (Append o) order id []) (sym same) (first_order order) w
  instance_after (first ∷ later) (Append o) order w =
      let same : o ≡ order = same_Some o order w.writes in
      subst (λ (o : Order). IsWritten (first ∷ later) (Append o) order → contexts_of_instance id ((first ∷ later) ++ o ∷ []) ≡ contexts_after (Append o) order id (contexts_of_instance id (first ∷ later))) (sym same) (later_order first later order) w
  instance_after [] (Finish number outcome) order w = let none : None ≡ Some order = w.writes in cc
  instance_after (first ∷ later) (Finish number outcome) order w = ended_order first later number outcome order w
