-- What a change makes of the contexts of all lives.
use Rattle.std.proofs.Common.{◌≡◌, ◌≢◌, ℕ, ◌+◌, ◌==◌, List, [], ◌∷◌, ◌++◌, length, filter, bytes_eq, Bool, true, false, cond, None, Some, refl, sym, ap, subst, ◌∙◌, arith}
use Rattle.std.specs.Prelude.{unwrap_or, option_map}
use Rattle.std.proofs.lemmas.Option.{same_Some}
use Rattle.std.specs.Cmp.Lexicographic.{nat_list_cmp_total}
use Rattle.std.specs.FinMap.{get, insert, get-insert}
use Rattle.osb_orders.specs.declared.order.OrderKind.TheVariants.{Create}
use Rattle.osb_orders.specs.declared.order.Order.{Order}
use Rattle.osb_orders.specs.declared.order.Outcome.{Outcome}
use Rattle.osb_orders.specs.declared.order.Change.{Change}
use Rattle.osb_orders.specs.declared.order.Change.TheVariants.{Nothing, Append, Finish}
use Rattle.osb_orders.specs.Lists.{last_of}
use Rattle.osb_orders.specs.Orders.{is_a}
use Rattle.osb_orders.specs.Life.{Life, standing_since, standing_of}
use Rattle.osb_orders.specs.Lives.{Lives, life_of}
use Rattle.osb_orders.specs.Changed.{with_outcome, with_last_ended, changed}
use Rattle.osb_orders.specs.IsLife.{IsLives}
use Rattle.osb_orders.proofs.GrowLemmas.{since_birth-create, last_of-push, EndsWith, ends}
use Rattle.osb_standing.specs.Written.{IsWritten}
use Rattle.osb_audit.proofs.LivesLemmas.{key_is}
use Rattle.osb_audit.proofs.RunLemmas.{same_text, text_itself}
use Rattle.osb_joined.specs.declared.entry.ContextEntry.{ContextEntry}
use Rattle.osb_joined.specs.Contexts.{context_entry, context_cmp, AreRising, is_context, with_context, context_of_standing, contexts_of_instance, contexts_of}
use Rattle.osb_bare.specs.Context.{standing_context, context_edit}
use Rattle.osb_joined.specs.After.{standing_set, contexts_after}
use Rattle.osb_joined.specs.Laws.{ContextsChanged}
use Rattle.osb_joined.proofs.ListLemmas.{update_same, same_rising}
use Rattle.osb_joined.proofs.InstanceLemmas.{context_total, is_context_of, IsNumberedFrom, numbered_after, numbered_push, higher_number}
use Rattle.osb_joined.proofs.AfterLemmas.{create_edit, set_rises, set_own, set_other, appended_rises, appended_own, appended_other, instance_after}
use Rattle.osb_joined.proofs.LivesLemmas.{AreNumbered, numbered, of_instance, contexts_rise, context_of_standing_is, no_life, no_later_number}

-- lists that rise are the same where they have the same of each instance
pub same_contexts : (xs ys : List ContextEntry) → AreRising xs → AreRising ys → ((id : List ℕ) → filter (is_context_of id) xs ≡ filter (is_context_of id) ys) → xs ≡ ys
same_contexts = same_rising context_cmp context_total is_context_of (λ (entry : ContextEntry). entry.instance) (λ entry. text_itself entry.instance)

-- ---- numbers

numbered-ended : (n : ℕ) (outcome : Outcome) (life : Life) → IsNumberedFrom n life → IsNumberedFrom n (with_last_ended outcome life)
numbered-ended n outcome [] h = tt
numbered-ended n outcome (order ∷ []) h = h
numbered-ended n outcome (order ∷ next ∷ later) h = (h.0, numbered-ended (n + 1) outcome (next ∷ later) h.1)

pub numbered-changed : (life : Life) (change : Change) (order : Order) → IsWritten life change order → IsNumberedFrom 0 (changed change life)
numbered-changed life Nothing order w = numbered_after [] life w.is_life.orders
numbered-changed life (Append o) order w = numbered_push 0 life o (numbered_after [] life w.is_life.orders) (omega (arith, w.allowed.next.number))
numbered-changed life (Finish number outcome) order w = numbered-ended 0 outcome life (numbered_after [] life w.is_life.orders)

-- ---- a life put in

life_of-insert : (lives : Lives) (id : List ℕ) (life : Life) (q : List ℕ) → life_of (insert lives id life) q ≡ cond (bytes_eq id q) life (life_of lives q)
life_of-insert lives id life q =
    ap (λ found. unwrap_or found []) (get-insert nat_list_cmp_total lives id life q ∙ ap (λ b. cond b (Some life) (get lives q)) (key_is q id)) ∙ go (bytes_eq id q)
  where
    go : (b : Bool) → unwrap_or (cond b (Some life) (get lives q)) [] ≡ cond b life (life_of lives q)
    go true = refl
    go false = refl

numbered-insert : (lives : Lives) (id : List ℕ) (life : Life) → AreNumbered lives → IsNumberedFrom 0 life → AreNumbered (insert lives id life)
numbered-insert lives id life each new = λ q. subst (IsNumberedFrom 0) (sym (life_of-insert lives id life q)) (go q (bytes_eq id q))
  where
    go : (q : List ℕ) (b : Bool) → IsNumberedFrom 0 (cond b life (life_of lives q))
    go q true = new
    go q false = each q

-- ---- a change

module _ (lives : Lives) (id : List ℕ) (whole : IsLives lives) where
  -- the entries that a change makes, where it touches those of this instance alone
  pub put_in : (life : Life) (next : List ContextEntry) → IsNumberedFrom 0 life → AreRising next → filter (is_context_of id) next ≡ contexts_of_instance id life
      → ((q : List ℕ) → bytes_eq id q ≡ false → filter (is_context_of q) next ≡ filter (is_context_of q) (contexts_of lives)) → contexts_of (insert lives id life) ≡ next
  put_in life next new up own others = same_contexts (contexts_of (insert lives id life)) next (contexts_rise (insert lives id life) (numbered-insert lives id life (numbered lives whole) new)) up
      (λ q. of_instance (insert lives id life) q ∙ ap (contexts_of_instance q) (life_of-insert lives id life q) ∙ go q (bytes_eq id q) refl)
    where
      go : (q : List ℕ) (b : Bool) → bytes_eq id q ≡ b → contexts_of_instance q (cond b life (life_of lives q)) ≡ filter (is_context_of q) next
      go q true is = subst (λ (q : List ℕ). contexts_of_instance q life ≡ filter (is_context_of q) next) (same_text id q is) (sym own)
      go q false is = sym (of_instance lives q) ∙ sym (others q is)

  pub up : AreRising (contexts_of lives)
  up = contexts_rise lives (numbered lives whole)

  pub is_first : (n : ℕ) (life : Life) → n ≡ length life + 1 → (n == 1) ≡ true → life ≡ []
  is_first n [] is first = refl
  is_first n (order ∷ later) is first = let other : (n == 1) ≡ false = higher_number n 1 (omega (arith, is)) in let both : true ≡ false = sym first ∙ other in cc

-- ---- the end of a Create

created : (front : Life) (ran : Order) → is_a Create ran ≡ true → standing_context (standing_of (front ++ ran ∷ [])) ≡ ran.attributes.context
created front ran is = ap (λ since. standing_context (standing_since since)) (since_birth-create front ran is)

ended : (front : Life) (ran : Order) (outcome : Outcome) (order : Order) → option_map (with_outcome outcome) (last_of (front ++ ran ∷ [])) ≡ Some order → is_a Create order ≡ true → standing_context (standing_of (front ++ ran ∷ [])) ≡ order.attributes.context
ended front ran outcome order writes is =
    let same : with_outcome outcome ran ≡ order = same_Some (with_outcome outcome ran) order (ap (option_map (with_outcome outcome)) (sym (last_of-push front ran)) ∙ writes) in
    created front ran (ap (is_a Create) same ∙ is) ∙ ap (λ (order : Order). order.attributes.context) same

stands_already : (life : Life) (number : ℕ) (outcome : Outcome) (order : Order) → IsWritten life (Finish number outcome) order → is_a Create order ≡ true → standing_context (standing_of life) ≡ order.attributes.context
stands_already [] number outcome order w is = let none : None ≡ Some order = w.writes in cc
stands_already (first ∷ later) number outcome order w is =
    let e : EndsWith (first ∷ later) = ends [] later first w.is_life.orders in
    subst (λ (life : Life). option_map (with_outcome outcome) (last_of life) ≡ Some order → standing_context (standing_of life) ≡ order.attributes.context) (sym e.parts) (λ writes. ended e.front e.order outcome order writes is) w.writes

had_orders : (life : Life) (number : ℕ) (outcome : Outcome) (order : Order) → IsWritten life (Finish number outcome) order → life ≢ []
had_orders [] number outcome order w none = let none : None ≡ Some order = w.writes in cc
had_orders (first ∷ later) number outcome order w none = cc

pub create_ends : (lives : Lives) (id : List ℕ) (number : ℕ) (outcome : Outcome) (order : Order) → IsLives lives → IsWritten (life_of lives id) (Finish number outcome) order → is_a Create order ≡ true → contexts_after (Finish number outcome) order id (contexts_of lives) ≡ contexts_of lives
create_ends lives id number outcome order whole w is =
    let life : Life = life_of lives id in
    let context : List ℕ = order.attributes.context in
    ap (λ edit. standing_set false edit id (contexts_of lives)) (create_edit order.kind order.outcome.state context is)
    ∙ update_same (is_context id 0) (with_context context) (context_of_standing id (standing_of life)) (contexts_of lives) (context_of_standing_is lives id whole (had_orders life number outcome order w))
    (ap (λ context. context_entry id 0 context) (sym (stands_already life number outcome order w is)))

-- ---- any change

pub contexts_changed : ContextsChanged
contexts_changed lives id Nothing order whole w = let none : None ≡ Some order = w.writes in cc
contexts_changed lives id (Append o) order whole w =
    let contexts : List ContextEntry = contexts_of lives in
    let life : Life = life_of lives id in
    let number : order.number ≡ length life + 1 = ap (λ (o : Order). o.number) (sym (same_Some o order w.writes)) ∙ w.allowed.next.number in
    let free : filter (is_context id order.number) contexts ≡ [] = no_later_number lives id order.number whole (omega (arith, number)) in
    let free_0 : (order.number == 1) ≡ true → filter (is_context id 0) contexts ≡ [] = λ first. no_life lives id 0 (is_first lives id whole order.number life number first) in
    put_in lives id whole (changed (Append o) life) (contexts_after (Append o) order id contexts) (numbered-changed life (Append o) order w)
    (appended_rises id order contexts (up lives id whole) free o free_0)
    (appended_own id order contexts (up lives id whole) free o ∙ ap (contexts_after (Append o) order id) (of_instance lives id) ∙ sym (instance_after id life (Append o) order w))
    (appended_other id order contexts (up lives id whole) o)
contexts_changed lives id (Finish number outcome) order whole w =
    let contexts : List ContextEntry = contexts_of lives in
    let life : Life = life_of lives id in
    put_in lives id whole (changed (Finish number outcome) life) (contexts_after (Finish number outcome) order id contexts) (numbered-changed life (Finish number outcome) order w)
    (set_rises id false (context_edit order) contexts (up lives id whole) (λ e. cc))
    (set_own id false (context_edit order) contexts (up lives id whole) ∙ ap (contexts_after (Finish number outcome) order id) (of_instance lives id) ∙ sym (instance_after id life (Finish number outcome) order w))
    (set_other id false (context_edit order) contexts)
