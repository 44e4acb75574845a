-- What an order that is written leaves of the contexts.
use Rattle.std.proofs.Common.{◌≡◌, ℕ, ◌==◌, List, [], ◌∷◌, filter, true, false, sym, ap, ◌∙◌, arith}
use Rattle.std.proofs.lemmas.Bool.Decides.{nat_tests}
use Rattle.sqlite.specs.Effect.{Database}
use Rattle.sqlite.specs.State.{State, IsUnchanged}
use Rattle.sqlite_keyed.specs.Lists.{insert_sorted, update_where}
use Rattle.osb_orders.specs.declared.order.Order.{Order}
use Rattle.osb_joined.specs.declared.entry.ContextEntry.{ContextEntry}
use Rattle.osb_joined.specs.Contexts.{context_entry, context_cmp, is_context, with_context, context_of_order}
use Rattle.osb_joined.specs.Joined.{context_at}
use Rattle.osb_joined.proofs.ListLemmas.{insert_other}
use Rattle.osb_joined.proofs.InstanceLemmas.{other_key}
use Rattle.osb_joined.proofs.JoinLemmas.{context_found}
use Rattle.osb_contexts.specs.Steps.{contexts, ContextSteps}
use Rattle.osb_contexts.proofs.StepLemmas.{within_later}

not_0 : (number : ℕ) → (number == 1) ≡ true → (number == 0) ≡ false
not_0 number is = grind (arith, nat_tests)

-- the entry of the first order isn't that of what stands
pub still_free : (id : List ℕ) (order : Order) (entries : List ContextEntry) → (order.number == 1) ≡ true → filter (is_context id 0) entries ≡ [] → filter (is_context id 0) (insert_sorted context_cmp (context_of_order id order) entries) ≡ []
still_free id order entries first free = insert_other context_cmp (is_context id 0) (context_of_order id order) entries (other_key id id order.number 0 (not_0 order.number first)) ∙ free

-- the context that was read is the one that is written
pub stands_updated : (old read new : State) (id : List ℕ) (number : ℕ) (context : List ℕ) → IsUnchanged old read → filter (is_context id number) (contexts old) ≡ context_entry id number context ∷ []
    → ContextSteps read new (update_where (is_context id 0) (with_context context) (contexts read)) → ContextSteps old new (update_where (is_context id 0) (with_context (context_at (contexts old) id number)) (contexts old))
stands_updated old read new id number context same one it =
    let now : read.now ≡ old.now = same.0.now_is in
    let found : context_at (contexts old) id number ≡ context = context_found (contexts old) id number context one in
    let tree : (n : ℕ) → read.now.trees n ≡ old.now.trees n = λ n. ap (λ (db : Database). db.trees n) now in
    record {
      within = within_later old read new same it.within;
      tables = it.tables;
      contexts_are = it.contexts_are ∙ rw (tree 7) (ap (λ (text : List ℕ). update_where (is_context id 0) (with_context text) (contexts old)) (sym found));
      kept = (it.kept.0 ∙ tree 0, (it.kept.1.0 ∙ tree 1, (it.kept.1.1.0 ∙ tree 3, (it.kept.1.1.1.0 ∙ tree 5, tt))));
      sound = it.sound;
    }
