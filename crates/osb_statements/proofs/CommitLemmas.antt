-- What a change writes, and what stands after it.
use Rattle.std.proofs.Common.{◌≡◌, ℕ, ◌+◌, List, [], ◌∷◌, ◌++◌, length, Some, refl, sym, ap, subst, ◌∙◌, arith}
use Rattle.std.specs.Prelude.{IfSome}
use Rattle.std.specs.List.{AllByRecursion}
use Rattle.std.specs.Cmp.Lexicographic.{nat_list_cmp_total}
use Rattle.std.specs.FinMap.{get, insert, get-insert}
use Rattle.sqlite.specs.Tree.{Trees}
use Rattle.sqlite.specs.Effect.{Database}
use Rattle.sqlite.specs.State.{State, IsUnchanged}
use Rattle.osb_orders.specs.declared.order.Outcome.{Outcome}
use Rattle.osb_orders.specs.declared.order.Order.{Order}
use Rattle.osb_orders.specs.declared.order.Change.{Change}
use Rattle.osb_orders.specs.declared.order.Change.TheVariants.{Append, Finish}
use Rattle.osb_orders.specs.Lists.{last_of}
use Rattle.osb_orders.specs.Life.{Life}
use Rattle.osb_orders.specs.Lives.{Lives, life_of}
use Rattle.osb_orders.specs.Named.{order_numbered}
use Rattle.osb_orders.specs.Changed.{lives_changed}
use Rattle.osb_orders.specs.IsLife.{IsNext, IsLifeAfter, HasValidTexts, IsLife, IsInstance, IsLives}
use Rattle.osb_orders.specs.Allowed.{IsFinishable}
use Rattle.osb_standing.specs.Written.{order_written, IsWritten}
use Rattle.osb_standing.proofs.ReadLemmas.{life_found}
use Rattle.osb_statements.specs.Stored.{content_in, bare_lives_in}
use Rattle.osb_statements.specs.Inside.{with_lives, ContentSteps, Writes}
use Rattle.osb_statements.specs.Standing.{IsConsistent}
use Rattle.osb_statements.specs.Steps.{bare_in, content}
use Rattle.osb_statements.proofs.LivesLemmas.{IsNumberedFrom, numbered, key_is}
use Rattle.osb_audit.proofs.RunLemmas.{text_itself as bytes_itself}
use Rattle.osb_joined.proofs.InstanceLemmas.{length_one_more, same_number as same_number_is, lower_number as other_number}
use Rattle.osb_contexts.proofs.StepLemmas.{within_then, within_later}

-- ---- the order that is written

grown : (before life : Life) (order : Order) → (before ++ order ∷ []) ++ life ≡ before ++ order ∷ life
grown [] life order = refl
grown (first ∷ before) life order = ap (λ l. first ∷ l) (grown before life order)

none_more : (before : Life) → before ≡ before ++ []
none_more [] = refl
none_more (first ∷ before) = ap (λ l. first ∷ l) (none_more before)

next_after : (before life : Life) (order : Order) → IsLifeAfter before (life ++ order ∷ []) → IsNext (before ++ life) order
next_after before [] order h = subst (λ l. IsNext l order) (none_more before) h.0
next_after before (first ∷ life) order h = subst (λ l. IsNext l order) (grown before life first) (next_after (before ++ first ∷ []) life order h.1)

last_valid_texts : (life : Life) (order : Order) → AllByRecursion HasValidTexts (life ++ order ∷ []) → HasValidTexts order
last_valid_texts [] order h = h.0
last_valid_texts (first ∷ life) order h = last_valid_texts life order h.1

life_is : (lives : Lives) (id : List ℕ) → IsLives lives → IsLife (life_of lives id)
life_is lives id whole = life_found id (get lives id) (whole id)

pub append_written : (lives : Lives) (id : List ℕ) (order : Order) → IsLives lives → IsLives (lives_changed (Append order) id lives) → IsWritten (life_of lives id) (Append order) order
append_written lives id order whole whole_after =
    let before = life_of lives id in
    let life : Life = before ++ order ∷ [] in
    let found : get (insert lives id life) id ≡ Some life = get-insert nat_list_cmp_total lives id life id ∙ rw (key_is id id, bytes_itself id) refl in
    let now = (subst (λ o. IfSome o (IsInstance id)) found (whole_after id)).life in
    record {
      is_life = life_is lives id whole;
      allowed = record { room = omega (arith, now.count, length_one_more before order); next = next_after [] before order now.orders; texts = last_valid_texts before order now.texts };
      writes = refl;
    }

pub finish_written : (lives : Lives) (id : List ℕ) (number : ℕ) (outcome : Outcome) (order : Order) → IsLives lives → IsFinishable (life_of lives id) number outcome → order_written (last_of (life_of lives id)) (Finish number outcome) ≡ Some order
    → IsWritten (life_of lives id) (Finish number outcome) order
finish_written lives id number outcome order whole may writes = record { is_life = life_is lives id whole; allowed = may; writes = writes }

-- in a numbered life the order that has the number of its length is the last
last_numbered : (n number : ℕ) (life : Life) → IsNumberedFrom n life → number ≡ n + length life → order_numbered number life ≡ last_of life
last_numbered n number [] h is = refl
last_numbered n number (order ∷ []) h is = rw (same_number_is order.number number (omega (arith, h.0, is))) refl
last_numbered n number (order ∷ next ∷ later) h is = rw (other_number order.number number (omega (arith, h.0, is))) (last_numbered (n + 1) number (next ∷ later) h.1 (omega (arith, is)))

pub last_found : (lives : Lives) (id : List ℕ) (number : ℕ) → IsLives lives → number ≡ length (life_of lives id) → order_numbered number (life_of lives id) ≡ last_of (life_of lives id)
last_found lives id number whole is = last_numbered 0 number (life_of lives id) (numbered lives id whole) (omega (arith, is))

-- ---- an order after the rows that it makes stand

pub written_after : (first mid new : State) (id : List ℕ) (change : Change) → ContentSteps first mid (with_lives (bare_in first) (content mid)) → IsConsistent (with_lives (lives_changed change id (bare_in first)) (content mid))
    → ContentSteps mid new (with_lives (lives_changed change id (bare_in mid)) (content mid)) → Writes first new (lives_changed change id (bare_in first))
written_after first mid new id change rows standing order = record {
  within = within_then first mid new rows.within order.within;
  tables = order.tables;
  lives_are = lives;
  standing = subst IsConsistent (sym is) standing;
  sound = order.sound;
  contexts_kept = order.contexts_kept ∙ rows.contexts_kept;
}
  where
    lives : bare_in new ≡ lives_changed change id (bare_in first)
    lives = order.lives_are ∙ ap (lives_changed change id) rows.lives_are

    is : content new ≡ with_lives (lives_changed change id (bare_in first)) (content mid)
    is = rw (lives, order.instances_are, order.bindings_are) refl

-- the same, where the order was looked up first
pub written_later : (first read mid new : State) (id : List ℕ) (order : Order) (change : Change) → IsUnchanged first read → IsWritten (life_of (bare_in first) id) change order → IsConsistent (content first)
    → ContentSteps read mid (with_lives (bare_in read) (content mid)) → ((any : Change) → IsWritten (life_of (bare_in read) id) any order → IsConsistent (content read) → IsConsistent (with_lives (lives_changed any id (bare_in read)) (content mid)))
    → ContentSteps mid new (with_lives (lives_changed change id (bare_in mid)) (content mid)) → Writes first new (lives_changed change id (bare_in first))
written_later first read mid new id order change same written standing rows stands ended =
    let trees : read.now.trees ≡ first.now.trees = ap (λ (d : Database). d.trees) same.0.now_is in
    let stands_first = subst (λ db. (any : Change) → IsWritten (life_of (bare_lives_in db) id) any order → IsConsistent (content_in db) → IsConsistent (with_lives (lives_changed any id (bare_lives_in db)) (content mid))) trees stands in
    let rows_first : ContentSteps first mid (with_lives (bare_in first) (content mid)) = record {
      within = within_later first read mid same rows.within;
      tables = rows.tables;
      lives_are = rows.lives_are ∙ ap bare_lives_in trees;
      instances_are = refl;
      bindings_are = refl;
      sound = rows.sound;
      contexts_kept = rows.contexts_kept ∙ ap (λ (db : Trees). db 7) trees;
    } in
    written_after first mid new id change rows_first (stands_first change written standing) ended
