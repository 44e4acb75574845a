-- What the lives are when the entries change.
use Rattle.std.proofs.Common.{◌≡◌, ◌≢◌, inl, inr, ℕ, ◌+◌, ◌<◌, ◌==◌, List, [], ◌∷◌, ◌++◌, length, map, filter, bytes_eq, Bool, true, false, cond, true≢false, Ordering, Less, Equal, Greater, is_eq, is_gt, nat_cmp, Option, Some, None, refl, sym, ap, subst, ◌∙◌, arith}
use Rattle.std.specs.Prelude.{unwrap_or, IfSome}
use Rattle.std.specs.List.{AllByRecursion}
use Rattle.std.specs.Ordering.{ordering_reverse, ordering_then, eq_by_cmp}
use Rattle.std.specs.Cmp.{IsTotalOrder}
use Rattle.std.specs.Cmp.Lexicographic.{slice_cmp, nat_list_cmp_total}
use Rattle.std.specs.FinMap.{get, insert, get-empty, get-insert, same_map, slice_cmp-IsAntisymmetric, nat_cmp-IsAntisymmetric}
use Rattle.std.proofs.lemmas.Bool.{cases_Bool}
use Rattle.std.proofs.lemmas.Bool.Decides.{nat_tests}
use Rattle.std.proofs.lemmas.Map.Text.{is_eq-slice_cmp}
use Rattle.sqlite_trees.specs.Tree.{IsAscending}
use Rattle.sqlite_keyed.specs.Lists.{insert_sorted, update_where}
use Rattle.sqlite_keyed.proofs.ListLemmas.{all_weaker, filter_none}
use Rattle.osb_orders.specs.declared.order.Outcome.{Outcome}
use Rattle.osb_orders.specs.declared.order.Order.{Order}
use Rattle.osb_orders.specs.Life.{Life}
use Rattle.osb_orders.specs.Lives.{Lives, life_of}
use Rattle.osb_orders.specs.Changed.{with_outcome, with_last_ended}
use Rattle.osb_orders.specs.IsLife.{IsInstance, IsLives}
use Rattle.osb_audit.specs.Orders.{Entry, entry_cmp, lives_in, is_of}
use Rattle.osb_statements.proofs.TestLemmas.{is_keyed, bytes_back, text_itself, entry_ended}
use Rattle.osb_audit.proofs.LivesLemmas.{opened_back}
use Rattle.osb_joined.proofs.InstanceLemmas.{numbered_after, numbers_less as smaller, same_number as same_number_is, lower_number as other_number}
use Rattle.osb_contexts.proofs.TestLemmas.{same_bytes}
use Rattle.osb_audit.proofs.RunLemmas.{text_itself as bytes_itself}
use Rattle.osb_audit.proofs.RisingLemmas.{entries_total as entry_total}

-- ---- reading a life

-- an id without orders is not in the map
abbrev pub opened : Life → Option Life
opened [] = None
opened (order ∷ orders) = Some (order ∷ orders)

-- the orders of one instance
abbrev pub life_in : List ℕ → List Entry → Life
life_in id entries = map (λ (entry : Entry). entry.1) (filter (is_of id) entries)

pub key_is : (a b : List ℕ) → eq_by_cmp (slice_cmp nat_cmp) a b ≡ bytes_eq b a
key_is a b = is_eq-slice_cmp a b ∙ go (bytes_eq b a) refl
  where
    go : (x : Bool) → bytes_eq b a ≡ x → bytes_eq a b ≡ x
    go true is = rw (same_bytes b a is) (bytes_itself a)
    go false is = bytes_back b a is

pub get_lives : (id : List ℕ) (entries : List Entry) → get (lives_in entries) id ≡ opened (life_in id entries)
get_lives id [] = get-empty (slice_cmp nat_cmp) id
get_lives id (entry ∷ entries) = get-insert nat_list_cmp_total (lives_in entries) entry.0 (entry.1 ∷ life_of (lives_in entries) entry.0) id ∙ go (bytes_eq entry.0 id) refl (get_lives id entries)
  where
    go : (b : Bool) → bytes_eq entry.0 id ≡ b → get (lives_in entries) id ≡ opened (life_in id entries)
        → cond (eq_by_cmp (slice_cmp nat_cmp) id entry.0) (Some (entry.1 ∷ life_of (lives_in entries) entry.0)) (get (lives_in entries) id) ≡ opened (map (λ (e : Entry). e.1) (cond b (entry ∷ filter (is_of id) entries) (filter (is_of id) entries)))
    go true is rest = rw (key_is id entry.0, is) (ap (λ life. Some (entry.1 ∷ life)) (rw (same_bytes entry.0 id is, rest) (opened_back (life_in id entries))))
    go false is rest = rw (key_is id entry.0, is) rest

pub life_of_lives : (id : List ℕ) (entries : List Entry) → life_of (lives_in entries) id ≡ life_in id entries
life_of_lives id entries = ap (λ found. unwrap_or found []) (get_lives id entries) ∙ opened_back (life_in id entries)

-- maps that answer alike are one
same_lives : (a b : Lives) → ((id : List ℕ) → get a id ≡ get b id) → a ≡ b
same_lives a b = same_map nat_list_cmp_total (slice_cmp-IsAntisymmetric nat_cmp-IsAntisymmetric) a b

-- ---- numbers

-- the numbers go on from this one
abbrev pub IsNumberedFrom : ℕ → Life → Type 0
IsNumberedFrom n [] = Unit {0}
IsNumberedFrom n (order ∷ orders) = (order.number ≡ n + 1) × IsNumberedFrom (n + 1) orders

last_above : (n : ℕ) (life : Life) (order : Order) → IsNumberedFrom n (life ++ order ∷ []) → n < order.number
last_above n [] order h = omega (arith, h.0)
last_above n (first ∷ life) order h = omega (arith, last_above (n + 1) life order h.1)

numbered_below : (n : ℕ) (life : Life) (order : Order) → IsNumberedFrom n (life ++ order ∷ []) → AllByRecursion (λ (other : Order). other.number < order.number) life
numbered_below n [] order h = tt
numbered_below n (first ∷ life) order h = (omega (arith, h.0, last_above (n + 1) life order h.1), numbered_below (n + 1) life order h.1)

pub numbered : (lives : Lives) (id : List ℕ) → IsLives lives → IsNumberedFrom 0 (life_of lives id)
numbered lives id whole = go (get lives id) refl (whole id)
  where
    go : (found : Option Life) → get lives id ≡ found → IfSome found (IsInstance id) → IsNumberedFrom 0 (life_of lives id)
    go None is h = rw is tt
    go (Some life) is h = rw is (numbered_after [] life h.life.orders)

-- an order that may be appended is numbered above all of its instance
pub append_above : (lives : Lives) (id : List ℕ) (order : Order) → IsLives (insert lives id (life_of lives id ++ order ∷ [])) → AllByRecursion (λ (other : Order). other.number < order.number) (life_of lives id)
append_above lives id order whole =
    let life = life_of lives id ++ order ∷ [] in
    let found : get (insert lives id life) id ≡ Some life = get-insert nat_list_cmp_total lives id life id ∙ rw (key_is id id, bytes_itself id) refl in
    numbered_below 0 (life_of lives id) order (numbered_after [] life (subst (λ o. IfSome o (IsInstance id)) found (whole id)).life.orders)

-- so is its entry
pub entries_below : (id : List ℕ) (order : Order) (entries : List Entry) → AllByRecursion (λ (other : Order). other.number < order.number) (life_in id entries) → AllByRecursion (λ (other : Entry). is_of id other ≡ true → other.1.number < order.number) entries
entries_below id order [] h = tt
entries_below id order (entry ∷ entries) h = go (is_of id entry) refl (entries_below id order entries) h
  where
    go : (b : Bool) → is_of id entry ≡ b → (AllByRecursion (λ (other : Order). other.number < order.number) (life_in id entries) → AllByRecursion (λ (other : Entry). is_of id other ≡ true → other.1.number < order.number) entries)
        → AllByRecursion (λ (other : Order). other.number < order.number) (map (λ (e : Entry). e.1) (cond b (entry ∷ filter (is_of id) entries) (filter (is_of id) entries)))
        → AllByRecursion (λ (other : Entry). is_of id other ≡ true → other.1.number < order.number) (entry ∷ entries)
    go true is more h = (λ _. h.0, more h.1)
    go false is more h = (λ hit. absurd (true≢false (sym hit ∙ is)), more h)

greater : (m n : ℕ) → m < n → nat_cmp n m ≡ Greater
greater m n h = grind (arith, nat_tests)

-- its key is new
pub key_new : (id : List ℕ) (order : Order) (entries : List Entry) → AllByRecursion (λ (other : Entry). is_of id other ≡ true → other.1.number < order.number) entries → AllByRecursion (λ other. is_eq (entry_cmp (id, order) other) ≡ false) entries
key_new id order [] above = tt
key_new id order (entry ∷ entries) above = (
  elim (cases_Bool (bytes_eq entry.0 id)) [
    | inl same ↦ numbers _ (greater entry.1.number order.number (above.0 same))
    | inr other ↦ ids _ (is_eq-slice_cmp id entry.0 ∙ bytes_back entry.0 id other)
  ],
  key_new id order entries above.1,
)
  where
    numbers : (o : Ordering) → nat_cmp order.number entry.1.number ≡ Greater → is_eq (ordering_then o (nat_cmp order.number entry.1.number)) ≡ false
    numbers Less h = refl
    numbers Equal h = rw h refl
    numbers Greater h = refl

    ids : (o : Ordering) → is_eq o ≡ false → is_eq (ordering_then o (nat_cmp order.number entry.1.number)) ≡ false
    ids Less h = refl
    ids Equal h = absurd (true≢false h)
    ids Greater h = refl

-- ---- an entry more

module _ {E : Type 0} (cmp : E → E → Ordering) (total : IsTotalOrder cmp) where
  -- a record that fails a test is not seen by it
  pub insert_other : (p : E → Bool) (e : E) (es : List E) → p e ≡ false → filter p (insert_sorted cmp e es) ≡ filter p es
  insert_other p e [] no_hit = rw no_hit refl
  insert_other p e (x ∷ xs) no_hit = go (is_gt (cmp e x)) (p x) refl (insert_other p e xs no_hit)
    where
      go : (b c : Bool) → p x ≡ c → filter p (insert_sorted cmp e xs) ≡ filter p xs → filter p (cond b (x ∷ insert_sorted cmp e xs) (e ∷ x ∷ xs)) ≡ cond c (x ∷ filter p xs) (filter p xs)
      go true true is more = rw is (ap (λ l. x ∷ l) more)
      go true false is more = rw is more
      go false true is more = rw (no_hit, is) refl
      go false false is more = rw (no_hit, is) refl

  -- a record above all that pass comes last among them
  pub insert_last : (p : E → Bool) (e : E) (es : List E) → p e ≡ true → AllByRecursion (λ y. p y ≡ true → cmp y e ≡ Less) es → IsAscending (λ a b. cmp a b ≡ Less) es
      → filter p (insert_sorted cmp e es) ≡ filter p es ++ e ∷ []
  insert_last p e [] hit below up = rw hit refl
  insert_last p e (x ∷ xs) hit below up = go (cmp e x) (p x) refl refl (insert_last p e xs hit below.1 up.1)
    where
      -- what is above e does not pass
      misses : (y : E) → (p y ≡ true → cmp y e ≡ Less) → cmp e y ≡ Less → p y ≡ false
      misses y low less = elim (cases_Bool (p y)) [
        | inl hits ↦ absurd (let a = low hits in let b = total.antisymm y e ∙ ap ordering_reverse less in cc)
        | inr fails ↦ fails
      ]

      rest_misses : cmp e x ≡ Less → filter p xs ≡ []
      rest_misses less = filter_none p xs (both xs below.1 (all_weaker _ (λ y. cmp e y ≡ Less) (λ y. total.trans e x y less) xs up.0))
        where
          both : (ys : List E) → AllByRecursion (λ y. p y ≡ true → cmp y e ≡ Less) ys → AllByRecursion (λ y. cmp e y ≡ Less) ys → AllByRecursion (λ y. p y ≡ false) ys
          both [] a b = tt
          both (y ∷ ys) a b = (misses y a.0 b.0, both ys a.1 b.1)

      tie : cmp e x ≡ Equal → filter p xs ≡ []
      tie same = filter_none p xs (both xs below.1 (all_weaker _ (λ y. cmp e y ≡ Less) (λ y above. total.congr e x y same ∙ above) xs up.0))
        where
          both : (ys : List E) → AllByRecursion (λ y. p y ≡ true → cmp y e ≡ Less) ys → AllByRecursion (λ y. cmp e y ≡ Less) ys → AllByRecursion (λ y. p y ≡ false) ys
          both [] a b = tt
          both (y ∷ ys) a b = (misses y a.0 b.0, both ys a.1 b.1)

      go : (o : Ordering) (c : Bool) → cmp e x ≡ o → p x ≡ c → filter p (insert_sorted cmp e xs) ≡ filter p xs ++ e ∷ []
          → filter p (cond (is_gt o) (x ∷ insert_sorted cmp e xs) (e ∷ x ∷ xs)) ≡ cond c (x ∷ filter p xs) (filter p xs) ++ e ∷ []
      go Greater true o is more = rw is (ap (λ l. x ∷ l) more)
      go Greater false o is more = rw is more
      go Less true o is more = absurd (true≢false (sym is ∙ misses x below.0 o))
      go Less false o is more = rw (hit, is, rest_misses o) refl
      go Equal true o is more = absurd (let a = below.0 is in let b = total.antisymm x e ∙ ap ordering_reverse o in cc)
      go Equal false o is more = rw (hit, is, tie o) refl

-- a change that keeps what a test sees
pub filter_update : {E : Type 0} (p hit : E → Bool) (change : E → E) → ((e : E) → p (change e) ≡ p e) → (es : List E) → filter p (update_where hit change es) ≡ update_where hit change (filter p es)
filter_update p hit change keeps [] = refl
filter_update p hit change keeps (x ∷ xs) = go (hit x) (p x) refl refl (filter_update p hit change keeps xs)
  where
    go : (b c : Bool) → hit x ≡ b → p x ≡ c → filter p (update_where hit change xs) ≡ update_where hit change (filter p xs)
        → filter p (cond b (change x) x ∷ update_where hit change xs) ≡ update_where hit change (cond c (x ∷ filter p xs) (filter p xs))
    go true true h is more = rw (keeps x, is, h) (ap (λ l. change x ∷ l) more)
    go true false h is more = rw (keeps x, is) more
    go false true h is more = rw (is, h) (ap (λ l. x ∷ l) more)
    go false false h is more = rw is more

map_append_one : (entries : List Entry) (entry : Entry) → map (λ (e : Entry). e.1) (entries ++ entry ∷ []) ≡ map (λ (e : Entry). e.1) entries ++ entry.1 ∷ []
map_append_one [] entry = refl
map_append_one (first ∷ entries) entry = ap (λ life. first.1 ∷ life) (map_append_one entries entry)

opened_append : (life : Life) (order : Order) → opened (life ++ order ∷ []) ≡ Some (life ++ order ∷ [])
opened_append [] order = refl
opened_append (first ∷ life) order = refl

-- the new entry comes last in its instance
pub append_lives : (id : List ℕ) (order : Order) (entries : List Entry) → IsAscending (λ a b. entry_cmp a b ≡ Less) entries → AllByRecursion (λ (other : Entry). is_of id other ≡ true → other.1.number < order.number) entries
    → lives_in (insert_sorted entry_cmp (id, order) entries) ≡ insert (lives_in entries) id (life_of (lives_in entries) id ++ order ∷ [])
append_lives id order entries up above = same_lives _ _ (λ q. get_lives q _ ∙ go q (bytes_eq id q) refl ∙ sym (get-insert nat_list_cmp_total (lives_in entries) id (life_of (lives_in entries) id ++ order ∷ []) q))
  where
    below : (es : List Entry) → AllByRecursion (λ (other : Entry). is_of id other ≡ true → other.1.number < order.number) es → AllByRecursion (λ (other : Entry). is_of id other ≡ true → entry_cmp other (id, order) ≡ Less) es
    below [] h = tt
    below (e ∷ es) h = (λ hit. rw (same_bytes e.0 id hit, text_itself id) (smaller e.1.number order.number (h.0 hit)), below es h.1)

    go : (q : List ℕ) (b : Bool) → bytes_eq id q ≡ b
        → opened (life_in q (insert_sorted entry_cmp (id, order) entries)) ≡ cond (eq_by_cmp (slice_cmp nat_cmp) q id) (Some (life_of (lives_in entries) id ++ order ∷ [])) (get (lives_in entries) q)
    go q true is =
        let last : filter (is_of id) (insert_sorted entry_cmp (id, order) entries) ≡ filter (is_of id) entries ++ (id, order) ∷ [] = insert_last entry_cmp entry_total (is_of id) (id, order) entries (bytes_itself id) (below entries above) up in
        let life : life_in id (insert_sorted entry_cmp (id, order) entries) ≡ life_of (lives_in entries) id ++ order ∷ [] =
        ap (map (λ (e : Entry). e.1)) last ∙ map_append_one (filter (is_of id) entries) (id, order) ∙ ap (λ l. l ++ order ∷ []) (sym (life_of_lives id entries)) in
        rw (key_is q id, is) (ap (λ i. opened (life_in i (insert_sorted entry_cmp (id, order) entries))) (sym (same_bytes id q is)) ∙ ap opened life ∙ opened_append _ order)
    go q false is = rw (key_is q id, is) (ap (λ l. opened (map (λ (e : Entry). e.1) l)) (insert_other entry_cmp entry_total (is_of q) (id, order) entries is) ∙ sym (get_lives q entries))

-- ---- an entry ended

-- in a numbered life the last order has the number of its length
ends_last : (n number : ℕ) (outcome : Outcome) (life : Life) → IsNumberedFrom n life → number ≡ n + length life → update_where (λ (order : Order). order.number == number) (with_outcome outcome) life ≡ with_last_ended outcome life
ends_last n number outcome [] h is = refl
ends_last n number outcome (order ∷ []) h is = rw (same_number_is order.number number (omega (arith, h.0, is))) refl
ends_last n number outcome (order ∷ next ∷ later) h is =
    rw (other_number order.number number (omega (arith, h.0, is))) (ap (λ life. order ∷ life) (ends_last (n + 1) number outcome (next ∷ later) h.1 (omega (arith, is))))

-- of entries of one instance the orders alone are looked at
ends_orders : (id : List ℕ) (number : ℕ) (outcome : Outcome) (entries : List Entry)
    → map (λ (e : Entry). e.1) (update_where (is_keyed id number) (entry_ended outcome) (filter (is_of id) entries)) ≡ update_where (λ (order : Order). order.number == number) (with_outcome outcome) (life_in id entries)
ends_orders id number outcome [] = refl
ends_orders id number outcome (entry ∷ entries) = go (is_of id entry) refl (entry.1.number == number) refl (ends_orders id number outcome entries)
  where
    rest : List Entry
    rest = filter (is_of id) entries

    go : (b : Bool) → is_of id entry ≡ b → (c : Bool) → (entry.1.number == number) ≡ c → map (λ (e : Entry). e.1) (update_where (is_keyed id number) (entry_ended outcome) rest) ≡ update_where (λ (order : Order). order.number == number) (with_outcome outcome) (life_in id entries)
        → map (λ (e : Entry). e.1) (update_where (is_keyed id number) (entry_ended outcome) (cond b (entry ∷ rest) rest)) ≡ update_where (λ (order : Order). order.number == number) (with_outcome outcome) (map (λ (e : Entry). e.1) (cond b (entry ∷ rest) rest))
    go true is true hit more = rw (is, hit) (ap (λ l. with_outcome outcome entry.1 ∷ l) more)
    go true is false hit more = rw (is, hit) (ap (λ l. entry.1 ∷ l) more)
    go false is c hit more = more

-- entries of other instances have other keys
ends_none : (id q : List ℕ) (number : ℕ) (outcome : Outcome) → bytes_eq id q ≡ false → (entries : List Entry) → update_where (is_keyed id number) (entry_ended outcome) (filter (is_of q) entries) ≡ filter (is_of q) entries
ends_none id q number outcome other [] = refl
ends_none id q number outcome other (entry ∷ entries) = go (is_of q entry) refl (ends_none id q number outcome other entries)
  where
    misses : is_of q entry ≡ true → is_of id entry ≡ false
    misses is = ap (λ text. bytes_eq text id) (same_bytes entry.0 q is) ∙ bytes_back id q other

    go : (b : Bool) → is_of q entry ≡ b → update_where (is_keyed id number) (entry_ended outcome) (filter (is_of q) entries) ≡ filter (is_of q) entries
        → update_where (is_keyed id number) (entry_ended outcome) (cond b (entry ∷ filter (is_of q) entries) (filter (is_of q) entries)) ≡ cond b (entry ∷ filter (is_of q) entries) (filter (is_of q) entries)
    go true is more = rw (misses is) (ap (λ l. entry ∷ l) more)
    go false is more = more

opened_ended : (outcome : Outcome) (life : Life) → life ≢ [] → opened (with_last_ended outcome life) ≡ Some (with_last_ended outcome life)
opened_ended outcome [] some = absurd (some refl)
opened_ended outcome (order ∷ []) some = refl
opened_ended outcome (order ∷ next ∷ later) some = refl

-- the last order of the instance has the outcome
pub end_lives : (id : List ℕ) (number : ℕ) (outcome : Outcome) (entries : List Entry) → IsNumberedFrom 0 (life_of (lives_in entries) id) → number ≡ length (life_of (lives_in entries) id) → life_of (lives_in entries) id ≢ []
    → lives_in (update_where (is_keyed id number) (entry_ended outcome) entries) ≡ insert (lives_in entries) id (with_last_ended outcome (life_of (lives_in entries) id))
end_lives id number outcome entries up last some = same_lives _ _ (λ q. get_lives q _ ∙ go q (bytes_eq id q) refl ∙ sym (get-insert nat_list_cmp_total (lives_in entries) id (with_last_ended outcome (life_of (lives_in entries) id)) q))
  where
    after : List Entry
    after = update_where (is_keyed id number) (entry_ended outcome) entries

    seen : (q : List ℕ) → filter (is_of q) after ≡ update_where (is_keyed id number) (entry_ended outcome) (filter (is_of q) entries)
    seen q = filter_update (is_of q) (is_keyed id number) (entry_ended outcome) (λ _. refl) entries

    go : (q : List ℕ) (b : Bool) → bytes_eq id q ≡ b → opened (life_in q after) ≡ cond (eq_by_cmp (slice_cmp nat_cmp) q id) (Some (with_last_ended outcome (life_of (lives_in entries) id))) (get (lives_in entries) q)
    go q true is =
        let life : life_in id after ≡ with_last_ended outcome (life_of (lives_in entries) id) =
        ap (map (λ (e : Entry). e.1)) (seen id) ∙ ends_orders id number outcome entries ∙ ap (update_where (λ (order : Order). order.number == number) (with_outcome outcome)) (sym (life_of_lives id entries)) ∙ ends_last 0 number outcome (life_of (lives_in entries) id) up (omega (arith, last)) in
        rw (key_is q id, is) (ap (λ i. opened (life_in i after)) (sym (same_bytes id q is)) ∙ ap opened life ∙ opened_ended outcome _ some)
    go q false is = rw (key_is q id, is) (ap (λ l. opened (map (λ (e : Entry). e.1) l)) (seen q ∙ ends_none id q number outcome is entries) ∙ sym (get_lives q entries))
