-- The order of a name is that of its number.
use Rattle.std.proofs.Common.{◌≡◌, ℕ, ◌+◌, ◌<◌, ◌≤◌, ◌==◌, List, [], ◌∷◌, length, filter, find, bytes_eq, Bool, true, false, cond, ◌&&◌, true≢false, Some, None, Option, refl, sym, ap, subst, ◌∙◌, arith}
use Rattle.std.specs.Prelude.{unwrap_or, IfSome}
use Rattle.std.specs.List.{AllByRecursion}
use Rattle.std.specs.FinMap.{get}
use Rattle.sqlite.specs.State.{State, HasCleanDisk, IsUnchanged, Survives}
use Rattle.sqlite_keyed.proofs.ListLemmas.{all_weaker}
use Rattle.osb_orders.specs.declared.order.Order.{Order}
use Rattle.osb_orders.specs.Orders.{name_of}
use Rattle.osb_orders.specs.Life.{Life}
use Rattle.osb_orders.specs.Lives.{Lives, life_of}
use Rattle.osb_orders.specs.Named.{order_named, order_numbered}
use Rattle.osb_orders.specs.IsLife.{IsInstance, IsLives}
use Rattle.osb_statements.specs.Queries.{AreRecords, ShowsRecords}
use Rattle.osb_statements.specs.Asked.{only}
use Rattle.osb_statements.proofs.LivesLemmas.{IsNumberedFrom, numbered}
use Rattle.osb_joined.proofs.InstanceLemmas.{same_number as equal_number}
use Rattle.osb_contexts.proofs.TestLemmas.{same_nat as same_number, same_bytes}
use Rattle.osb_contexts.proofs.StepLemmas.{clean_before}

-- ---- a query leaves the records

pub unchanged_records : (old new : State) → Survives old new (λ _. ⊥) → ShowsRecords old → HasCleanDisk new → IsUnchanged old new → AreRecords new.now
unchanged_records old new survives shows clean same = subst AreRecords (sym same.0.now_is) (shows (clean_before old new _ survives clean) same.0.was_open)

-- ---- numbers

pub above : (n : ℕ) (life : Life) → IsNumberedFrom n life → AllByRecursion (λ (order : Order). n < order.number) life
above n [] h = tt
above n (order ∷ later) h = (omega (arith, h.0), all_weaker (λ (other : Order). n + 1 < other.number) (λ (other : Order). n < other.number) (λ other low. omega (arith, low)) later (above (n + 1) later h.1))

at_most : (n : ℕ) (life : Life) → IsNumberedFrom n life → AllByRecursion (λ (order : Order). order.number ≤ n + length life) life
at_most n [] h = tt
at_most n (order ∷ later) h = (omega (arith, h.0), all_weaker (λ (other : Order). other.number ≤ n + 1 + length later) (λ (other : Order). other.number ≤ n + length (order ∷ later)) (λ other low. omega (arith, low)) later (at_most (n + 1) later h.1))

few : (lives : Lives) (id : List ℕ) → IsLives lives → length (life_of lives id) ≤ 1000000
few lives id whole = go (get lives id) refl (whole id)
  where
    go : (found : Option Life) → get lives id ≡ found → IfSome found (IsInstance id) → length (life_of lives id) ≤ 1000000
    go None is h = rw is (omega arith)
    go (Some life) is h = rw is h.life.count

-- the numbers of a well-formed life are low
pub low : (lives : Lives) (id : List ℕ) → IsLives lives → AllByRecursion (λ (order : Order). order.number < 4294967296) (life_of lives id)
low lives id whole =
    let count = few lives id whole in
    all_weaker (λ (order : Order). order.number ≤ 0 + length (life_of lives id)) (λ (order : Order). order.number < 4294967296) (λ order most. omega (arith, most, count)) (life_of lives id) (at_most 0 (life_of lives id) (numbered lives id whole))

-- ---- a test that knows the number

find_none : (test : Order → Bool) (life : Life) → AllByRecursion (λ (order : Order). test order ≡ false) life → find test life ≡ None
find_none test [] h = refl
find_none test (order ∷ later) h = rw h.0 (find_none test later h.1)

fails : (test : Order → Bool) (n : ℕ) (order : Order) → (test order ≡ true → order.number ≡ n) → n < order.number → test order ≡ false
fails test n order known high = go (test order) refl
  where
    go : (b : Bool) → test order ≡ b → test order ≡ false
    go true is = absurd (let same = known is in omega (arith, same, high))
    go false is = is

all_fail : (test : Order → Bool) (n : ℕ) (life : Life) → AllByRecursion (λ (order : Order). test order ≡ true → order.number ≡ n) life → AllByRecursion (λ (order : Order). n < order.number) life → AllByRecursion (λ (order : Order). test order ≡ false) life
all_fail test n [] known high = tt
all_fail test n (order ∷ later) known high = (fails test n order known.0 high.0, all_fail test n later known.1 high.1)

-- it finds the order of the number, if that passes
find_numbered : (test : Order → Bool) (n from : ℕ) (life : Life) → IsNumberedFrom from life → AllByRecursion (λ (order : Order). test order ≡ true → order.number ≡ n) life → find test life ≡ only test (order_numbered n life)
find_numbered test n from [] h known = refl
find_numbered test n from (order ∷ later) h known = go (test order) refl (order.number == n) refl (find_numbered test n (from + 1) later h.1 known.1)
  where
    go : (b : Bool) → test order ≡ b → (c : Bool) → (order.number == n) ≡ c → find test later ≡ only test (order_numbered n later) → cond b (Some order) (find test later) ≡ only test (cond c (Some order) (order_numbered n later))
    go true is true same more = rw is refl
    go true is false other more = absurd (true≢false (sym (equal_number order.number n (known.0 is)) ∙ other))
    go false is true same more =
        let number = same_number order.number n same in
        let high = all_weaker (λ (next : Order). from + 1 < next.number) (λ (next : Order). n < next.number) (λ next higher. omega (arith, higher, number, h.0)) later (above (from + 1) later h.1) in
        rw is (find_none test later (all_fail test n later known.1 high))
    go false is false other more = more

find_among : (passes test : Order → Bool) (life : Life) → find test (filter passes life) ≡ find (λ order. passes order && test order) life
find_among passes test [] = refl
find_among passes test (order ∷ later) = go (passes order) (find_among passes test later)
  where
    go : (b : Bool) → find test (filter passes later) ≡ find (λ order. passes order && test order) later → find test (cond b (order ∷ filter passes later) (filter passes later)) ≡ cond (b && test order) (Some order) (find (λ order. passes order && test order) later)
    go true more = ap (λ found. cond (test order) (Some order) found) more
    go false more = more

both : (passes test : Order → Bool) (found : Option Order) → only (λ order. passes order && test order) found ≡ only passes (only test found)
both passes test None = refl
both passes test (Some order) = go (passes order) refl (test order)
  where
    go : (b : Bool) → passes order ≡ b → (c : Bool) → cond (b && c) (Some order) None ≡ only passes (cond c (Some order) None)
    go true is true = rw is refl
    go true is false = refl
    go false is true = rw is refl
    go false is false = refl

-- ---- names

abbrev pub is_named : List ℕ → Order → Bool
is_named name order = bytes_eq (name_of order) name

named_numbers : (name : List ℕ) (told : Option ℕ) → ((order : Order) → order.number < 4294967296 → name_of order ≡ name → told ≡ Some order.number) → (life : Life) → AllByRecursion (λ (order : Order). order.number < 4294967296) life
    → (passes : Order → Bool) → AllByRecursion (λ (order : Order). (passes order && is_named name order) ≡ true → order.number ≡ unwrap_or told 0) life
named_numbers name told tells [] small passes = tt
named_numbers name told tells (order ∷ later) small passes = (λ h. sym (ap (λ found. unwrap_or found 0) (tells order small.0 (same_bytes (name_of order) name (second _ _ h)))), named_numbers name told tells later small.1 passes)
  where
    second : (a b : Bool) → (a && b) ≡ true → b ≡ true
    second true b h = h
    second false b h = absurd (true≢false (sym h))

-- the order of the name, among those that pass
pub named_found : (lives : Lives) (id name : List ℕ) (told : Option ℕ) → IsLives lives → ((order : Order) → order.number < 4294967296 → name_of order ≡ name → told ≡ Some order.number) → (found : Option Order)
    → found ≡ only (is_named name) (order_numbered (unwrap_or told 0) (life_of lives id)) → (passes : Order → Bool) → order_named name (filter passes (life_of lives id)) ≡ only passes found
named_found lives id name told whole tells found is passes =
    find_among passes (is_named name) (life_of lives id)
    ∙ find_numbered (λ order. passes order && is_named name order) (unwrap_or told 0) 0 (life_of lives id) (numbered lives id whole) (named_numbers name told tells (life_of lives id) (low lives id whole) passes)
    ∙ both passes (is_named name) (order_numbered (unwrap_or told 0) (life_of lives id))
    ∙ ap (only passes) (sym is)
