-- A trimmed life, read in the words by which lives are read.
use Rattle.std.proofs.Common.{◌≡◌, Bool, true, false, cond, ◌&&◌, ◌||◌, ◌==◌, [], ◌∷◌, ◌++◌, map, length, refl, sym, ◌∙◌, ap, append_assoc}
use Rattle.std.specs.List.{list_any}
use Rattle.std.specs.Option.{option_map_or}
use Rattle.std.proofs.Math.Bool.{or-true}
use Rattle.std.proofs.lemmas.List.{length-map, map-append}
use Rattle.osb_orders.specs.declared.order.OrderKind.{OrderKind}
use Rattle.osb_orders.specs.declared.order.OrderKind.TheVariants.{Create, Update, Delete, Bind, Unbind}
use Rattle.osb_orders.specs.declared.order.OrderState.TheVariants.{Running, Succeeded}
use Rattle.osb_orders.specs.declared.order.Order.{Order}
use Rattle.osb_orders.specs.Lists.{or_else, from_last, last_of}
use Rattle.osb_orders.specs.Orders.{kind_number, is_a, is_now, has_succeeded}
use Rattle.osb_orders.specs.Life.{Life, since_birth}
use Rattle.osb_orders.specs.IsLife.{is_empty, is_absent, ends_running}
use Rattle.osb_orders.proofs.GrowLemmas.{unless}
use Rattle.osb_bare.proofs.ListLemmas.{map_or-map, last_of-map, is_empty-map, any-map, unless-map, from_last-map}
use Rattle.osb_trim.specs.Trimmed.{erased, trimmed}

abbrev pub is_deletion : Order → Bool
is_deletion = has_succeeded Delete

abbrev pub deletes : Life → Bool
deletes life = list_any is_deletion life

-- ---- tests

neither : (one other : Bool) → (one || other) ≡ false → other ≡ false
neither true other e = cc
neither false other e = e

deletes-hit : (before : Life) (order : Order) (after : Life) → is_deletion order ≡ true → deletes (before ++ order ∷ after) ≡ true
deletes-hit [] order after e = ap (λ b. b || deletes after) e
deletes-hit (first ∷ before) order after e = ap (λ b. is_deletion first || b) (deletes-hit before order after e) ∙ or-true (is_deletion first)

deletes-miss : (life : Life) (order : Order) → is_deletion order ≡ false → deletes (life ++ order ∷ []) ≡ deletes life
deletes-miss [] order e = ap (λ b. b || false) e
deletes-miss (first ∷ life) order e = ap (λ b. is_deletion first || b) (deletes-miss life order e)

-- a deletion is no creation
pub not_creation : (order : Order) → is_deletion order ≡ true → is_a Create order ≡ false
not_creation order e = by order.kind (is_now Succeeded order) e
  where
    by : (kind : OrderKind) (succeeded : Bool) → (kind_number kind == 3 && succeeded) ≡ true → (kind_number kind == 1) ≡ false
    by Create succeeded e = cc
    by Update succeeded e = cc
    by Delete succeeded e = refl
    by Bind succeeded e = cc
    by Unbind succeeded e = cc

-- ---- which orders are erased

pub others_stay : (life : Life) → deletes life ≡ false → trimmed life ≡ life
others_stay [] none = refl
others_stay (order ∷ life) none = λ i. cond (none i) (erased order) order ∷ others_stay life (neither (is_deletion order) (deletes life) none) i

deleted_erased : (before after : Life) (deletion : Order) → is_deletion deletion ≡ true → trimmed (before ++ deletion ∷ after) ≡ map erased before ++ erased deletion ∷ trimmed after
deleted_erased [] after deletion e = ap (λ b. cond (b || deletes after) (erased deletion) deletion ∷ trimmed after) e
deleted_erased (order ∷ before) after deletion e = λ i. cond (deletes-hit (order ∷ before) deletion after e i) (erased order) order ∷ deleted_erased before after deletion e i

pub deleted_are_erased : (before after : Life) (deletion : Order) → is_deletion deletion ≡ true → trimmed (before ++ deletion ∷ after) ≡ map erased (before ++ deletion ∷ []) ++ trimmed after
deleted_are_erased before after deletion e =
    deleted_erased before after deletion e
    ∙ sym (append_assoc (map erased before) (erased deletion ∷ []) (trimmed after))
    ∙ ap (λ (front : Life). front ++ trimmed after) (sym (map-append erased before (deletion ∷ [])))

-- one order more
pub trimmed-gone : (life : Life) (order : Order) → is_deletion order ≡ true → trimmed (life ++ order ∷ []) ≡ map erased life ++ erased order ∷ []
trimmed-gone life order e = deleted_erased life [] order e

pub trimmed-push : (life : Life) (order : Order) → is_deletion order ≡ false → trimmed (life ++ order ∷ []) ≡ trimmed life ++ order ∷ []
trimmed-push [] order e = ap (λ b. cond (b || false) (erased order) order ∷ []) e
trimmed-push (first ∷ life) order e = λ i. cond (deletes-miss (first ∷ life) order e i) (erased first) first ∷ trimmed-push life order e i

-- ---- what stays: all that doesn't look at attributes

pub erased-again : (gone : Bool) (order : Order) → erased (cond gone (erased order) order) ≡ erased order
erased-again true order = refl
erased-again false order = refl

-- trimmed or not, a life with all its orders erased is the same
pub erased-trimmed : (life : Life) → map erased (trimmed life) ≡ map erased life
erased-trimmed [] = refl
erased-trimmed (order ∷ life) = λ i. erased-again (deletes (order ∷ life)) order i ∷ erased-trimmed life i

-- what is read off it is the same where erasing all orders doesn't change that
pub same_read : {A : Type 0} (read : Life → A) → ((life : Life) → read (map erased life) ≡ read life) → (life other : Life) → map erased life ≡ map erased other → read life ≡ read other
same_read read blind life other same = sym (blind life) ∙ ap read same ∙ blind other

pub deletes-trimmed : (life : Life) → deletes (trimmed life) ≡ deletes life
deletes-trimmed life = same_read deletes (any-map erased is_deletion) (trimmed life) life (erased-trimmed life)

pub length-erased : (life : Life) → length (map erased life) ≡ length life
length-erased life = length-map life erased

pub runs-erased : (life : Life) → ends_running (map erased life) ≡ ends_running life
runs-erased life = ap (λ last. option_map_or (is_now Running) last false) (last_of-map erased life) ∙ map_or-map erased (is_now Running) (last_of life) false

birth-erased : (life : Life) → since_birth (map erased life) ≡ map erased (since_birth life)
birth-erased life = ap (unless is_deletion) (from_last-map erased (is_a Create) life) ∙ unless-map erased is_deletion (from_last (is_a Create) life)

pub absent-erased : (life : Life) → is_absent (map erased life) ≡ is_absent life
absent-erased life = ap is_empty (birth-erased life) ∙ is_empty-map erased (since_birth life)

-- ---- once

once : (gone : Bool) (order : Order) → cond gone (erased (cond gone (erased order) order)) (cond gone (erased order) order) ≡ cond gone (erased order) order
once true order = refl
once false order = refl

pub trimmed_stays : (life : Life) → trimmed (trimmed life) ≡ trimmed life
trimmed_stays [] = refl
trimmed_stays (order ∷ life) =
    let gone : Bool = deletes (order ∷ life) in
    let first : Order = cond gone (erased order) order in
    ap (λ b. cond b (erased first) first ∷ trimmed (trimmed life)) (deletes-trimmed (order ∷ life)) ∙ (λ i. once gone order i ∷ trimmed_stays life i)

-- ---- the present birth

-- a creation is one, erased or not
creates-trimmed : (gone : Bool) (order : Order) → is_a Create (cond gone (erased order) order) ≡ is_a Create order
creates-trimmed true order = refl
creates-trimmed false order = refl

or_else-trimmed : (life others : Life) → or_else (trimmed life) (trimmed others) ≡ trimmed (or_else life others)
or_else-trimmed [] others = refl
or_else-trimmed (order ∷ life) others = refl

cond-trimmed : (here : Bool) (life : Life) → cond here (trimmed life) [] ≡ trimmed (cond here life [])
cond-trimmed true life = refl
cond-trimmed false life = refl

from_create-trimmed : (life : Life) → from_last (is_a Create) (trimmed life) ≡ trimmed (from_last (is_a Create) life)
from_create-trimmed [] = refl
from_create-trimmed (order ∷ life) =
    (λ i. or_else (from_create-trimmed life i) (cond (creates-trimmed (deletes (order ∷ life)) order i) (trimmed (order ∷ life)) []))
    ∙ ap (or_else (trimmed (from_last (is_a Create) life))) (cond-trimmed (is_a Create order) (order ∷ life))
    ∙ or_else-trimmed (from_last (is_a Create) life) (cond (is_a Create order) (order ∷ life) [])

unless-trimmed : (life : Life) → unless is_deletion (trimmed life) ≡ unless is_deletion life
unless-trimmed life = ap (λ b. cond b [] (trimmed life)) (deletes-trimmed life) ∙ by (deletes life) refl
  where
    by : (gone : Bool) → deletes life ≡ gone → cond gone [] (trimmed life) ≡ cond gone [] life
    by true e = refl
    by false e = others_stay life e

-- the orders since the birth are never erased
pub birth-trimmed : (life : Life) → since_birth (trimmed life) ≡ since_birth life
birth-trimmed life = ap (unless is_deletion) (from_create-trimmed life) ∙ unless-trimmed (from_last (is_a Create) life)
