-- The laws of one life, for the lives of all instances.
use Rattle.std.proofs.Common.{◌≡◌, ℕ, suc, ◌+◌, ◌<◌, ◌≤◌, true, false, cond, List, [], ◌∷◌, ◌++◌, length, Option, None, Some, refl, sym, ◌∙◌, ap, subst, inl, inr, arith}
use Rattle.std.specs.Prelude.{unwrap_or, IfSome, ◌≢◌}
use Rattle.std.specs.List.{AllByRecursion}
use Rattle.std.specs.declared.cmp.Ordering.{Ordering}
use Rattle.std.specs.declared.cmp.Ordering.TheVariants.{Less, Equal, Greater}
use Rattle.std.specs.Ordering.{nat_cmp, is_eq, eq_by_cmp}
use Rattle.std.specs.Cmp.Lexicographic.{slice_cmp, nat_list_cmp_total}
use Rattle.std.specs.Cmp.{eq_by_cmp_equiv}
use Rattle.std.specs.FinMap.{get, get-empty, insert, get-insert, slice_cmp-IsAntisymmetric, nat_cmp-IsAntisymmetric}
use Rattle.osb_text.specs.Id.{is_id}
use Rattle.osb_catalog.specs.Rules.{Rules}
use Rattle.osb_catalog.specs.Sound.{AreSound}
use Rattle.osb_asks.specs.declared.ask.Ask.{Ask}
use Rattle.osb_asks.specs.declared.ask.Ask.TheVariants as the
use Rattle.osb_asks.specs.ValidTexts as asks
use Rattle.osb_orders.specs.declared.order.Order.{Order}
use Rattle.osb_orders.specs.declared.order.Outcome.{Outcome}
use Rattle.osb_orders.specs.declared.order.Change.{Change}
use Rattle.osb_orders.specs.declared.order.Change.TheVariants.{Nothing, Append, Finish}
use Rattle.osb_orders.specs.Life.{Life}
use Rattle.osb_orders.specs.Lives.{Lives, life_of, named_life}
use Rattle.osb_asks.specs.Subjects.{instance_id_of}
use Rattle.osb_orders.specs.Listing.{listing_for}
use Rattle.osb_orders.specs.ViewData.{view_data_of}
use Rattle.osb_orders.specs.Changed.{changed, with_last_ended, lives_changed, after_change}
use Rattle.osb_orders.specs.IsLife.{IsLife, HasValidTexts, IsInstance, IsLives}
use Rattle.osb_orders.specs.Allowed.{IsFinishable, IsAllowed}
use Rattle.osb_machine.specs.Answer.{answer}
use Rattle.osb_machine.specs.Machine.{answer_to, after_step}
use Rattle.osb_laws.specs.Exclusive.{LifeSteps, ChangesKeepLives, NoLivesAreWellFormed, StepsAreAllowed, StepsKeepLives, LivesStep}
use Rattle.osb_laws.specs.AskedAgain.{AskedAgainStays}
use Rattle.osb_laws.specs.Apart.{AnsweredByOneLife, OthersStay, UnnamedStay}
use Rattle.osb_orders.proofs.GrowLemmas.{choose}
use Rattle.osb_laws.proofs.LifeLemmas.{length-push, life_push, life_ended}
use Rattle.osb_laws.proofs.StepLemmas.{change_of, IsStep, steps_allowed}
use Rattle.osb_laws.proofs.AgainLemmas.{again_all}
use Rattle.osb_laws.proofs.WordLemmas.{ChangeHasValidTexts, rules_valid_texts, steps_valid_texts}

-- One life

within : (n limit : ℕ) → n < limit → limit ≤ 1000000 → n < 1000000
within n limit h k = omega (arith)

allowed_of : (rules : Rules) (life : Life) (c : Change) → AreSound rules → IsStep rules life c → ChangeHasValidTexts c → IsAllowed life c
allowed_of rules life Nothing sound step words = tt
allowed_of rules life (Append order) sound step words = record { room = within (length life) rules.order_limit step.1 sound.most_orders; next = step.0; texts = words }
allowed_of rules life (Finish number outcome) sound step words = record { runs = step.0; last = step.1; ends = step.2; credentials = words }

allowed_by : (rules : Rules) (life : Life) (listing : List (List ℕ × Order)) (a : Ask) → AreSound rules → IsLife life → asks.AskHasValidTexts a → IsAllowed life (change_of rules life listing a)
allowed_by rules life listing a sound h words = allowed_of rules life _ sound (steps_allowed rules life listing a h.orders) (steps_valid_texts rules life listing a h.texts (rules_valid_texts rules sound) words)

all-push : {A : Type 0} (P : A → Type 0) (xs : List A) (y : A) → AllByRecursion P xs → P y → AllByRecursion P (xs ++ y ∷ [])
all-push P [] y h p = (p, tt)
all-push P (x ∷ xs) y h p = (h.0, all-push P xs y h.1 p)

pub ended_length : (outcome : Outcome) (life : Life) → length (with_last_ended outcome life) ≡ length life
ended_length outcome [] = refl
ended_length outcome (o ∷ []) = refl
ended_length outcome (o ∷ p ∷ os) = ap suc (ended_length outcome (p ∷ os))

ended_texts : (outcome : Outcome) (life : Life) (c : _) → AllByRecursion HasValidTexts life → IsFinishable life c outcome → AllByRecursion HasValidTexts (with_last_ended outcome life)
ended_texts outcome life c h f = texts life h
  where
    texts : (life : Life) → AllByRecursion HasValidTexts life → AllByRecursion HasValidTexts (with_last_ended outcome life)
    texts [] h = tt
    texts (o ∷ []) h = (record { texts = h.0.texts; credentials = f.credentials }, tt)
    texts (o ∷ p ∷ os) h = (h.0, texts (p ∷ os) h.1)

-- a change that may be made gives a well-formed life
kept_life : (life : Life) (c : Change) → IsLife life → IsAllowed life c → IsLife (changed c life)
kept_life life Nothing h a = h
kept_life life (Append order) h a = record {
  count = subst (λ n. n ≤ 1000000) (sym (length-push life order)) (fits (length life) a.room);
  orders = life_push [] life order h.orders a.next;
  texts = all-push HasValidTexts life order h.texts a.texts;
}
  where
    fits : (n : ℕ) → n < 1000000 → n + 1 ≤ 1000000
    fits n h = omega (arith)
kept_life life (Finish number outcome) h a = record {
  count = subst (λ n. n ≤ 1000000) (sym (ended_length outcome life)) h.count;
  orders = life_ended [] life outcome h.orders;
  texts = ended_texts outcome life number h.texts a;
}

steps_of : (life : Life) (c : Change) → IsAllowed life c → LifeSteps life (changed c life)
steps_of life Nothing a = inl refl
steps_of life (Append order) a = inr (inl (record { order = order; ended = a.next.ended; more = refl }))
steps_of life (Finish number outcome) a = inr (inr (record { outcome = outcome; runs = a.runs; ends = a.ends; ended = refl }))

push_is_some : {A : Type 0} (xs : List A) (y : A) → xs ++ y ∷ [] ≢ []
push_is_some [] y = λ e. cc
push_is_some (x ∷ xs) y = λ e. cc

-- All lives

equal_of : (o : Ordering) → is_eq o ≡ true → o ≡ Equal
equal_of Less e = cc
equal_of Equal e = refl
equal_of Greater e = cc

same_id : (a b : List ℕ) → eq_by_cmp (slice_cmp nat_cmp) a b ≡ true → a ≡ b
same_id a b e = slice_cmp-IsAntisymmetric nat_cmp-IsAntisymmetric a b (equal_of (slice_cmp nat_cmp a b) e)

-- what is found at an id, after a life was put in at an id
get-put : (P : Option Life → Type 0) (lives : Lives) (at id : List ℕ) (life : Life) → (id ≡ at → P (Some life)) → P (get lives id) → P (get (insert lives at life) id)
get-put P lives at id life here there =
    subst P (sym (get-insert nat_list_cmp_total lives at life id))
    (choose P (eq_by_cmp (slice_cmp nat_cmp) id at) (Some life) (get lives id) (λ e. here (same_id id at e)) (λ _. there))

life_of-put : (P : Life → Type 0) (lives : Lives) (at id : List ℕ) (life : Life) → (id ≡ at → P life) → P (life_of lives id) → P (life_of (insert lives at life) id)
life_of-put P lives at id life here there = get-put (λ found. P (unwrap_or found [])) lives at id life here there

no_orders : IsLife []
no_orders = record { count = omega (arith); orders = tt; texts = tt }

life_found : (id : List ℕ) (found : Option Life) → IfSome found (IsInstance id) → IsLife (unwrap_or found [])
life_found id None h = no_orders
life_found id (Some life) h = h.life

pub life_at : (lives : Lives) (id : List ℕ) → IsLives lives → IsLife (life_of lives id)
life_at lives id h = life_found id (get lives id) (h id)

named_at : (lives : Lives) (at : Option (List ℕ)) → IsLives lives → IsLife (named_life lives at)
named_at lives None h = no_orders
named_at lives (Some id) h = life_at lives id h

-- the instance that an ask names has an id text
named_words : (a : Ask) → asks.AskHasValidTexts a → IfSome (instance_id_of a) (λ id. is_id id ≡ true)
named_words the.Catalog h = tt
named_words (the.Provision a) h = h.0
named_words (the.Fetch a) h = h
named_words (the.Update a) h = h.0
named_words (the.Deprovision a) h = h.0
named_words (the.InstanceOp a) h = h
named_words (the.Bind a) h = h.0
named_words (the.FetchBinding a) h = h.0
named_words (the.Unbind a) h = h.0
named_words (the.BindingOp a) h = h.0
named_words (the.Orders a) h = tt
named_words (the.Report a) h = h.0

put_kept : (lives : Lives) (at : List ℕ) (life : Life) → IsLives lives → is_id at ≡ true → life ≢ [] → IsLife life → IsLives (insert lives at life)
put_kept lives at life h word opened ok id =
    get-put (λ found. IfSome found (IsInstance id)) lives at id life
    (λ e. record { id = subst (λ i. is_id i ≡ true) (sym e) word; opened = opened; life = ok })
    (h id)

runs_not_empty : (life : Life) (number : ℕ) (outcome : Outcome) → IsFinishable life number outcome → with_last_ended outcome life ≢ []
runs_not_empty [] number outcome f = let e : false ≡ true = f.runs in cc
runs_not_empty (o ∷ []) number outcome f = λ e. cc
runs_not_empty (o ∷ p ∷ os) number outcome f = λ e. cc

kept_change : (lives : Lives) (c : Change) (at : Option (List ℕ)) → IsLives lives → IfSome at (λ id. is_id id ≡ true) → IsAllowed (named_life lives at) c → IsLives (after_change c lives at)
kept_change lives c None h word a = h
kept_change lives Nothing (Some at) h word a = h
kept_change lives (Append o) (Some at) h word a = put_kept lives at _ h word (push_is_some (life_of lives at) o) (kept_life (life_of lives at) (Append o) (life_at lives at h) a)
kept_change lives (Finish number outcome) (Some at) h word a = put_kept lives at _ h word (runs_not_empty (life_of lives at) number outcome a) (kept_life (life_of lives at) (Finish number outcome) (life_at lives at h) a)

pub changes_keep_lives : ChangesKeepLives
changes_keep_lives lives c id h word a = kept_change lives c (Some id) h word a

pub no_lives : NoLivesAreWellFormed
no_lives id = subst (λ (found : Option Life). IfSome found (IsInstance id)) (sym (get-empty (slice_cmp nat_cmp) id)) tt

stepped : (lives : Lives) (c : Change) (at id : List ℕ) → LifeSteps (life_of lives at) (changed c (life_of lives at)) → LifeSteps (life_of lives id) (life_of (insert lives at (changed c (life_of lives at))) id)
stepped lives c at id h =
    life_of-put (LifeSteps (life_of lives id)) lives at id (changed c (life_of lives at))
    (λ e. subst (λ (i : List ℕ). LifeSteps (life_of lives i) (changed c (life_of lives at))) (sym e) h) (inl refl)

stepped_change : (lives : Lives) (c : Change) (at : Option (List ℕ)) (id : List ℕ) → IsAllowed (named_life lives at) c → LifeSteps (life_of lives id) (life_of (after_change c lives at) id)
stepped_change lives c None id a = inl refl
stepped_change lives Nothing (Some at) id a = inl refl
stepped_change lives (Append o) (Some at) id a = stepped lives (Append o) at id (steps_of (life_of lives at) (Append o) a)
stepped_change lives (Finish number outcome) (Some at) id a = stepped lives (Finish number outcome) at id (steps_of (life_of lives at) (Finish number outcome) a)

pub steps_are_allowed : StepsAreAllowed
steps_are_allowed rules lives a sound h words = allowed_by rules (named_life lives (instance_id_of a)) (listing_for lives a) a sound (named_at lives (instance_id_of a) h) words

pub steps_keep_lives : StepsKeepLives
steps_keep_lives rules lives a sound h words = kept_change lives (answer_to rules lives a).change (instance_id_of a) h (named_words a words) (steps_are_allowed rules lives a sound h words)

pub lives_step : LivesStep
lives_step rules lives a sound h words id = stepped_change lives (answer_to rules lives a).change (instance_id_of a) id (steps_are_allowed rules lives a sound h words)

-- Asked again

pub got : (lives : Lives) (id : List ℕ) (life : Life) → life_of (insert lives id life) id ≡ life
got lives id life = ap (λ (found : Option Life). unwrap_or found []) (get-insert nat_list_cmp_total lives id life id ∙ ap (λ b. cond b (Some life) (get lives id)) ((eq_by_cmp_equiv nat_list_cmp_total).refl id))

nothing_changes : (life : Life) (c : Change) → c ≡ Nothing → [] ≡ changed c []
nothing_changes life c e = ap (λ (c : Change). changed c []) (sym e)

named_after : (lives : Lives) (c : Change) (at : Option (List ℕ)) → (at ≡ None → c ≡ Nothing) → named_life (after_change c lives at) at ≡ changed c (named_life lives at)
named_after lives c None quiet = nothing_changes [] c (quiet refl)
named_after lives Nothing (Some id) quiet = refl
named_after lives (Append o) (Some id) quiet = got lives id _
named_after lives (Finish number outcome) (Some id) quiet = got lives id _

unnamed_quiet : (rules : Rules) (lives : Lives) (a : Ask) → instance_id_of a ≡ None → (answer_to rules lives a).change ≡ Nothing
unnamed_quiet rules lives the.Catalog e = refl
unnamed_quiet rules lives (the.Orders a) e = refl
unnamed_quiet rules lives (the.Provision a) e = cc
unnamed_quiet rules lives (the.Fetch a) e = cc
unnamed_quiet rules lives (the.Update a) e = cc
unnamed_quiet rules lives (the.Deprovision a) e = cc
unnamed_quiet rules lives (the.InstanceOp a) e = cc
unnamed_quiet rules lives (the.Bind a) e = cc
unnamed_quiet rules lives (the.FetchBinding a) e = cc
unnamed_quiet rules lives (the.Unbind a) e = cc
unnamed_quiet rules lives (the.BindingOp a) e = cc
unnamed_quiet rules lives (the.Report a) e = cc

quiet_at : (lives : Lives) (at : Option (List ℕ)) → after_change Nothing lives at ≡ lives
quiet_at lives None = refl
quiet_at lives (Some id) = refl

pub quiet_step : (c : Change) (lives : Lives) (at : Option (List ℕ)) → c ≡ Nothing → after_change c lives at ≡ lives
quiet_step c lives at e = ap (λ (c : Change). after_change c lives at) e ∙ quiet_at lives at

pub again_stays : AskedAgainStays
again_stays rules lives a h =
    let at = instance_id_of a in
    let c = (answer_to rules lives a).change in
    let next : Lives = after_step rules lives a in
    let settled = again_all rules (named_life lives at) (listing_for lives a) (listing_for next a) a (named_at lives at h).orders in
    quiet_step _ next at (ap (λ (life : Life). change_of rules life (listing_for next a) a) (named_after lives c at (unnamed_quiet rules lives a)) ∙ settled)

-- Instances are apart.

listing_apart : (a : Ask) (x y : Lives) (id : List ℕ) → instance_id_of a ≡ Some id → listing_for x a ≡ listing_for y a
listing_apart the.Catalog x y id e = refl
listing_apart (the.Orders a) x y id e = cc
listing_apart (the.Provision a) x y id e = refl
listing_apart (the.Fetch a) x y id e = refl
listing_apart (the.Update a) x y id e = refl
listing_apart (the.Deprovision a) x y id e = refl
listing_apart (the.InstanceOp a) x y id e = refl
listing_apart (the.Bind a) x y id e = refl
listing_apart (the.FetchBinding a) x y id e = refl
listing_apart (the.Unbind a) x y id e = refl
listing_apart (the.BindingOp a) x y id e = refl
listing_apart (the.Report a) x y id e = refl

pub answers_apart : AnsweredByOneLife
answers_apart rules lives others a id e same =
    let life : named_life lives (instance_id_of a) ≡ named_life others (instance_id_of a) = ap (named_life lives) e ∙ same ∙ sym (ap (named_life others) e) in
    ap (λ (l : Life). answer rules (view_data_of l (listing_for lives a) a) a) life
    ∙ ap (λ (listing : List (List ℕ × Order)). answer rules (view_data_of (named_life others (instance_id_of a)) listing a) a) (listing_apart a lives others id e)

changed_at : (lives : Lives) (c : Change) (id : List ℕ) → life_of (lives_changed c id lives) id ≡ changed c (life_of lives id)
changed_at lives Nothing id = refl
changed_at lives (Append o) id = got lives id _
changed_at lives (Finish number outcome) id = got lives id _

-- the life that an ask names, after its step
pub step_at : (rules : Rules) (lives : Lives) (a : Ask) (id : List ℕ) → instance_id_of a ≡ Some id → life_of (after_step rules lives a) id ≡ changed (answer_to rules lives a).change (life_of lives id)
step_at rules lives a id e = ap (λ at. life_of (after_change (answer_to rules lives a).change lives at) id) e ∙ changed_at lives (answer_to rules lives a).change id

-- two maps with one life for the instance have one life for it after the step
pub one_life : (rules : Rules) (lives others : Lives) (a : Ask) (id : List ℕ) → instance_id_of a ≡ Some id → life_of lives id ≡ life_of others id → life_of (after_step rules lives a) id ≡ life_of (after_step rules others a) id
one_life rules lives others a id e same =
    step_at rules lives a id e
    ∙ ap (λ c. changed c (life_of lives id)) (ap (λ r. r.change) (answers_apart rules lives others a id e same))
    ∙ ap (changed (answer_to rules others a).change) same
    ∙ sym (step_at rules others a id e)

stays_put : (lives : Lives) (at id : List ℕ) (life : Life) → id ≢ at → life_of (insert lives at life) id ≡ life_of lives id
stays_put lives at id life differ = life_of-put (λ (l : Life). l ≡ life_of lives id) lives at id life (λ e. absurd (differ e)) refl

others_stay_by : (lives : Lives) (c : Change) (at id : List ℕ) → id ≢ at → life_of (after_change c lives (Some at)) id ≡ life_of lives id
others_stay_by lives Nothing at id differ = refl
others_stay_by lives (Append o) at id differ = stays_put lives at id _ differ
others_stay_by lives (Finish number outcome) at id differ = stays_put lives at id _ differ

pub others_stay : OthersStay
others_stay rules lives a id other e differ = ap (λ (at : Option (List ℕ)). life_of (after_change (answer_to rules lives a).change lives at) other) e ∙ others_stay_by lives (answer_to rules lives a).change id other differ

pub unnamed_stay : UnnamedStay
unnamed_stay rules lives a e = ap (after_change (answer_to rules lives a).change lives) e
