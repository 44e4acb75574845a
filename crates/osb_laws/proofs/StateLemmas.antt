-- The body of a poll says one state.
use Rattle.std.proofs.Common.{◌≡◌, ℕ, false, bytes_eq, ◌==◌, List, ◌++◌, length, drop, codes, refl, sym, ap, ◌∙◌, append_assoc, length-append, arith}
use Rattle.std.proofs.lemmas.Bool.{true≢false}
use Rattle.std.proofs.lemmas.Slice.Eq.{bytes_eq-Decides}
use Rattle.std.proofs.Math.Seq.{drop-append_seam}
use Rattle.json.specs.Print.{quoted}
use Rattle.osb_orders.specs.declared.order.Outcome.{Outcome}
use Rattle.osb_orders.specs.declared.order.OrderState.{OrderState}
use Rattle.osb_orders.specs.declared.order.OrderState.TheVariants.{Running, Succeeded, Failed}
use Rattle.osb_orders.specs.Orders.{state_text}
use Rattle.osb_machine.specs.Texts.{state_body}
use Rattle.osb_machine.specs.Spliced.{state_pieces}
use Rattle.osb_machine.proofs.BodyLemmas.{state_is}
use Rattle.osb_orders.proofs.GrowLemmas.{choose}

abbrev begin : OrderState → List ℕ
begin Running = codes "in progr"
begin Succeeded = codes "succee"
begin Failed = codes "fai"

abbrev ending : OrderState → List ℕ
ending Running = codes "ess\"}"
ending Succeeded = codes "ded\"}"
ending Failed = codes "led\"}"

record Ends (text : List ℕ) (s : OrderState) : Type 0 where
  front : List ℕ
  is : text ≡ front ++ ending s

behind : (piece rest : List ℕ) (s : OrderState) → Ends rest s → Ends (piece ++ rest) s
behind piece rest s e = record { front = piece ++ e.front; is = ap (λ (l : List ℕ). piece ++ l) e.is ∙ sym (append_assoc piece e.front (ending s)) }

tail : (s : OrderState) → Ends (state_text s ++ codes "\"}") s
tail Running = record { front = begin Running; is = refl }
tail Succeeded = record { front = begin Succeeded; is = refl }
tail Failed = record { front = begin Failed; is = refl }

body_ends : (o : Outcome) → Ends (state_pieces o) o.state
body_ends o =
    choose (λ (t : List ℕ). Ends t o.state) (length o.description == 0) _ _
    (λ _. behind (codes "{\"state\":\"") _ o.state (tail o.state))
    (λ _. behind (codes "{\"description\":") _ o.state (behind (quoted o.description) _ o.state (behind (codes ",\"state\":\"") _ o.state (tail o.state))))

same_ending : (xs ys a b : List ℕ) → xs ++ a ≡ ys ++ b → length a ≡ length b → a ≡ b
same_ending xs ys a b e long =
    let same : length xs ≡ length ys = omega (arith, length-append xs a, length-append ys b, ap length e, long) in
    sym (drop-append_seam xs a) ∙ ap (drop (length xs)) e ∙ ap (λ n. drop n (ys ++ b)) same ∙ drop-append_seam ys b

five : (s : OrderState) → length (ending s) ≡ 5
five Running = refl
five Succeeded = refl
five Failed = refl

-- texts that a test tells apart
apart : (a b : List ℕ) → a ≡ b → bytes_eq a b ≡ false → ⊥
apart a b e no_match = true≢false (sym ((bytes_eq-Decides a b).1 e) ∙ no_match)

state_of_ending : (s t : OrderState) → ending s ≡ ending t → s ≡ t
state_of_ending Running Running e = refl
state_of_ending Succeeded Succeeded e = refl
state_of_ending Failed Failed e = refl
state_of_ending Running Succeeded e = absurd (apart (ending Running) (ending Succeeded) e refl)
state_of_ending Running Failed e = absurd (apart (ending Running) (ending Failed) e refl)
state_of_ending Succeeded Running e = absurd (apart (ending Succeeded) (ending Running) e refl)
state_of_ending Succeeded Failed e = absurd (apart (ending Succeeded) (ending Failed) e refl)
state_of_ending Failed Running e = absurd (apart (ending Failed) (ending Running) e refl)
state_of_ending Failed Succeeded e = absurd (apart (ending Failed) (ending Succeeded) e refl)

pub states_show : (one other : Outcome) → state_body one ≡ state_body other → one.state ≡ other.state
states_show one other same =
    let a = body_ends one in
    let b = body_ends other in
    state_of_ending one.state other.state (same_ending a.front b.front (ending one.state) (ending other.state) (sym a.is ∙ state_is one ∙ same ∙ sym (state_is other) ∙ b.is) (five one.state ∙ sym (five other.state)))
