-- What the definitions of statuses, polls and reports say of short lives, computed.
use Rattle.std.proofs.Common.{◌≡◌, ℕ, ◌==◌, Bool, true, false, [], ◌∷◌, None, Some, codes, refl, ap, ◌∙◌, inl, inr}
use Rattle.std.specs.Option.{option_map_or}
use Rattle.std.specs.Fmt.{digits}
use Rattle.std.proofs.lemmas.Bool.{true≢false}
use Rattle.std.proofs.Common.{bytes_eq, take}
use Rattle.json.specs.Print.{escape_byte}
use Rattle.serde_json.specs.Data.{null, string, object, Members, no_members, member}
use Rattle.osb_text.specs.Order.{IsInByteOrder}
use Rattle.osb_replies.specs.declared.status.Status.TheVariants.{Created, Accepted, Ok, Gone, Conflict}
use Rattle.osb_asks.specs.declared.ask.Report.{Report}
use Rattle.osb_asks.specs.declared.ask.ReportState.TheVariants as said
use Rattle.osb_asks.specs.declared.ask.Ask.TheVariants as the
use Rattle.osb_orders.specs.declared.order.OrderKind.{OrderKind}
use Rattle.osb_orders.specs.declared.order.OrderKind.TheVariants.{Create, Update, Delete}
use Rattle.osb_orders.specs.declared.order.OrderState.{OrderState}
use Rattle.osb_orders.specs.declared.order.OrderState.TheVariants.{Running, Succeeded, Failed}
use Rattle.osb_orders.specs.declared.order.Attributes.{Attributes}
use Rattle.osb_orders.specs.declared.order.Outcome.{Outcome}
use Rattle.osb_orders.specs.declared.order.Order.{Order}
use Rattle.osb_orders.specs.declared.order.Change.TheVariants.{Nothing, Append, Finish}
use Rattle.osb_orders.specs.Orders.{is_now, state_number}
use Rattle.osb_orders.specs.Lists.{last_of}
use Rattle.osb_orders.specs.Life.{Life}
use Rattle.osb_machine.specs.Texts.{state_body}
use Rattle.osb_laws.specs.Statuses.{StatusSays, is_success, polled_of, PollSays}
use Rattle.osb_laws.specs.Reported.{ReportsSuccess, IsOnce}
use Rattle.osb_laws.specs.Bodies.{IsObjectBody}

abbrev nothing : Attributes
nothing = record { service = []; plan = []; place = []; spot = []; parameters = []; maintenance = []; context = [] }

abbrev ended : OrderState → Outcome
ended state = record { state = state; description = []; credentials = [] }

abbrev order : ℕ → OrderKind → OrderState → Order
order number kind state = record { number = number; kind = kind; binding = []; attributes = nothing; outcome = ended state }

abbrev creating : Order
creating = order 1 Create Running

abbrev created : Order
created = order 1 Create Succeeded

-- ---- statuses

-- 201 of a creation that was carried out at once
made_at_once : StatusSays [] Created (codes "{}") (Append created)
made_at_once = (created, (refl, refl), refl)

-- not of one that runs
runs_still : StatusSays [] Created (codes "{}") (Append creating) → ⊥
runs_still (it, (is, succeeded), made) = let same : it ≡ creating = cc in let none : true ≡ false = cc in cc

-- 202 of an order that was opened now, and of one that ran before
opened_now : StatusSays [] Accepted (codes "{\"operation\":\"create-1\"}") (Append creating)
unfolding digits
opened_now = (creating, refl, refl, refl)

ran_before : StatusSays (creating ∷ []) Accepted (codes "{\"operation\":\"create-1\"}") Nothing
unfolding digits
ran_before = (creating, refl, refl, refl)

-- 200 of a report
reported : StatusSays (creating ∷ []) Ok (codes "{}") (Finish 1 (ended Succeeded))
reported = inr (inr (1, ended Succeeded, refl))

-- 409 opens nothing
opens_nothing : StatusSays (created ∷ []) Conflict (codes "{}") (Append (order 2 Update Succeeded)) → ⊥
opens_nothing e = cc

accepted_is_success : is_success Accepted ≡ true
accepted_is_success = refl

conflict_is_none : is_success Conflict ≡ false
conflict_is_none = refl

-- ---- polls

-- an instance that was deleted and made again
abbrev made_again : Life
made_again = created ∷ order 2 Delete Succeeded ∷ order 3 Create Running ∷ []

polls_the_last : polled_of None made_again ≡ Some (order 3 Create Running)
polls_the_last = refl

polls_by_name : polled_of (Some (codes "delete-2")) made_again ≡ Some (order 2 Delete Succeeded)
unfolding digits
polls_by_name = refl

-- 410 by the name of the old deletion, though the instance is there
gone_by_name : PollSays Delete (Some (codes "delete-2")) made_again Gone (codes "{}")
unfolding digits
gone_by_name = (order 2 Delete Succeeded, refl, refl)

-- 200 without a name
there_again : PollSays Delete None made_again Ok (codes "{\"state\":\"in progress\"}")
there_again = (order 3 Create Running, refl, refl, refl)

says_failed : state_body (ended Failed) ≡ codes "{\"state\":\"failed\"}"
says_failed = refl

-- ---- reports in between

abbrev report : Report
report = record { instance = codes "i"; number = 1; state = said.Succeeded; description = []; credentials = codes "{}" }

of_the_order : ReportsSuccess (codes "i") 1 (the.Report report)
of_the_order = (refl, refl, refl)

-- the order that was opened, and the same once it has succeeded
once : IsOnce (creating ∷ []) (creating ∷ [])
once = inl refl

once_reported : IsOnce (creating ∷ []) (created ∷ [])
once_reported = inr (ended Succeeded, refl, refl)

-- a second order isn't once
not_twice : IsOnce (creating ∷ []) (created ∷ order 2 Create Running ∷ []) → ⊥
not_twice (inl e) = cc
not_twice (inr (outcome, succeeded, e)) = cc

-- nor is a failure
abbrev ends_failed : Life → Bool
ends_failed life = option_map_or (is_now Failed) (last_of life) false

not_failed : IsOnce (creating ∷ []) (order 1 Create Failed ∷ []) → ⊥
not_failed (inl e) = let bad : true ≡ false = ap ends_failed e in absurd (true≢false bad)
not_failed (inr (outcome, succeeded, e)) =
    let bad : true ≡ false = ap ends_failed e ∙ ap (λ s. state_number s == 2) succeeded in
    absurd (true≢false bad)

-- ---- bodies

-- one with two members
abbrev two_members : Members
two_members = member (codes "description") (string (codes "no \"disk\"")) (member (codes "state") (string (codes "failed")) no_members)

an_object : IsObjectBody (codes "{\"description\":\"no \\\"disk\\\"\",\"state\":\"failed\"}")
unfolding escape_byte
an_object = record { members = two_members; text = refl; ordered = (refl, tt, (tt, tt, tt)); whole = refl }

-- an array is none
no_array : IsObjectBody (codes "[]") → ⊥
no_array body = let first : true ≡ false = ap (λ text. bytes_eq (take 1 text) (codes "[")) body.text in true≢false first

-- a name that comes twice, or before its place
no_name_twice : IsInByteOrder (object (member (codes "state") null (member (codes "state") null no_members))) → ⊥
no_name_twice ordered = cc

no_name_before_its_place : IsInByteOrder (object (member (codes "state") null (member (codes "description") null no_members))) → ⊥
no_name_before_its_place ordered = cc
