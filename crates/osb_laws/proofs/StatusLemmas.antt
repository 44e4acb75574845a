-- What the status of an answer says, and what a poll says.
use Rattle.std.proofs.Common.{◌≡◌, ℕ, Bool, true, false, not, ◌&&◌, ◌==◌, cond, List, [], ◌∷◌, ◌++◌, filter, Option, None, Some, refl, sym, ap, subst, ◌∙◌, ◌+◌, append_assoc, inl, inr}
use Rattle.std.specs.Prelude.{nat_le, bytes_eq, IfSome}
use Rattle.std.specs.List.{list_any, AllByRecursion}
use Rattle.std.specs.Option.{option_map_or}
use Rattle.std.proofs.lemmas.Bool.{true≢false}
use Rattle.osb_catalog.specs.Rules.{Rules}
use Rattle.osb_orders.specs.declared.order.OrderState.{OrderState}
use Rattle.osb_orders.specs.declared.order.OrderState.TheVariants.{Running, Succeeded, Failed}
use Rattle.osb_orders.specs.Orders.{is_a, is_now, state_number, has_succeeded, is_of_instance, is_of_binding}
use Rattle.osb_orders.specs.Lists.{or_else, from_last, last_from, last_where, last_of}
use Rattle.osb_orders.specs.Life.{Life, since_birth, phase_by, standing_since, standing_of}
use Rattle.osb_orders.specs.Bindings.{since_bind, binding_phase_by, binding_since, binding_of}
use Rattle.osb_orders.specs.IsLife.{ends_running, IsLifeAfter}
use Rattle.osb_machine.specs.Plans.{is_bindable}
use Rattle.osb_machine.specs.Same.{are_same}
use Rattle.osb_asks.specs.declared.ask.Update.{Update}
use Rattle.osb_asks.specs.declared.ask.Provision.{Provision}
use Rattle.osb_asks.specs.declared.ask.Deprovision.{Deprovision}
use Rattle.osb_asks.specs.declared.ask.Bind.{Bind}
use Rattle.osb_asks.specs.declared.ask.Unbind.{Unbind}
use Rattle.osb_asks.specs.declared.ask.Report.{Report}
use Rattle.osb_asks.specs.declared.ask.InstanceOp.{InstanceOp}
use Rattle.osb_asks.specs.declared.ask.BindingOp.{BindingOp}
use Rattle.osb_asks.specs.declared.ask.Ask.{Ask}
use Rattle.osb_asks.specs.declared.ask.Ask.TheVariants as the
use Rattle.osb_orders.specs.declared.order.OrderKind.{OrderKind}
use Rattle.osb_orders.specs.declared.order.OrderKind.TheVariants as kind
use Rattle.osb_orders.specs.declared.order.Attributes.{Attributes}
use Rattle.osb_orders.specs.declared.order.Order.{Order}
use Rattle.osb_orders.specs.declared.view.InstancePhase.{InstancePhase}
use Rattle.osb_orders.specs.declared.view.InstancePhase.TheVariants as phase
use Rattle.osb_orders.specs.declared.view.BindingPhase.{BindingPhase}
use Rattle.osb_orders.specs.declared.view.BindingPhase.TheVariants as bindings
use Rattle.osb_orders.specs.declared.view.Standing.{Standing}
use Rattle.osb_orders.specs.declared.view.BindingNow.{BindingNow}
use Rattle.osb_orders.specs.declared.order.Change.TheVariants.{Append}
use Rattle.osb_orders.specs.Lives.{Lives, life_of, named_life}
use Rattle.osb_orders.specs.Listing.{listing_for}
use Rattle.osb_asks.specs.Subjects.{instance_id_of}
use Rattle.osb_orders.specs.Named.{named_by}
use Rattle.osb_orders.specs.ViewData.{ViewData, view_data_of}
use Rattle.osb_machine.specs.Decision.{Decision}
use Rattle.osb_machine.specs.Opened.{Opening, running, succeeded_with, numbered, opened, accepted, is_busy, is_unlike}
use Rattle.osb_machine.specs.Provision.{creation, provision_over, provision}
use Rattle.osb_machine.specs.Fetch.{fetch, fetch_over}
use Rattle.osb_machine.specs.Update.{target, update_opening, is_order_to, forbids_change, update_ready, update_running, update_checked, update_over}
use Rattle.osb_machine.specs.Deprovision.{deletion, deprovision_over}
use Rattle.osb_machine.specs.Bind.{bind_opening, bind_new, bind_again, bind_over}
use Rattle.osb_machine.specs.FetchBinding.{fetch_binding, fetch_binding_over}
use Rattle.osb_machine.specs.Unbind.{unbind_opening, unbind_over}
use Rattle.osb_machine.specs.Polls.{polled, poll}
use Rattle.osb_machine.specs.Report.{is_outcome, kept_outcome, report}
use Rattle.osb_machine.specs.Answer.{answer}
use Rattle.osb_machine.specs.Machine.{answer_to}
use Rattle.osb_replies.specs.declared.status.Status.TheVariants as status
use Rattle.osb_orders.proofs.GrowLemmas.{choose, last_of-push}
use Rattle.osb_laws.proofs.LifeLemmas.{ends_running-push}
use Rattle.osb_laws.proofs.MapLemmas.{life_at}
use Rattle.osb_orders.specs.IsLife.{IsLives}
use Rattle.osb_laws.specs.Statuses.{StatusSays, polled_of, PollSays}
use Rattle.osb_laws.proofs.Rows.{provision_at, update_at, deprovision_at, bind_at, unbind_at}

-- Where the last order has ended, none runs

abbrev Ended : Order → Type 0
Ended o = is_now Running o ≡ false

abbrev AllEnded : Life → Type 0
AllEnded life = AllByRecursion Ended life

all_ended : (before later : Life) → IsLifeAfter before later → ends_running (before ++ later) ≡ false → AllEnded later
all_ended before [] h still = tt
all_ended before (x ∷ []) h still = (sym (ends_running-push before x) ∙ still, tt)
all_ended before (x ∷ y ∷ later) h still = (
  sym (ends_running-push before x) ∙ h.1.0.ended,
  all_ended (before ++ x ∷ []) (y ∷ later) h.1 (ap ends_running (append_assoc before (x ∷ []) (y ∷ later)) ∙ still),
)

either_ended : (found others : Life) → AllEnded found → AllEnded others → AllEnded (or_else found others)
either_ended [] others a b = b
either_ended (o ∷ os) others a b = a

from_ended : (passes : Order → Bool) (orders : Life) → AllEnded orders → AllEnded (from_last passes orders)
from_ended passes [] h = tt
from_ended passes (o ∷ os) h = either_ended (from_last passes os) (cond (passes o) (o ∷ os) []) (from_ended passes os h.1) (choose AllEnded (passes o) (o ∷ os) [] (λ _. h) (λ _. tt))

left_ended : (removes : Order → Bool) (orders : Life) → AllEnded orders → AllEnded (cond (list_any removes orders) [] orders)
left_ended removes orders h = choose AllEnded (list_any removes orders) [] orders (λ _. tt) (λ _. h)

last_ended : (passes : Order → Bool) (given : Order) (orders : Life) → Ended given → AllEnded orders → Ended (last_where passes given orders)
last_ended passes given [] e h = e
last_ended passes given (o ∷ os) e h = choose (λ later. Ended (last_from given later)) (passes o) (o ∷ filter passes os) (filter passes os) (λ _. last_ended passes o os h.0 h.1) (λ _. last_ended passes given os e h.1)

abbrev is_moving : InstancePhase → Bool
is_moving phase.Creating = true
is_moving phase.Updating = true
is_moving phase.Deleting = true
is_moving phase.Ready = false
is_moving phase.Failed = false

abbrev is_binding_moving : BindingPhase → Bool
is_binding_moving bindings.Binding = true
is_binding_moving bindings.Unbinding = true
is_binding_moving bindings.Bound = false
is_binding_moving bindings.Failed = false

still_phase : (birth : OrderState) (k : OrderKind) (s : OrderState) → (state_number s == 0) ≡ false → is_moving (phase_by birth k s) ≡ false
still_phase birth k Running e = cc
still_phase birth kind.Create Succeeded e = refl
still_phase birth kind.Create Failed e = refl
still_phase birth kind.Update Succeeded e = refl
still_phase birth kind.Update Failed e = refl
still_phase Running kind.Delete Succeeded e = refl
still_phase Running kind.Delete Failed e = refl
still_phase Succeeded kind.Delete Succeeded e = refl
still_phase Succeeded kind.Delete Failed e = refl
still_phase Failed kind.Delete Succeeded e = refl
still_phase Failed kind.Delete Failed e = refl
still_phase birth kind.Bind Succeeded e = refl
still_phase birth kind.Bind Failed e = refl
still_phase birth kind.Unbind Succeeded e = refl
still_phase birth kind.Unbind Failed e = refl

still_binding : (k : OrderKind) (s : OrderState) → (state_number s == 0) ≡ false → is_binding_moving (binding_phase_by k s) ≡ false
still_binding k Running e = cc
still_binding kind.Create Succeeded e = refl
still_binding kind.Create Failed e = refl
still_binding kind.Update Succeeded e = refl
still_binding kind.Update Failed e = refl
still_binding kind.Delete Succeeded e = refl
still_binding kind.Delete Failed e = refl
still_binding kind.Bind Succeeded e = refl
still_binding kind.Bind Failed e = refl
still_binding kind.Unbind Succeeded e = refl
still_binding kind.Unbind Failed e = refl

-- what moves, runs at the end of the life
abbrev Moves : Life → Standing → Type 0
Moves life s = is_moving s.phase ≡ true → ends_running life ≡ true

abbrev BindingMoves : Life → BindingNow → Type 0
BindingMoves life b = is_binding_moving b.phase ≡ true → ends_running life ≡ true

module _ (life : Life) (h : IsLifeAfter [] life) where
  born : ends_running life ≡ false → AllEnded (since_birth life)
  born still = left_ended (has_succeeded kind.Delete) (from_last (is_a kind.Create) life) (from_ended (is_a kind.Create) life (all_ended [] life h still))

  moves : IfSome (standing_of life) (Moves life)
  moves = by (ends_running life) refl
    where
      runs : (s : Option Standing) → ends_running life ≡ true → IfSome s (Moves life)
      runs None e = tt
      runs (Some s) e = λ _. e

      rests : (since : Life) → AllEnded since → IfSome (standing_since since) (Moves life)
      rests [] all = tt
      rests (birth ∷ later) all =
          let last = last_where is_of_instance birth later in
          λ moving. absurd (true≢false (sym moving ∙ still_phase birth.outcome.state last.kind last.outcome.state (last_ended is_of_instance birth later all.0 all.1)))

      by : (b : Bool) → ends_running life ≡ b → IfSome (standing_of life) (Moves life)
      by true e = runs (standing_of life) e
      by false e = rests (since_birth life) (born e)

  binding_moves : (id : List ℕ) → IfSome (binding_of id life) (BindingMoves life)
  binding_moves id = by (ends_running life) refl
    where
      binds : Order → Bool
      binds o = is_a kind.Bind o && is_of_binding id o

      unbinds : Order → Bool
      unbinds o = is_a kind.Unbind o && is_of_binding id o

      removes : Order → Bool
      removes o = has_succeeded kind.Unbind o && is_of_binding id o

      runs : (b : Option BindingNow) → ends_running life ≡ true → IfSome b (BindingMoves life)
      runs None e = tt
      runs (Some b) e = λ _. e

      rests : (since : Life) → AllEnded since → IfSome (binding_since id since) (BindingMoves life)
      rests [] all = tt
      rests (bind ∷ later) all =
          let last = last_where unbinds bind later in
          λ moving. absurd (true≢false (sym moving ∙ still_binding last.kind last.outcome.state (last_ended unbinds bind later all.0 all.1)))

      by : (b : Bool) → ends_running life ≡ b → IfSome (binding_of id life) (BindingMoves life)
      by true e = runs (binding_of id life) e
      by false e = rests (since_bind id (since_birth life)) (left_ended removes (from_last binds (since_birth life)) (from_ended binds (since_birth life) (born e)))

-- The table, row by row

-- a decision whose status says what it does
record Good (life : Life) (r : Decision) : Type 0 where
  good : StatusSays life r.status r.body r.change

-- what a test leads to
past : (test : Bool) (life : Life) (here other : Decision) → Good life here → Good life other → Good life (cond test here other)
past true life here other good later = good
past false life here other good later = later

accepting : (life : Life) (accepts : Bool) (last : Option Order) → last ≡ last_of life → option_map_or (is_now Running) last false ≡ true → Good life (accepted accepts last)
accepting life accepts None is runs = cc
accepting life true (Some o) is runs = record { good = (o, sym is, runs, refl) }
accepting life false (Some o) is runs = record { good = refl }

module _ (rules : Rules) (life : Life) (facts : ViewData) (last : facts.last ≡ last_of life) where
  opening : (o : Opening) → ((number : ℕ) → StatusSays life o.status o.body (Append (numbered number o (succeeded_with o.credentials)))) → Good life (opened rules facts o)
  opening o says = past (o.asynchronous && not o.accepts_incomplete) life _ _ (record { good = refl }) (past (nat_le rules.order_limit facts.count) life _ _ (record { good = refl }) (past o.asynchronous life _ _ (record { good = (numbered (facts.count + 1) o running, last_of-push life _, refl, refl) }) (record { good = says (facts.count + 1) })))

  at_once : (o : Opening) → o.status ≡ status.Ok → Good life (opened rules facts o)
  at_once o is = opening o (λ number. subst (λ s. StatusSays life s o.body (Append (numbered number o (succeeded_with o.credentials)))) (sym is) (inr (inl (numbered number o (succeeded_with o.credentials), (refl, refl)))))

  goes_on : (accepts : Bool) → ends_running life ≡ true → Good life (accepted accepts facts.last)
  goes_on accepts runs = accepting life accepts facts.last last (ap (λ o. option_map_or (is_now Running) o false) last ∙ runs)

  provisioning : (a : Provision) → IfSome facts.standing (Moves life) → Good life (provision rules facts a)
  provisioning a moving = past (is_unlike a.maintenance _) life _ _ (record { good = refl }) (at facts.standing moving)
    where
      over : (p : InstancePhase) (same : Bool) → (is_moving p ≡ true → ends_running life ≡ true) → Good life (provision_over facts a p same)
      over phase.Creating true runs = goes_on a.accepts_incomplete (runs refl)
      over phase.Creating false runs = record { good = refl }
      over phase.Ready true runs = record { good = inl refl }
      over phase.Ready false runs = record { good = refl }
      over phase.Updating true runs = record { good = inl refl }
      over phase.Updating false runs = record { good = refl }
      over phase.Deleting _ runs = record { good = refl }
      over phase.Failed _ runs = record { good = refl }

      at : (s : Option Standing) → IfSome s (Moves life) → Good life (provision_at rules facts a s)
      at None moving = opening (creation rules a) (λ number. (numbered number (creation rules a) _, (refl, refl), refl))
      at (Some s) moving = over s.phase _ moving

  fetching : (s : Option Standing) → Good life (fetch s)
  fetching None = record { good = refl }
  fetching (Some s) = over s.phase
    where
      over : (p : InstancePhase) → Good life (fetch_over p s.attributes)
      over phase.Creating = record { good = refl }
      over phase.Failed = record { good = refl }
      over phase.Updating = record { good = refl }
      over phase.Deleting = record { good = refl }
      over phase.Ready = record { good = inl refl }

  updating : (a : Update) (s : Option Standing) → IfSome s (Moves life) → Good life (update_at rules facts a s)
  updating a None moving = record { good = refl }
  updating a (Some s) moving = over s.phase moving
    where
      aim : Attributes
      aim = target rules s.attributes a

      running_on : (aim : Attributes) → ends_running life ≡ true → Good life (update_running facts a aim)
      running_on aim runs = past (is_order_to aim facts.last) life _ _ (goes_on a.accepts_incomplete runs) (record { good = refl })

      ready : (aim : Attributes) → Good life (update_ready rules facts a s.attributes aim)
      ready aim = past (are_same aim s.attributes) life _ _ (record { good = inl refl }) (past (is_busy facts) life _ _ (record { good = refl }) (past (forbids_change rules s.attributes aim) life _ _ (record { good = refl }) (at_once (update_opening rules s.attributes a aim) refl)))

      checked : (aim : Attributes) (next : Decision) → Good life next → Good life (update_checked rules facts a s.attributes aim next)
      checked aim next good = past (not (bytes_eq a.service s.attributes.service)) life _ _ (record { good = refl }) (past (is_unlike a.maintenance _) life _ _ (record { good = refl }) good)

      over : (p : InstancePhase) → (is_moving p ≡ true → ends_running life ≡ true) → Good life (update_over rules facts a s.attributes aim p)
      over phase.Failed runs = record { good = refl }
      over phase.Creating runs = record { good = refl }
      over phase.Deleting runs = record { good = refl }
      over phase.Ready runs = checked aim _ (ready aim)
      over phase.Updating runs = checked aim _ (running_on aim (runs refl))

  deprovisioning : (a : Deprovision) (s : Option Standing) → IfSome s (Moves life) → Good life (deprovision_at rules facts a s)
  deprovisioning a None moving = record { good = refl }
  deprovisioning a (Some s) moving = over s.phase moving
    where
      idle : Good life (deprovision_over rules facts a phase.Ready s.attributes)
      idle = past (is_busy facts) life _ _ (record { good = refl }) (past facts.bound life _ _ (record { good = refl }) (at_once (deletion rules s.attributes a) refl))

      over : (p : InstancePhase) → (is_moving p ≡ true → ends_running life ≡ true) → Good life (deprovision_over rules facts a p s.attributes)
      over phase.Deleting runs = goes_on a.accepts_incomplete (runs refl)
      over phase.Creating runs = idle
      over phase.Ready runs = idle
      over phase.Updating runs = idle
      over phase.Failed runs = idle

  telling : (removal : OrderKind) (o : Order) → Good life (polled removal o)
  telling removal o = past (is_a removal o && is_now Succeeded o) life _ _ (record { good = refl }) (record { good = inl refl })

  polling : (removal : OrderKind) (operation : Option (List ℕ)) (named last : Option Order) → Good life (poll removal operation named last)
  polling removal operation named None = record { good = refl }
  polling removal None named (Some last) = telling removal last
  polling removal (Some name) None (Some last) = record { good = refl }
  polling removal (Some name) (Some o) (Some last) = telling removal o

  binding : (a : Bind) (s : Option Standing) → IfSome facts.binding (BindingMoves life) → Good life (bind_at rules facts a s)
  binding a None moving = record { good = refl }
  binding a (Some s) moving = over s.phase facts.binding moving
    where
      again : (p : BindingPhase) (same : Bool) (b : BindingNow) → (is_binding_moving p ≡ true → ends_running life ≡ true) → Good life (bind_again facts a p same b)
      again bindings.Bound true b runs = record { good = inl refl }
      again bindings.Bound false b runs = record { good = refl }
      again bindings.Binding true b runs = goes_on a.accepts_incomplete (runs refl)
      again bindings.Binding false b runs = record { good = refl }
      again bindings.Unbinding _ b runs = record { good = refl }
      again bindings.Failed _ b runs = record { good = refl }

      new : Good life (bind_new rules facts a s.attributes)
      new = past (is_busy facts) life _ _ (record { good = refl }) (past (not (bytes_eq a.service s.attributes.service && bytes_eq a.plan s.attributes.plan)) life _ _ (record { good = refl }) (past (not (is_bindable rules s.attributes.service s.attributes.plan)) life _ _ (record { good = refl }) (opening (bind_opening rules s.attributes a) (λ number. (numbered number (bind_opening rules s.attributes a) _, (refl, refl), refl)))))

      over : (p : InstancePhase) (b : Option BindingNow) → IfSome b (BindingMoves life) → Good life (bind_over rules facts a p s.attributes b)
      over phase.Failed b moving = record { good = refl }
      over phase.Creating b moving = record { good = refl }
      over _ (Some b) moving = again b.phase _ b moving
      over _ None moving = new

  fetching_binding : (b : Option BindingNow) → Good life (fetch_binding b)
  fetching_binding None = record { good = refl }
  fetching_binding (Some b) = over b.phase
    where
      over : (p : BindingPhase) → Good life (fetch_binding_over p b)
      over bindings.Bound = record { good = inl refl }
      over bindings.Binding = record { good = refl }
      over bindings.Unbinding = record { good = refl }
      over bindings.Failed = record { good = refl }

  unbinding : (a : Unbind) (b : Option BindingNow) → IfSome b (BindingMoves life) → Good life (unbind_at rules facts a b)
  unbinding a None moving = record { good = refl }
  unbinding a (Some b) moving = over b.phase moving
    where
      idle : Good life (unbind_over rules facts a bindings.Bound b)
      idle = past (is_busy facts) life _ _ (record { good = refl }) (at_once (unbind_opening rules facts.standing b a) refl)

      over : (p : BindingPhase) → (is_binding_moving p ≡ true → ends_running life ≡ true) → Good life (unbind_over rules facts a p b)
      over bindings.Unbinding runs = goes_on a.accepts_incomplete (runs refl)
      over bindings.Bound runs = idle
      over bindings.Binding runs = idle
      over bindings.Failed runs = idle

  reporting : (a : Report) (o : Option Order) → Good life (report a o)
  reporting a None = record { good = refl }
  reporting a (Some o) = past (is_now Running o) life _ _ (record { good = inr (inr (o.number, kept_outcome a o, refl)) }) (past (is_outcome o.outcome (kept_outcome a o)) life _ _ (record { good = inl refl }) (record { good = refl }))

module _ (rules : Rules) (life : Life) (listing : List (List ℕ × Order)) (h : IsLifeAfter [] life) where
  abbrev facts : Ask → ViewData
  facts ask = view_data_of life listing ask

  answer_good : (ask : Ask) → Good life (answer rules (facts ask) ask)
  answer_good the.Catalog = record { good = inl refl }
  answer_good (the.Provision a) = provisioning rules life (facts (the.Provision a)) refl a (moves life h)
  answer_good (the.Fetch a) = fetching rules life (facts (the.Fetch a)) refl (standing_of life)
  answer_good (the.Update a) = updating rules life (facts (the.Update a)) refl a (standing_of life) (moves life h)
  answer_good (the.Deprovision a) = deprovisioning rules life (facts (the.Deprovision a)) refl a (standing_of life) (moves life h)
  answer_good (the.InstanceOp a) = polling rules life (facts (the.InstanceOp a)) refl kind.Delete a.operation (facts (the.InstanceOp a)).named (facts (the.InstanceOp a)).subject_last
  answer_good (the.Bind a) = binding rules life (facts (the.Bind a)) refl a (standing_of life) (binding_moves life h a.binding)
  answer_good (the.FetchBinding a) = fetching_binding rules life (facts (the.FetchBinding a)) refl (facts (the.FetchBinding a)).binding
  answer_good (the.Unbind a) = unbinding rules life (facts (the.Unbind a)) refl a (binding_of a.binding life) (binding_moves life h a.binding)
  answer_good (the.BindingOp a) = polling rules life (facts (the.BindingOp a)) refl kind.Unbind a.operation (facts (the.BindingOp a)).named (facts (the.BindingOp a)).subject_last
  answer_good (the.Orders a) = record { good = inl refl }
  answer_good (the.Report a) = reporting rules life (facts (the.Report a)) refl a (facts (the.Report a)).named

life_named : (lives : Lives) (at : Option (List ℕ)) → IsLives lives → IsLifeAfter [] (named_life lives at)
life_named lives None h = tt
life_named lives (Some id) h = (life_at lives id h).orders

pub statuses_say : (rules : Rules) (lives : Lives) (ask : Ask) → IsLives lives →
    let decision = answer_to rules lives ask in StatusSays (named_life lives (instance_id_of ask)) decision.status decision.body decision.change
statuses_say rules lives ask h = (answer_good rules (named_life lives (instance_id_of ask)) (listing_for lives ask) (life_named lives (instance_id_of ask) h) ask).good

-- Polls

none_last : (orders : Life) → last_of orders ≡ None → orders ≡ []
none_last [] e = refl
none_last (o ∷ os) e = cc

abbrev Says : OrderKind → Option (List ℕ) → Life → Decision → Type 0
Says removal operation orders r = PollSays removal operation orders r.status r.body

told_of : (removal : OrderKind) (operation : Option (List ℕ)) (orders : Life) (o : Order) → polled_of operation orders ≡ Some o → Says removal operation orders (polled removal o)
told_of removal operation orders o is = choose (Says removal operation orders) (has_succeeded removal o) _ _ (λ yes. (o, is, yes)) (λ no. (o, is, no, refl))

poll_says : (removal : OrderKind) (operation : Option (List ℕ)) (orders : Life) (named last : Option Order) → (IfSome operation (λ name. polled_of (Some name) orders ≡ named)) → last_of orders ≡ last → Says removal operation orders (poll removal operation named last)
poll_says removal operation orders named None by is = none_last orders is
poll_says removal None orders named (Some last) by is = told_of removal None orders last is
poll_says removal (Some name) orders None (Some last) by is = by
poll_says removal (Some name) orders (Some o) (Some last) by is = told_of removal (Some name) orders o by

-- the operation names what it names
named_so : (operation : Option (List ℕ)) (orders : Life) → IfSome operation (λ name. polled_of (Some name) orders ≡ named_by operation orders)
named_so None orders = tt
named_so (Some name) orders = refl

pub polls_say : (rules : Rules) (lives : Lives) (a : InstanceOp) →
    let decision = answer_to rules lives (the.InstanceOp a) in PollSays kind.Delete a.operation (filter is_of_instance (life_of lives a.instance)) decision.status decision.body
polls_say rules lives a =
    let orders = filter is_of_instance (life_of lives a.instance) in
    poll_says kind.Delete a.operation orders (named_by a.operation orders) (last_of orders) (named_so a.operation orders) refl

pub binding_polls_say : (rules : Rules) (lives : Lives) (a : BindingOp) →
    let decision = answer_to rules lives (the.BindingOp a) in PollSays kind.Unbind a.operation (filter (is_of_binding a.binding) (life_of lives a.instance)) decision.status decision.body
binding_polls_say rules lives a =
    let orders = filter (is_of_binding a.binding) (life_of lives a.instance) in
    poll_says kind.Unbind a.operation orders (named_by a.operation orders) (last_of orders) (named_so a.operation orders) refl
