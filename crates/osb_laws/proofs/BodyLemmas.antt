-- The body of each answer is a JSON object.
use Prim.Native.String.{String}
use Rattle.std.proofs.Common.{◌≡◌, ◌≤◌, ◌+◌, ◌==◌, ℕ, Bool, true, false, not, ◌&&◌, cond, List, [], ◌∷◌, ◌++◌, map, length, take, drop, ◌-◌, codes, Option, None, Some, refl, sym, ap, subst, ◌∙◌, append_assoc, arith}
use Rattle.std.specs.Prelude.{nat_le, bytes_eq, IfSome}
use Rattle.std.specs.Fmt.{decimal}
use Rattle.std.specs.List.{AllByRecursion}
use Rattle.std.proofs.lemmas.Bool.{and_from, leb-false}
use Rattle.std.proofs.lemmas.List.Folds.{list_all-append}
use Rattle.json.specs.Print.{quoted}
use Rattle.osb_text.specs.ObjectText.{is_object_text}
use Rattle.osb_catalog.specs.Rules.{Rules}
use Rattle.osb_catalog.specs.Sound.{AreSound}
use Rattle.osb_replies.specs.declared.fixed_error.FixedError.{FixedError}
use Rattle.osb_replies.specs.declared.fixed_error.FixedError.TheVariants as told
use Rattle.osb_replies.specs.FixedError.{coded, fixed_body}
use Rattle.osb_asks.specs.declared.ask.Update.{Update}
use Rattle.osb_asks.specs.declared.ask.Provision.{Provision}
use Rattle.osb_asks.specs.declared.ask.Deprovision.{Deprovision}
use Rattle.osb_asks.specs.declared.ask.Bind.{Bind}
use Rattle.osb_asks.specs.declared.ask.Unbind.{Unbind}
use Rattle.osb_asks.specs.declared.ask.Report.{Report}
use Rattle.osb_asks.specs.declared.ask.Ask.{Ask}
use Rattle.osb_asks.specs.declared.ask.Ask.TheVariants as the
use Rattle.osb_orders.specs.declared.order.OrderKind.{OrderKind}
use Rattle.osb_orders.specs.declared.order.OrderKind.TheVariants as kind
use Rattle.osb_orders.specs.declared.order.OrderState.{OrderState}
use Rattle.osb_orders.specs.declared.order.OrderState.TheVariants.{Running, Succeeded, Failed}
use Rattle.osb_orders.specs.declared.order.Outcome.{Outcome}
use Rattle.osb_orders.specs.declared.order.Attributes.{Attributes}
use Rattle.osb_orders.specs.declared.order.Order.{Order}
use Rattle.osb_orders.specs.declared.view.InstancePhase.{InstancePhase}
use Rattle.osb_orders.specs.declared.view.InstancePhase.TheVariants as phase
use Rattle.osb_orders.specs.declared.view.BindingPhase.{BindingPhase}
use Rattle.osb_orders.specs.declared.view.BindingPhase.TheVariants as bindings
use Rattle.osb_orders.specs.declared.view.Standing.{Standing}
use Rattle.osb_orders.specs.declared.view.BindingNow.{BindingNow}
use Rattle.osb_orders.specs.Orders.{is_a, is_now, kind_text, state_text, name_of, is_about_binding, empty_object}
use Rattle.osb_orders.specs.Life.{Life, standing_of}
use Rattle.osb_orders.specs.Bindings.{binding_of}
use Rattle.osb_orders.specs.Lives.{Lives, named_life}
use Rattle.osb_orders.specs.Listing.{listing_for}
use Rattle.osb_asks.specs.Subjects.{instance_id_of}
use Rattle.osb_orders.specs.IsLife.{AreOfInstance, AreOfBinding, AreValidTexts, IsLife, IsLives}
use Rattle.osb_orders.specs.ViewData.{ViewData, view_data_of}
use Rattle.osb_machine.specs.Decision.{Decision}
use Rattle.osb_machine.specs.Plans.{is_bindable, plan_credentials}
use Rattle.osb_machine.specs.Same.{are_same}
use Rattle.osb_machine.specs.Texts.{object_text, only, in_quotes, operation_body, state_body, instance_body, credentials_body, binding_body}
use Rattle.osb_machine.specs.Listed.{listed, orders_body}
use Rattle.osb_machine.specs.Opened.{Opening, opened, accepted, is_busy, is_unlike, numbered, running}
use Rattle.osb_machine.specs.Provision.{creation, provision_over, provision}
use Rattle.osb_machine.specs.Fetch.{fetch, fetch_over}
use Rattle.osb_machine.specs.Update.{target, update_opening, is_order_to, forbids_change, update_ready, update_running, update_checked, update_over}
use Rattle.osb_machine.specs.Deprovision.{deletion, deprovision_over}
use Rattle.osb_machine.specs.Bind.{bind_opening, bind_new, bind_again, bind_over}
use Rattle.osb_machine.specs.FetchBinding.{fetch_binding, fetch_binding_over}
use Rattle.osb_machine.specs.Unbind.{unbind_opening, unbind_over}
use Rattle.osb_machine.specs.Polls.{polled, poll}
use Rattle.osb_machine.specs.Report.{is_outcome, kept_outcome, report}
use Rattle.osb_machine.specs.Answer.{answer}
use Rattle.osb_machine.specs.Machine.{answer_to}
use Rattle.osb_laws.specs.Bodies.{IsObjectBody}
use Rattle.osb_orders.proofs.GrowLemmas.{choose}
use Rattle.osb_laws.proofs.MapLemmas.{life_at}
use Rattle.osb_laws.proofs.Rows.{provision_at, update_at, deprovision_at, bind_at, unbind_at}
use Rattle.osb_laws.proofs.WordLemmas.{RulesHaveValidTexts, rules_valid_texts, standing_valid_texts, binding_valid_texts, binding_credentials}
use Rattle.osb_laws.proofs.ListingLemmas.{IsOrder, AreOrders, last_is_order, listed_are_orders}
use Rattle.osb_laws.proofs.ValueLemmas.{IsValue, quoted_value, decimal_value, body_value, has_no_escapes, plain_value, decimal_plain, object_value, object_of_members, array_value}

-- ---- the bodies

nothing_said : IsObjectBody empty_object
nothing_said = object_of_members [] refl tt

-- what is between the marks of a body that has only a description
abbrev told_in : List ℕ → List ℕ
told_in body = take (length body - 18) (drop 16 body)

described_is : (body : List ℕ) → body ≡ codes "{\"description\":\"" ++ told_in body ++ codes "\"}" → has_no_escapes (told_in body) ≡ true → IsObjectBody body
described_is body is plain =
    subst IsObjectBody (ap (λ (t : List ℕ). codes "{\"description\":\"" ++ t) (append_assoc (told_in body) (codes "\"") (codes "}")) ∙ sym is)
    (object_of_members (("description", in_quotes (told_in body)) ∷ []) refl (plain_value (told_in body) plain, tt))

coded_parts : (text code : List ℕ) → object_text (("description", in_quotes text) ∷ ("error", in_quotes code) ∷ []) ≡ codes "{\"description\":\"" ++ text ++ codes "\",\"error\":\"" ++ code ++ codes "\"}"
coded_parts text code =
    ap (λ (t : List ℕ). codes "{\"description\":\"" ++ t)
    (append_assoc text (codes "\"") _
    ∙ ap (λ (t : List ℕ). text ++ (codes "\",\"error\":\"" ++ t)) (append_assoc code (codes "\"") (codes "}"))
    ∙ sym (append_assoc text (codes "\",\"error\":\"") (code ++ codes "\"}"))
    ∙ sym (append_assoc (text ++ codes "\",\"error\":\"") code (codes "\"}")))

coded_is : (code text : String) → has_no_escapes (codes code) ≡ true → has_no_escapes (codes text) ≡ true → IsObjectBody (coded code text)
coded_is code text plain clear =
    subst IsObjectBody (coded_parts (codes text) (codes code))
    (object_of_members (("description", in_quotes (codes text)) ∷ ("error", in_quotes (codes code)) ∷ []) refl (plain_value (codes text) clear, (plain_value (codes code) plain, tt)))

pub error_is : (error : FixedError) → IsObjectBody (fixed_body error)
error_is told.NoHead = described_is (fixed_body told.NoHead) refl refl
error_is told.Host = described_is (fixed_body told.Host) refl refl
error_is told.Coding = described_is (fixed_body told.Coding) refl refl
error_is told.Length = described_is (fixed_body told.Length) refl refl
error_is told.TooLarge = described_is (fixed_body told.TooLarge) refl refl
error_is told.Cut = described_is (fixed_body told.Cut) refl refl
error_is told.Version = described_is (fixed_body told.Version) refl refl
error_is told.Id = described_is (fixed_body told.Id) refl refl
error_is told.Query = described_is (fixed_body told.Query) refl refl
error_is told.Body = described_is (fixed_body told.Body) refl refl
error_is told.NotInCatalog = described_is (fixed_body told.NotInCatalog) refl refl
error_is told.Mismatch = described_is (fixed_body told.Mismatch) refl refl
error_is told.NotBindable = described_is (fixed_body told.NotBindable) refl refl
error_is told.Operation = described_is (fixed_body told.Operation) refl refl
error_is told.AsyncRequired = coded_is "AsyncRequired" "The plan needs asynchronous operations." refl refl
error_is told.ConcurrencyError = coded_is "ConcurrencyError" "Another operation is in progress." refl refl
error_is told.MaintenanceInfoConflict = coded_is "MaintenanceInfoConflict" "The maintenance version is not the catalog's." refl refl
error_is told.NoPlanChange = described_is (fixed_body told.NoPlanChange) refl refl
error_is told.BindingsRemain = described_is (fixed_body told.BindingsRemain) refl refl
error_is told.Full = described_is (fixed_body told.Full) refl refl

kind_plain : (k : OrderKind) → has_no_escapes (kind_text k) ≡ true
kind_plain kind.Create = refl
kind_plain kind.Update = refl
kind_plain kind.Delete = refl
kind_plain kind.Bind = refl
kind_plain kind.Unbind = refl

state_plain : (s : OrderState) → has_no_escapes (state_text s) ≡ true
state_plain Running = refl
state_plain Succeeded = refl
state_plain Failed = refl

plain_both : (one other : List ℕ) → has_no_escapes one ≡ true → has_no_escapes other ≡ true → has_no_escapes (one ++ other) ≡ true
plain_both one other plain clear = list_all-append _ one other ∙ and_from _ _ plain clear

name_plain : (order : Order) → order.number ≤ 1000000 → has_no_escapes (name_of order) ≡ true
name_plain order small = plain_both (kind_text order.kind ++ codes "-") (decimal order.number) (plain_both (kind_text order.kind) (codes "-") (kind_plain order.kind) refl) (decimal_plain order.number (omega arith))

operation_is : (order : Order) → order.number ≤ 1000000 → IsObjectBody (operation_body order)
operation_is order small = object_of_members (("operation", in_quotes (name_of order)) ∷ []) refl (plain_value (name_of order) (name_plain order small), tt)

instance_is : (instance : Attributes) → AreOfInstance instance → IsObjectBody (instance_body instance)
instance_is instance words = object_of_members (("parameters", instance.parameters) ∷ ("plan_id", quoted instance.plan) ∷ ("service_id", quoted instance.service) ∷ []) refl (object_value instance.parameters words.parameters, (quoted_value instance.plan, (quoted_value instance.service, tt)))

credentials_is : (credentials : List ℕ) → is_object_text credentials ≡ true → IsObjectBody (credentials_body credentials)
credentials_is credentials is = object_of_members (("credentials", credentials) ∷ []) refl (object_value credentials is, tt)

binding_is : (binding : BindingNow) → AreOfBinding binding.attributes → is_object_text binding.credentials ≡ true → IsObjectBody (binding_body binding)
binding_is binding words is = object_of_members (("credentials", binding.credentials) ∷ ("parameters", binding.attributes.parameters) ∷ []) refl (object_value binding.credentials is, (object_value binding.attributes.parameters words.parameters, tt))

state_is : (outcome : Outcome) → IsObjectBody (state_body outcome)
state_is outcome = by (not (length outcome.description == 0))
  where
    by : (says : Bool) → IsObjectBody (object_text (only says "description" (quoted outcome.description) ++ ("state", in_quotes (state_text outcome.state)) ∷ []))
    by true = object_of_members (("description", quoted outcome.description) ∷ ("state", in_quotes (state_text outcome.state)) ∷ []) refl (quoted_value outcome.description, (plain_value _ (state_plain outcome.state), tt))
    by false = object_of_members (("state", in_quotes (state_text outcome.state)) ∷ []) refl (plain_value _ (state_plain outcome.state), tt)

-- ---- the listing

module _ (id : List ℕ) (order : Order) where
  abbrev has : Attributes
  has = order.attributes

  -- the members, by whether it is about a binding, has a context and has a version
  abbrev members : Bool → Bool → Bool → List (String × List ℕ)
  members binds named versioned =
      only binds "app_guid" (quoted has.place) ++ only binds "bind_resource" has.spot ++ only binds "binding_id" (quoted order.binding)
      ++ only named "context" has.context ++ ("instance_id", quoted id) ∷ ("kind", in_quotes (kind_text order.kind))
      ∷ only versioned "maintenance_version" (quoted has.maintenance) ++ only (not binds) "organization_guid" (quoted has.place)
      ++ ("parameters", has.parameters) ∷ ("plan_id", quoted has.plan) ∷ ("seq", decimal order.number) ∷ ("service_id", quoted has.service)
      ∷ only (not binds) "space_guid" (quoted has.spot)

  listed_by : (binds named versioned : Bool) → order.number ≤ 1000000 → AreValidTexts binds order.binding has → IsObjectBody (object_text (members binds named versioned))
  listed_by binds named versioned small texts = by binds named versioned texts
    where
      kind_value : IsValue (in_quotes (kind_text order.kind))
      kind_value = plain_value _ (kind_plain order.kind)

      number_value : IsValue (decimal order.number)
      number_value = decimal_value order.number (omega arith)

      by : (binds named versioned : Bool) → AreValidTexts binds order.binding has → IsObjectBody (object_text (members binds named versioned))
      by true true true t = object_of_members (members true true true) refl (quoted_value has.place, (object_value has.spot t.1.bind_resource, (quoted_value order.binding, (object_value has.context t.1.context, (quoted_value id, (kind_value, (quoted_value has.maintenance, (object_value has.parameters t.1.parameters, (quoted_value has.plan, (number_value, (quoted_value has.service, tt)))))))))))
      by true true false t = object_of_members (members true true false) refl (quoted_value has.place, (object_value has.spot t.1.bind_resource, (quoted_value order.binding, (object_value has.context t.1.context, (quoted_value id, (kind_value, (object_value has.parameters t.1.parameters, (quoted_value has.plan, (number_value, (quoted_value has.service, tt))))))))))
      by true false true t = object_of_members (members true false true) refl (quoted_value has.place, (object_value has.spot t.1.bind_resource, (quoted_value order.binding, (quoted_value id, (kind_value, (quoted_value has.maintenance, (object_value has.parameters t.1.parameters, (quoted_value has.plan, (number_value, (quoted_value has.service, tt))))))))))
      by true false false t = object_of_members (members true false false) refl (quoted_value has.place, (object_value has.spot t.1.bind_resource, (quoted_value order.binding, (quoted_value id, (kind_value, (object_value has.parameters t.1.parameters, (quoted_value has.plan, (number_value, (quoted_value has.service, tt)))))))))
      by false true true t = object_of_members (members false true true) refl (object_value has.context t.1.context, (quoted_value id, (kind_value, (quoted_value has.maintenance, (quoted_value has.place, (object_value has.parameters t.1.parameters, (quoted_value has.plan, (number_value, (quoted_value has.service, (quoted_value has.spot, tt))))))))))
      by false true false t = object_of_members (members false true false) refl (object_value has.context t.1.context, (quoted_value id, (kind_value, (quoted_value has.place, (object_value has.parameters t.1.parameters, (quoted_value has.plan, (number_value, (quoted_value has.service, (quoted_value has.spot, tt)))))))))
      by false false true t = object_of_members (members false false true) refl (quoted_value id, (kind_value, (quoted_value has.maintenance, (quoted_value has.place, (object_value has.parameters t.1.parameters, (quoted_value has.plan, (number_value, (quoted_value has.service, (quoted_value has.spot, tt)))))))))
      by false false false t = object_of_members (members false false false) refl (quoted_value id, (kind_value, (quoted_value has.place, (object_value has.parameters t.1.parameters, (quoted_value has.plan, (number_value, (quoted_value has.service, (quoted_value has.spot, tt))))))))

listed_is : (id : List ℕ) (order : Order) → IsOrder order → IsObjectBody (listed id order)
listed_is id order h = listed_by id order (is_about_binding order.kind) _ _ h.number h.texts.texts

each_listed : (listing : List (List ℕ × Order)) → AreOrders listing → AllByRecursion IsValue (map (λ one. listed one.0 one.1) listing)
each_listed [] h = tt
each_listed (one ∷ more) h = (body_value _ (listed_is one.0 one.1 h.0), each_listed more h.1)

pub orders_are : (listing : List (List ℕ × Order)) → AreOrders listing → IsObjectBody (orders_body listing)
orders_are listing h = object_of_members (("orders", _) ∷ []) refl (array_value (map (λ one. listed one.0 one.1) listing) (each_listed listing h), tt)

-- ---- the answer table

abbrev Good : Decision → Type 0
Good decision = IsObjectBody decision.body

past : (test : Bool) (here other : Decision) → Good here → Good other → Good (cond test here other)
past test here other good later = choose Good test here other (λ _. good) (λ _. later)

accepting : (accepts : Bool) (last : Option Order) → IfSome last IsOrder → Good (accepted accepts last)
accepting accepts None h = nothing_said
accepting true (Some o) h = operation_is o h.number
accepting false (Some o) h = error_is told.AsyncRequired

fetching : (s : Option Standing) → IfSome s (λ s. AreOfInstance s.attributes) → Good (fetch s)
fetching None words = nothing_said
fetching (Some s) words = over s.phase
  where
    over : (p : InstancePhase) → Good (fetch_over p s.attributes)
    over phase.Creating = nothing_said
    over phase.Failed = nothing_said
    over phase.Updating = error_is told.ConcurrencyError
    over phase.Deleting = error_is told.ConcurrencyError
    over phase.Ready = instance_is s.attributes words

fetching_binding : (b : Option BindingNow) → IfSome b (λ b. AreOfBinding b.attributes) → IfSome b (λ b. is_object_text b.credentials ≡ true) → Good (fetch_binding b)
fetching_binding None words is = nothing_said
fetching_binding (Some b) words is = over b.phase
  where
    over : (p : BindingPhase) → Good (fetch_binding_over p b)
    over bindings.Bound = binding_is b words is
    over bindings.Binding = nothing_said
    over bindings.Unbinding = nothing_said
    over bindings.Failed = nothing_said

telling : (removal : OrderKind) (o : Order) → Good (polled removal o)
telling removal o = past (is_a removal o && is_now Succeeded o) _ _ nothing_said (state_is o.outcome)

polling : (removal : OrderKind) (operation : Option (List ℕ)) (named last : Option Order) → Good (poll removal operation named last)
polling removal operation named None = nothing_said
polling removal None named (Some last) = telling removal last
polling removal (Some name) None (Some last) = error_is told.Operation
polling removal (Some name) (Some o) (Some last) = telling removal o

reporting : (a : Report) (o : Option Order) → Good (report a o)
reporting a None = nothing_said
reporting a (Some o) = past (is_now Running o) _ _ nothing_said (past (is_outcome o.outcome (kept_outcome a o)) _ _ nothing_said nothing_said)

module _ (rules : Rules) (facts : ViewData) (limit : rules.order_limit ≤ 1000000) (last : IfSome facts.last IsOrder) where
  opening : (o : Opening) → IsObjectBody o.body → Good (opened rules facts o)
  opening o body =
      past (o.asynchronous && not o.accepts_incomplete) _ _ (error_is told.AsyncRequired)
      (choose Good (nat_le rules.order_limit facts.count) _ _ (λ _. error_is told.Full)
      (λ room. past o.asynchronous _ _ (operation_is (numbered (facts.count + 1) o running) (omega (arith, leb-false _ _ room, limit))) body))

  goes_on : (accepts : Bool) → Good (accepted accepts facts.last)
  goes_on accepts = accepting accepts facts.last last

  provisioning : (a : Provision) → Good (provision rules facts a)
  provisioning a = past (is_unlike a.maintenance _) _ _ (error_is told.MaintenanceInfoConflict) (at facts.standing)
    where
      over : (p : InstancePhase) (same : Bool) → Good (provision_over facts a p same)
      over phase.Creating true = goes_on a.accepts_incomplete
      over phase.Creating false = nothing_said
      over phase.Ready true = nothing_said
      over phase.Ready false = nothing_said
      over phase.Updating true = nothing_said
      over phase.Updating false = nothing_said
      over phase.Deleting _ = error_is told.ConcurrencyError
      over phase.Failed _ = nothing_said

      at : (s : Option Standing) → Good (provision_at rules facts a s)
      at None = opening (creation rules a) nothing_said
      at (Some s) = over s.phase _

  updating : (a : Update) (s : Option Standing) → Good (update_at rules facts a s)
  updating a None = nothing_said
  updating a (Some s) = over s.phase
    where
      aim : Attributes
      aim = target rules s.attributes a

      running_on : Good (update_running facts a aim)
      running_on = past (is_order_to aim facts.last) _ _ (goes_on a.accepts_incomplete) (error_is told.ConcurrencyError)

      ready : Good (update_ready rules facts a s.attributes aim)
      ready =
          past (are_same aim s.attributes) _ _ nothing_said (past (is_busy facts) _ _ (error_is told.ConcurrencyError)
          (past (forbids_change rules s.attributes aim) _ _ (error_is told.NoPlanChange) (opening (update_opening rules s.attributes a aim) nothing_said)))

      checked : (next : Decision) → Good next → Good (update_checked rules facts a s.attributes aim next)
      checked next good = past (not (bytes_eq a.service s.attributes.service)) _ _ (error_is told.Mismatch) (past (is_unlike a.maintenance _) _ _ (error_is told.MaintenanceInfoConflict) good)

      over : (p : InstancePhase) → Good (update_over rules facts a s.attributes aim p)
      over phase.Failed = nothing_said
      over phase.Creating = error_is told.ConcurrencyError
      over phase.Deleting = error_is told.ConcurrencyError
      over phase.Ready = checked _ ready
      over phase.Updating = checked _ running_on

  deprovisioning : (a : Deprovision) (s : Option Standing) → Good (deprovision_at rules facts a s)
  deprovisioning a None = nothing_said
  deprovisioning a (Some s) = over s.phase
    where
      idle : Good (deprovision_over rules facts a phase.Ready s.attributes)
      idle = past (is_busy facts) _ _ (error_is told.ConcurrencyError) (past facts.bound _ _ (error_is told.BindingsRemain) (opening (deletion rules s.attributes a) nothing_said))

      over : (p : InstancePhase) → Good (deprovision_over rules facts a p s.attributes)
      over phase.Deleting = goes_on a.accepts_incomplete
      over phase.Creating = idle
      over phase.Ready = idle
      over phase.Updating = idle
      over phase.Failed = idle

  binding : (a : Bind) (s : Option Standing) → RulesHaveValidTexts rules → IfSome facts.binding (λ b. is_object_text b.credentials ≡ true) → Good (bind_at rules facts a s)
  binding a None good is = nothing_said
  binding a (Some s) good is = over s.phase facts.binding is
    where
      again : (p : BindingPhase) (same : Bool) (b : BindingNow) → is_object_text b.credentials ≡ true → Good (bind_again facts a p same b)
      again bindings.Bound true b is = credentials_is b.credentials is
      again bindings.Bound false b is = nothing_said
      again bindings.Binding true b is = goes_on a.accepts_incomplete
      again bindings.Binding false b is = nothing_said
      again bindings.Unbinding _ b is = error_is told.ConcurrencyError
      again bindings.Failed _ b is = nothing_said

      new : Good (bind_new rules facts a s.attributes)
      new =
          past (is_busy facts) _ _ (error_is told.ConcurrencyError)
          (past (not (bytes_eq a.service s.attributes.service && bytes_eq a.plan s.attributes.plan)) _ _ (error_is told.Mismatch)
          (past (not (is_bindable rules s.attributes.service s.attributes.plan)) _ _ (error_is told.NotBindable)
          (opening (bind_opening rules s.attributes a) (credentials_is (plan_credentials rules s.attributes.plan) (good s.attributes.plan)))))

      over : (p : InstancePhase) (b : Option BindingNow) → IfSome b (λ b. is_object_text b.credentials ≡ true) → Good (bind_over rules facts a p s.attributes b)
      over phase.Failed b is = nothing_said
      over phase.Creating b is = error_is told.ConcurrencyError
      over _ (Some b) is = again b.phase _ b is
      over _ None is = new

  unbinding : (a : Unbind) (b : Option BindingNow) → Good (unbind_at rules facts a b)
  unbinding a None = nothing_said
  unbinding a (Some b) = over b.phase
    where
      idle : Good (unbind_over rules facts a bindings.Bound b)
      idle = past (is_busy facts) _ _ (error_is told.ConcurrencyError) (opening (unbind_opening rules facts.standing b a) nothing_said)

      over : (p : BindingPhase) → Good (unbind_over rules facts a p b)
      over bindings.Unbinding = goes_on a.accepts_incomplete
      over bindings.Bound = idle
      over bindings.Binding = idle
      over bindings.Failed = idle

module _ (rules : Rules) (life : Life) (listing : List (List ℕ × Order)) (limit : rules.order_limit ≤ 1000000) (good : RulesHaveValidTexts rules) (catalog : IsObjectBody rules.catalog) (h : IsLife life) (orders : AreOrders listing) where
  abbrev facts : Ask → ViewData
  facts ask = view_data_of life listing ask

  answer_is : (ask : Ask) → Good (answer rules (facts ask) ask)
  answer_is the.Catalog = catalog
  answer_is (the.Provision a) = provisioning rules (facts (the.Provision a)) limit (last_is_order life h) a
  answer_is (the.Fetch a) = fetching (standing_of life) (standing_valid_texts life h.texts)
  answer_is (the.Update a) = updating rules (facts (the.Update a)) limit (last_is_order life h) a (standing_of life)
  answer_is (the.Deprovision a) = deprovisioning rules (facts (the.Deprovision a)) limit (last_is_order life h) a (standing_of life)
  answer_is (the.InstanceOp a) = polling kind.Delete a.operation (facts (the.InstanceOp a)).named (facts (the.InstanceOp a)).subject_last
  answer_is (the.Bind a) = binding rules (facts (the.Bind a)) limit (last_is_order life h) a (standing_of life) good (binding_credentials a.binding life h.texts)
  answer_is (the.FetchBinding a) = fetching_binding (binding_of a.binding life) (binding_valid_texts a.binding life h.texts) (binding_credentials a.binding life h.texts)
  answer_is (the.Unbind a) = unbinding rules (facts (the.Unbind a)) limit (last_is_order life h) a (binding_of a.binding life)
  answer_is (the.BindingOp a) = polling kind.Unbind a.operation (facts (the.BindingOp a)).named (facts (the.BindingOp a)).subject_last
  answer_is (the.Orders a) = orders_are listing orders
  answer_is (the.Report a) = reporting a (facts (the.Report a)).named

no_orders : IsLife []
no_orders = record { count = omega arith; orders = tt; texts = tt }

life_named : (lives : Lives) (at : Option (List ℕ)) → IsLives lives → IsLife (named_life lives at)
life_named lives None h = no_orders
life_named lives (Some id) h = life_at lives id h

listed_for : (lives : Lives) (ask : Ask) → IsLives lives → AreOrders (listing_for lives ask)
listed_for lives (the.Orders a) h = listed_are_orders lives _ 100 h
listed_for lives the.Catalog h = tt
listed_for lives (the.Provision a) h = tt
listed_for lives (the.Fetch a) h = tt
listed_for lives (the.Update a) h = tt
listed_for lives (the.Deprovision a) h = tt
listed_for lives (the.InstanceOp a) h = tt
listed_for lives (the.Bind a) h = tt
listed_for lives (the.FetchBinding a) h = tt
listed_for lives (the.Unbind a) h = tt
listed_for lives (the.BindingOp a) h = tt
listed_for lives (the.Report a) h = tt

pub bodies_are_objects : (rules : Rules) (lives : Lives) (ask : Ask) → AreSound rules → IsObjectBody rules.catalog → IsLives lives → IsObjectBody (answer_to rules lives ask).body
bodies_are_objects rules lives ask sound catalog h =
    answer_is rules (named_life lives (instance_id_of ask)) (listing_for lives ask) sound.most_orders (rules_valid_texts rules sound) catalog
    (life_named lives (instance_id_of ask) h) (listed_for lives ask h) ask
