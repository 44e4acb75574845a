-- What each route finds: an ask with valid texts that the catalog offers and that isn't for the catalog, or a late fault.
use Rattle.std.proofs.Common.{◌≡◌, ◌≢◌, ◌⊎◌, inl, inr, ℕ, ◌≤◌, List, Bool, true, false, not, length, Option, Some, None, IsSome, IfSome, is_some, Result, Ok, Err, IfOk, cond, refl, sym, subst, ap, ◌∙◌, codes}
use Rattle.std.specs.Prelude.{⊤}
use Rattle.std.proofs.lemmas.Bool.{and_parts, true≢false}
use Rattle.serde_json.specs.Data.{Data}
use Rattle.osb_text.specs.Id.{has_no_controls}
use Rattle.osb_text.specs.ObjectText.{IsReadable}
use Rattle.osb_frames.specs.Cuts.{Message}
use Rattle.osb_catalog.specs.Rules.{Rules}
use Rattle.osb_asks.specs.declared.ask_fault.AskFault.{AskFault}
use Rattle.osb_asks.specs.declared.ask_fault.AskFault.TheVariants as fault
use Rattle.osb_asks.specs.declared.ask.Provision.{Provision}
use Rattle.osb_asks.specs.declared.ask.Update.{Update}
use Rattle.osb_asks.specs.declared.ask.Bind.{Bind}
use Rattle.osb_asks.specs.declared.ask.Report.{Report}
use Rattle.osb_asks.specs.declared.ask.Ask.{Ask}
use Rattle.osb_asks.specs.declared.ask.Ask.TheVariants as ask
use Rattle.osb_asks.specs.Reads.{Meets, ◌>>=◌, needed}
use Rattle.osb_asks.specs.Ids as id
use Rattle.osb_asks.specs.Queries as query
use Rattle.osb_asks.specs.Bodies as body
use Rattle.osb_asks.specs.Offers.{has_plan, has_given_plan}
use Rattle.osb_asks.specs.Targets.{query_of}
use Rattle.osb_asks.specs.Doors.{entry_of}
use Rattle.osb_asks.specs.declared.content.NamedPlan.{NamedPlan}
use Rattle.osb_asks.specs.declared.content.NamedSpace.{NamedSpace}
use Rattle.osb_asks.specs.declared.content.Details.{Details}
use Rattle.osb_asks.specs.Routes.{Routed}
use Rattle.osb_asks.specs.Routes as route
use Rattle.osb_asks.specs.Admission.{is_let_in, has_version, route_of, admit_at, admit_of}
use Rattle.osb_asks.specs.Instances.{provision_in, provision_of, fetch_of, update_in, update_of, deprovision_of, instance_op_of}
use Rattle.osb_asks.specs.Bindings.{bind_in, bind_of, fetch_binding_of, unbind_of, binding_op_of}
use Rattle.osb_asks.specs.Backend.{orders_of, report_in, report_of}
use Rattle.osb_asks.specs.Asks as asks
use Rattle.osb_asks.specs.ValidTexts.{IsId, IsObject, AskHasValidTexts, HasPlan, IsOffered}
use Rattle.osb_asks.proofs.Finds.{is_late, Finds, then_finds, tested_finds, Anything, id_finds, number_finds, IsGivenId, accepts_finds, id_in_finds, after_finds, body_finds, id_at_finds, given_id_finds, app_finds, IsDescription, description_finds, state_finds, IsGivenObject, object_finds, or_empty_finds, maintenance_finds}

-- ---- the objects of bodies

abbrev IsNamedPlan : NamedPlan → Type 0
IsNamedPlan a = IsId a.service × IsId a.plan

plan_finds : (v : Data) → Finds NamedPlan IsNamedPlan (body.plan_at v)
unfolding body.plan_at
plan_finds v =
    then_finds IsId IsNamedPlan (body.id_at (codes "service_id") v) _ (id_at_finds (codes "service_id") v)
    (λ s hs. then_finds IsId IsNamedPlan (body.id_at (codes "plan_id") v) _ (id_at_finds (codes "plan_id") v)
    (λ p hp. record { found = (hs, hp) }))

abbrev IsNamedSpace : NamedSpace → Type 0
IsNamedSpace a = IsId a.organization × IsId a.space

space_finds : (v : Data) → Finds NamedSpace IsNamedSpace (body.space_at v)
unfolding body.space_at
space_finds v =
    then_finds IsId IsNamedSpace (body.id_at (codes "organization_guid") v) _ (id_at_finds (codes "organization_guid") v)
    (λ o ho. then_finds IsId IsNamedSpace (body.id_at (codes "space_guid") v) _ (id_at_finds (codes "space_guid") v)
    (λ s hs. record { found = (ho, hs) }))

abbrev AreDetails : Details → Type 0
AreDetails a = IsObject a.context × IsObject a.parameters

details_finds : (v : Data) → IsReadable v → Finds Details AreDetails (body.details_at v)
unfolding body.details_at
details_finds v w =
    then_finds IsObject AreDetails (body.object_or_empty (codes "context") v) _ (or_empty_finds (codes "context") v w)
    (λ c hc. then_finds IsObject AreDetails (body.object_or_empty (codes "parameters") v) _ (or_empty_finds (codes "parameters") v w)
    (λ r hr. record { found = (hc, hr) }))

abbrev IsProvision : Provision → Type 0
IsProvision a = IsId a.instance × IsId a.service × IsId a.plan × IsId a.organization × IsId a.space × IsObject a.context × IsObject a.parameters

provision_in_finds : (i : List ℕ) (b : Bool) (v : Data) → IsId i → IsReadable v → Finds Provision IsProvision (provision_in i b v)
unfolding provision_in
provision_in_finds i b v hi w =
    then_finds IsNamedPlan IsProvision (body.plan_at v) _ (plan_finds v)
    (λ n hn. then_finds IsNamedSpace IsProvision (body.space_at v) _ (space_finds v)
    (λ s hs. then_finds AreDetails IsProvision (body.details_at v) _ (details_finds v w)
    (λ t ht. then_finds Anything IsProvision (body.maintenance_at v) _ (maintenance_finds v)
    (λ x _. record { found = (hi, hn.0, hn.1, hs.0, hs.1, ht.0, ht.1) }))))

abbrev IsUpdate : Update → Type 0
IsUpdate a = IsId a.instance × IsId a.service × IfSome a.plan IsId × IfSome a.context IsObject × IfSome a.parameters IsObject

update_in_finds : (i : List ℕ) (b : Bool) (v : Data) → IsId i → IsReadable v → Finds Update IsUpdate (update_in i b v)
unfolding update_in
update_in_finds i b v hi w =
    then_finds IsId IsUpdate (body.id_at (codes "service_id") v) _ (id_at_finds (codes "service_id") v)
    (λ s hs. then_finds IsGivenId IsUpdate (body.given_id_at (codes "plan_id") v) _ (given_id_finds (codes "plan_id") v)
    (λ p hp. then_finds IsGivenObject IsUpdate (body.object_at (codes "context") v) _ (object_finds (codes "context") v w)
    (λ c hc. then_finds IsGivenObject IsUpdate (body.object_at (codes "parameters") v) _ (object_finds (codes "parameters") v w)
    (λ r hr. then_finds Anything IsUpdate (body.maintenance_at v) _ (maintenance_finds v)
    (λ x _. record { found = (hi, hs, hp, hc, hr) })))))

abbrev IsBind : Bind → Type 0
IsBind a = IsId a.instance × IsId a.binding × IsId a.service × IsId a.plan × IfSome a.app_guid IsId × IsObject a.bind_resource × IsObject a.context × IsObject a.parameters

bind_in_finds : (i j : List ℕ) (b : Bool) (v : Data) → IsId i → IsId j → IsReadable v → Finds Bind IsBind (bind_in i j b v)
unfolding bind_in
bind_in_finds i j b v hi hj w =
    then_finds IsNamedPlan IsBind (body.plan_at v) _ (plan_finds v)
    (λ n hn. then_finds IsGivenId IsBind (body.app_guid_at v) _ (app_finds v)
    (λ a ha. then_finds IsObject IsBind (body.object_or_empty (codes "bind_resource") v) _ (or_empty_finds (codes "bind_resource") v w)
    (λ b hb. then_finds AreDetails IsBind (body.details_at v) _ (details_finds v w)
    (λ t ht. record { found = (hi, hj, hn.0, hn.1, ha, hb, ht.0, ht.1) }))))

abbrev IsReport : Report → Type 0
IsReport a = IsId a.instance × (length a.description ≤ 1000) × (has_no_controls a.description ≡ true) × IsObject a.credentials

report_in_finds : (i : List ℕ) (n : ℕ) (v : Data) → IsId i → IsReadable v → Finds Report IsReport (report_in i n v)
unfolding report_in
report_in_finds i n v hi w =
    then_finds Anything IsReport (body.state_at v) _ (state_finds v)
    (λ s _. then_finds IsDescription IsReport (body.description_at v) _ (description_finds v)
    (λ t ht. then_finds IsObject IsReport (body.object_or_empty (codes "credentials") v) _ (or_empty_finds (codes "credentials") v w)
    (λ c hc. record { found = (hi, ht.0, ht.1, hc) })))

-- ---- the routes

-- its texts, its offer, and that it isn't the catalog's
record IsGoodFor (rules : Rules) (a : Ask) : Type 0 where
  its_words : AskHasValidTexts a
  its_offer : IsOffered rules a
  late : asks.is_catalog a ≡ false

late_fault : (e : AskFault) → is_late e ≡ true → asks.is_early (Err e) ≡ false
late_fault fault.NoDoor h = absurd (true≢false (sym h))
late_fault fault.Auth h = absurd (true≢false (sym h))
late_fault fault.Version h = absurd (true≢false (sym h))
late_fault fault.NoRoute h = absurd (true≢false (sym h))
late_fault fault.Id h = refl
late_fault fault.Query h = refl
late_fault fault.Body h = refl
late_fault fault.NotInCatalog h = refl
late_fault fault.Memory h = refl

not_early : (rules : Rules) (r : Result Ask AskFault) → Finds Ask (IsGoodFor rules) r → asks.is_early r ≡ false
not_early rules (Ok a) f = f.found.late
not_early rules (Err e) f = late_fault e f.found

-- an ask with valid texts that is offered, or a fault that isn't Memory
abbrev Told : Rules → Result Ask AskFault → Type 0
Told rules (Ok a) = AskHasValidTexts a × IsOffered rules a
Told rules (Err e) = e ≢ fault.Memory

record IsTold (rules : Rules) (r : Result Ask AskFault) : Type 0 where
  told : Told rules r

not_memory : (e : AskFault) → is_late e ≡ true → e ≢ fault.Memory
not_memory e h is = true≢false (sym h ∙ ap is_late is)

told : (rules : Rules) (r : Result Ask AskFault) → Finds Ask (IsGoodFor rules) r → IsTold rules r
told rules (Ok a) f = record { told = (f.found.its_words, f.found.its_offer) }
told rules (Err e) f = record { told = not_memory e f.found }

module _ (rules : Rules) (q b : List ℕ) where
  abbrev IsGood : Ask → Type 0
  IsGood a = IsGoodFor rules a

  there : (service plan : List ℕ) → has_plan rules service plan ≡ true → HasPlan rules service plan
  there service plan h = and_parts (is_some (rules.service service)) (is_some (rules.plan service plan)) h

  given_there : (service : List ℕ) (o : Option (List ℕ)) → has_given_plan rules service o ≡ true → IsSome (rules.service service) × IfSome o (λ plan. IsSome (rules.plan service plan))
  given_there service None h = (h, tt)
  given_there service (Some plan) h = there service plan h

  -- the route is the catalog's, or what it finds is good
  good_at : (r : Routed) → (r ≡ route.Catalog) ⊎ Finds Ask IsGood (asks.ask_at rules q b r)
  unfolding provision_of fetch_of update_of deprovision_of instance_op_of bind_of fetch_binding_of unbind_of binding_op_of orders_of report_of
  good_at route.Catalog = inl refl
  good_at (route.Provision i) =
      inr (then_finds IsId IsGood (id.id_of i) _ (id_finds i)
      (λ i hi. then_finds Anything IsGood (query.accepts_incomplete_in q) _ (accepts_finds q)
      (λ a _. then_finds IsReadable IsGood (body.body_of b) _ (body_finds b)
      (λ v hv. then_finds IsProvision IsGood (provision_in i a v) _ (provision_in_finds i a v hi hv)
      (λ p hp. tested_finds IsGood (has_plan rules p.service p.plan) (ask.Provision p) fault.NotInCatalog refl (λ h. record { its_words = hp; its_offer = there p.service p.plan h; late = refl }))))))
  good_at (route.Fetch i) =
      inr (then_finds IsId IsGood (id.id_of i) _ (id_finds i) (λ i hi. record { found = record { its_words = hi; its_offer = tt; late = refl } }))
  good_at (route.Update i) =
      inr (then_finds IsId IsGood (id.id_of i) _ (id_finds i)
      (λ i hi. then_finds Anything IsGood (query.accepts_incomplete_in q) _ (accepts_finds q)
      (λ a _. then_finds IsReadable IsGood (body.body_of b) _ (body_finds b)
      (λ v hv. then_finds IsUpdate IsGood (update_in i a v) _ (update_in_finds i a v hi hv)
      (λ p hp. tested_finds IsGood (has_given_plan rules p.service p.plan) (ask.Update p) fault.NotInCatalog refl (λ h. record { its_words = hp; its_offer = given_there p.service p.plan h; late = refl }))))))
  good_at (route.Deprovision i) =
      inr (then_finds IsId IsGood (id.id_of i) _ (id_finds i)
      (λ i hi. then_finds Anything IsGood (query.accepts_incomplete_in q) _ (accepts_finds q)
      (λ a _. then_finds IsId IsGood (query.query_id (codes "service_id") q) _ (id_in_finds (codes "service_id") q)
      (λ s hs. then_finds IsId IsGood (query.query_id (codes "plan_id") q) _ (id_in_finds (codes "plan_id") q)
      (λ p hp. tested_finds IsGood (has_plan rules s p) _ fault.NotInCatalog refl (λ h. record { its_words = (hi, hs, hp); its_offer = there s p h; late = refl }))))))
  good_at (route.InstanceOp i) =
      inr (then_finds IsId IsGood (id.id_of i) _ (id_finds i) (λ i hi. record { found = record { its_words = hi; its_offer = tt; late = refl } }))
  good_at (route.Bind i j) =
      inr (then_finds IsId IsGood (id.id_of i) _ (id_finds i)
      (λ i hi. then_finds IsId IsGood (id.id_of j) _ (id_finds j)
      (λ j hj. then_finds Anything IsGood (query.accepts_incomplete_in q) _ (accepts_finds q)
      (λ a _. then_finds IsReadable IsGood (body.body_of b) _ (body_finds b)
      (λ v hv. then_finds IsBind IsGood (bind_in i j a v) _ (bind_in_finds i j a v hi hj hv)
      (λ p hp. tested_finds IsGood (has_plan rules p.service p.plan) (ask.Bind p) fault.NotInCatalog refl (λ h. record { its_words = hp; its_offer = there p.service p.plan h; late = refl })))))))
  good_at (route.FetchBinding i j) =
      inr (then_finds IsId IsGood (id.id_of i) _ (id_finds i)
      (λ i hi. then_finds IsId IsGood (id.id_of j) _ (id_finds j) (λ j hj. record { found = record { its_words = (hi, hj); its_offer = tt; late = refl } })))
  good_at (route.Unbind i j) =
      inr (then_finds IsId IsGood (id.id_of i) _ (id_finds i)
      (λ i hi. then_finds IsId IsGood (id.id_of j) _ (id_finds j)
      (λ j hj. then_finds Anything IsGood (query.accepts_incomplete_in q) _ (accepts_finds q)
      (λ a _. then_finds IsId IsGood (query.query_id (codes "service_id") q) _ (id_in_finds (codes "service_id") q)
      (λ s hs. then_finds IsId IsGood (query.query_id (codes "plan_id") q) _ (id_in_finds (codes "plan_id") q)
      (λ p hp. tested_finds IsGood (has_plan rules s p) _ fault.NotInCatalog refl (λ h. record { its_words = (hi, hj, hs, hp); its_offer = there s p h; late = refl })))))))
  good_at (route.BindingOp i j) =
      inr (then_finds IsId IsGood (id.id_of i) _ (id_finds i)
      (λ i hi. then_finds IsId IsGood (id.id_of j) _ (id_finds j) (λ j hj. record { found = record { its_words = (hi, hj); its_offer = tt; late = refl } })))
  good_at route.Orders =
      inr (then_finds IsGivenId IsGood (query.after_in q) _ (after_finds q) (λ a ha. record { found = record { its_words = ha; its_offer = tt; late = refl } }))
  good_at (route.Report i n) =
      inr (then_finds IsId IsGood (id.id_of i) _ (id_finds i)
      (λ i hi. then_finds Anything IsGood (id.order_number_of n) _ (number_finds n)
      (λ n _. then_finds IsReadable IsGood (body.body_of b) _ (body_finds b)
      (λ v hv. then_finds IsReport IsGood (report_in i n v) _ (report_in_finds i n v hi hv) (λ r hr. record { found = record { its_words = hr; its_offer = tt; late = refl } })))))

  -- only the route of the catalog leads to what is found early
  pub early_is_catalog : (r : Routed) → asks.is_early (asks.ask_at rules q b r) ≡ true → r ≡ route.Catalog
  early_is_catalog r h = by (good_at r)
    where
      by : (r ≡ route.Catalog) ⊎ Finds Ask IsGood (asks.ask_at rules q b r) → r ≡ route.Catalog
      by (inl e) = e
      by (inr f) = absurd (true≢false (sym h ∙ not_early rules (asks.ask_at rules q b r) f))

  told_at : (r : Routed) → IsTold rules (asks.ask_at rules q b r)
  told_at r = by (good_at r)
    where
      by : (r ≡ route.Catalog) ⊎ Finds Ask IsGood (asks.ask_at rules q b r) → IsTold rules (asks.ask_at rules q b r)
      by (inl e) = subst (λ x. IsTold rules (asks.ask_at rules q b x)) (sym e) (record { told = (tt, tt) })
      by (inr f) = told rules (asks.ask_at rules q b r) f

-- ---- requests

-- a route, or a fault that isn't Memory
abbrev Admitted : Result Routed AskFault → Type 0
Admitted (Ok r) = ⊤
Admitted (Err e) = e ≢ fault.Memory

record IsAdmitted (r : Result Routed AskFault) : Type 0 where
  admitted : Admitted r

unless_kept_out : (b : Bool) (e : AskFault) (later : Result Routed AskFault) → e ≢ fault.Memory → IsAdmitted later → IsAdmitted (cond b (Err e) later)
unless_kept_out true e later other h = record { admitted = other }
unless_kept_out false e later other h = h

needed_or : {A : Type 0} (e : AskFault) (o : Option A) (f : A → Result Routed AskFault) → e ≢ fault.Memory → ((x : A) → IsAdmitted (f x)) → IsAdmitted (needed e o >>= f)
needed_or e None f other later = record { admitted = other }
needed_or e (Some x) f other later = later x

routed : (o : Option Routed) → IsAdmitted (needed fault.NoRoute o)
routed None = record { admitted = λ is. cc }
routed (Some r) = record { admitted = tt }

admission : (rules : Rules) (m : Message) → IsAdmitted (admit_of rules m)
admission rules m =
    needed_or fault.NoDoor (entry_of m.target) (admit_at rules m) (λ is. cc)
    (λ e. unless_kept_out (not (is_let_in rules e.door m.lines)) fault.Auth _ (λ is. cc)
    (unless_kept_out (not (has_version e.door m.lines)) fault.Version _ (λ is. cc) (routed (route_of m.method e))))

told_by : (rules : Rules) (q b : List ℕ) (r : Result Routed AskFault) → IsAdmitted r → IsTold rules (r >>= asks.ask_at rules q b)
told_by rules q b (Ok r) h = told_at rules q b r
told_by rules q b (Err e) h = record { told = h.admitted }

told_of : (rules : Rules) (m : Message) → IsTold rules (asks.ask_of rules m)
told_of rules m = told_by rules (query_of m.target) m.body (admit_of rules m) (admission rules m)

pub never_memory : (rules : Rules) (m : Message) → asks.ask_of rules m ≢ Err fault.Memory
never_memory rules m is = (subst (λ r. IsTold rules r) is (told_of rules m)).told refl

pub valid_texts : (rules : Rules) (m : Message) (a : Ask) → asks.ask_of rules m ≡ Ok a → AskHasValidTexts a
valid_texts rules m a is = (subst (λ r. IsTold rules r) is (told_of rules m)).told.0

pub offered : (rules : Rules) (m : Message) (a : Ask) → asks.ask_of rules m ≡ Ok a → IsOffered rules a
offered rules m a is = (subst (λ r. IsTold rules r) is (told_of rules m)).told.1

-- the same of what a reader of the request answers
pub valid_texts_result : (rules : Rules) (m : Message) (r : Result Ask AskFault) → Meets r (asks.ask_of rules m) → IfOk r AskHasValidTexts
valid_texts_result rules m (Ok a) reads = valid_texts rules m a reads
valid_texts_result rules m (Err e) reads = tt

pub offered_result : (rules : Rules) (m : Message) (r : Result Ask AskFault) → Meets r (asks.ask_of rules m) → IfOk r (IsOffered rules)
offered_result rules m (Ok a) reads = offered rules m a reads
offered_result rules m (Err e) reads = tt
