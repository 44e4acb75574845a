-- What lacks the logins of its door changes nothing and learns nothing, and each door has its own asks.
use Rattle.std.proofs.Common.{◌≡◌, ℕ, Bool, true, false, not, ◌==◌, List, [], ◌∷◌, drop, take, codes, bytes_eq, Option, Some, None, IfSome, Result, Ok, Err, refl, sym, ap, subst, ◌∙◌, inl, inr, ◌⊎◌}
use Rattle.std.specs.Prelude.{if◌then◌else◌}
use Rattle.std.specs.List.{slice_get}
use Rattle.std.specs.Option.{option_map_or, option_and_then}
use Rattle.std.specs.Str.{str_to_ascii_lowercase}
use Rattle.std.proofs.lemmas.Bool.{and_parts}
use Rattle.std.proofs.lemmas.List.Folds.{Any-from_list_any}
use Rattle.std.proofs.lemmas.Slice.Eq.{bytes_eq-Decides}
use Rattle.osb_frames.specs.Fields.{values_of}
use Rattle.osb_frames.specs.Cuts.{Message}
use Rattle.osb_catalog.specs.Rules.{Rules}
use Rattle.osb_asks.specs.declared.ask.Ask.{Ask}
use Rattle.osb_asks.specs.declared.ask.Ask.TheVariants as the
use Rattle.osb_asks.specs.declared.ask_fault.AskFault.{AskFault}
use Rattle.osb_asks.specs.declared.ask_fault.AskFault.TheVariants.{Auth, Version, NoDoor, NoRoute}
use Rattle.osb_asks.specs.Reads.{◌>>=◌, needed}
use Rattle.osb_asks.specs.Credentials.{after_spaces, is_spaced, is_login, is_some_login}
use Rattle.osb_asks.specs.Targets.{query_of}
use Rattle.osb_asks.specs.Doors.{Entrance, entry_of}
use Rattle.osb_asks.specs.Resources.{Named, catalog, orders, instance, instance_operation, binding, binding_operation, order, resource_at}
use Rattle.osb_asks.specs.Paths.{IsPathOf, door_of}
use Rattle.osb_asks.specs.Routes.{Routed, method_of, route_at}
use Rattle.osb_asks.specs.Routes as route
use Rattle.osb_asks.specs.Ids as id
use Rattle.osb_asks.specs.Queries as query
use Rattle.osb_asks.specs.Bodies as body
use Rattle.osb_asks.specs.Offers.{has_plan, has_given_plan, if_offered}
use Rattle.osb_asks.specs.Instances.{provision_in, provision_of, fetch_of, update_in, update_of, deprovision_of, instance_op_of}
use Rattle.osb_asks.specs.Bindings.{bind_in, bind_of, fetch_binding_of, unbind_of, binding_op_of}
use Rattle.osb_asks.specs.Backend.{orders_of, report_in, report_of}
use Rattle.osb_asks.specs.Admission.{is_let_in, has_version, route_of, admit_at}
use Rattle.osb_asks.specs.Asks.{ask_at, ask_of, is_early}
use Rattle.osb_orders.specs.Lives.{Lives}
use Rattle.osb_orders.proofs.GrowLemmas.{choose}
use Rattle.osb_broker.specs.Faults.{fault_answer}
use Rattle.osb_broker.specs.Steps.{machine, step_for}
use Rattle.osb_broker.specs.Logins.{IsUnknown, is_of_backend, has_login, ShareOne}

-- ---- without a login

pub unknown_learn_nothing : (rules : Rules) (lives : Lives) (q : Message) → IsUnknown rules q → ((machine rules).step lives q ≡ (fault_answer Auth, lives)) × ((machine rules).takes_memory q ≡ false)
unknown_learn_nothing rules lives q unknown =
    let e = unknown.entrance in
    let asked : ask_of rules q ≡ Err Auth =
    ap (λ (found : Option Entrance). (needed NoDoor found >>= admit_at rules q) >>= ask_at rules (query_of q.target) q.body) unknown.enters
    ∙ ap (λ (b : Bool). (if not b then Err Auth else (if not (has_version e.door q.lines) then Err Version else needed NoRoute (route_of q.method e))) >>= ask_at rules (query_of q.target) q.body) unknown.out in
    (ap (step_for rules lives) asked, ap (λ r. not (is_early r)) asked)

-- ---- what a route leads to

abbrev SidedBy : Bool → Result Ask AskFault → Type 0
SidedBy b (Ok a) = is_of_backend a ≡ b
SidedBy b (Err e) = Unit {0}

record Sided (b : Bool) (r : Result Ask AskFault) : Type 0 where
  sided : SidedBy b r

then_sided : {A : Type 0} (b : Bool) (r : Result A AskFault) (f : A → Result Ask AskFault) → ((x : A) → Sided b (f x)) → Sided b (r >>= f)
then_sided b (Ok x) f later = later x
then_sided b (Err e) f later = record { sided = tt }

offered_sided : (b offered : Bool) (a : Ask) → is_of_backend a ≡ b → Sided b (if_offered offered a)
offered_sided b true a is = record { sided = is }
offered_sided b false a is = record { sided = tt }

sided_ask : (b : Bool) (r : Result Ask AskFault) (ask : Ask) → Sided b r → r ≡ Ok ask → is_of_backend ask ≡ b
sided_ask b (Ok a) ask s is = let same : a ≡ ask = cc in ap is_of_backend (sym same) ∙ s.sided
sided_ask b (Err e) ask s is = cc

abbrev of_route : Routed → Bool
of_route route.Orders = true
of_route (route.Report i n) = true
of_route _ = false

abbrev of_named : Named → Bool
of_named orders = true
of_named (order i n) = true
of_named _ = false

module _ (rules : Rules) (q b : List ℕ) where
  ask_sided : (r : Routed) → Sided (of_route r) (ask_at rules q b r)
  unfolding provision_of fetch_of update_of deprovision_of instance_op_of bind_of fetch_binding_of unbind_of binding_op_of orders_of report_of
  ask_sided route.Catalog = record { sided = refl }
  ask_sided (route.Provision i) =
      then_sided false (id.id_of i) _ (λ i. then_sided false (query.accepts_incomplete_in q) _ (λ a. then_sided false (body.body_of b) _ (λ v.
      then_sided false (provision_in i a v) _ (λ p. offered_sided false (has_plan rules p.service p.plan) (the.Provision p) refl))))
  ask_sided (route.Fetch i) = then_sided false (id.id_of i) _ (λ i. record { sided = refl })
  ask_sided (route.Update i) =
      then_sided false (id.id_of i) _ (λ i. then_sided false (query.accepts_incomplete_in q) _ (λ a. then_sided false (body.body_of b) _ (λ v.
      then_sided false (update_in i a v) _ (λ p. offered_sided false (has_given_plan rules p.service p.plan) (the.Update p) refl))))
  ask_sided (route.Deprovision i) =
      then_sided false (id.id_of i) _ (λ i. then_sided false (query.accepts_incomplete_in q) _ (λ a. then_sided false (query.query_id (codes "service_id") q) _ (λ s.
      then_sided false (query.query_id (codes "plan_id") q) _ (λ p. offered_sided false (has_plan rules s p) _ refl))))
  ask_sided (route.InstanceOp i) = then_sided false (id.id_of i) _ (λ i. record { sided = refl })
  ask_sided (route.Bind i j) =
      then_sided false (id.id_of i) _ (λ i. then_sided false (id.id_of j) _ (λ j. then_sided false (query.accepts_incomplete_in q) _ (λ a. then_sided false (body.body_of b) _ (λ v.
      then_sided false (bind_in i j a v) _ (λ p. offered_sided false (has_plan rules p.service p.plan) (the.Bind p) refl)))))
  ask_sided (route.FetchBinding i j) = then_sided false (id.id_of i) _ (λ i. then_sided false (id.id_of j) _ (λ j. record { sided = refl }))
  ask_sided (route.Unbind i j) =
      then_sided false (id.id_of i) _ (λ i. then_sided false (id.id_of j) _ (λ j. then_sided false (query.accepts_incomplete_in q) _ (λ a. then_sided false (query.query_id (codes "service_id") q) _ (λ s.
      then_sided false (query.query_id (codes "plan_id") q) _ (λ p. offered_sided false (has_plan rules s p) _ refl)))))
  ask_sided (route.BindingOp i j) = then_sided false (id.id_of i) _ (λ i. then_sided false (id.id_of j) _ (λ j. record { sided = refl }))
  ask_sided route.Orders = then_sided true (query.after_in q) _ (λ a. record { sided = refl })
  ask_sided (route.Report i n) =
      then_sided true (id.id_of i) _ (λ i. then_sided true (id.order_number_of n) _ (λ n. then_sided true (body.body_of b) _ (λ v.
      then_sided true (report_in i n v) _ (λ r. record { sided = refl }))))

-- of each method, what a place is asked by it
abbrev Asked : List ℕ → Named → Type 0
Asked name n = IfSome (option_and_then (λ method. route_at method n) (method_of name)) (λ r. of_route r ≡ of_named n)

by_get : (n : Named) → Asked (codes "GET") n
by_get catalog = refl
by_get orders = refl
by_get (instance i) = refl
by_get (instance_operation i) = refl
by_get (binding i b) = refl
by_get (binding_operation i b) = refl
by_get (order i n) = tt

by_put : (n : Named) → Asked (codes "PUT") n
by_put catalog = tt
by_put orders = tt
by_put (instance i) = refl
by_put (instance_operation i) = tt
by_put (binding i b) = refl
by_put (binding_operation i b) = tt
by_put (order i n) = refl

by_patch : (n : Named) → Asked (codes "PATCH") n
by_patch catalog = tt
by_patch orders = tt
by_patch (instance i) = refl
by_patch (instance_operation i) = tt
by_patch (binding i b) = tt
by_patch (binding_operation i b) = tt
by_patch (order i n) = tt

by_delete : (n : Named) → Asked (codes "DELETE") n
by_delete catalog = tt
by_delete orders = tt
by_delete (instance i) = refl
by_delete (instance_operation i) = tt
by_delete (binding i b) = refl
by_delete (binding_operation i b) = tt
by_delete (order i n) = tt

by_method : (name : List ℕ) (n : Named) → Asked name n
by_method name n =
    choose (λ o. IfSome (option_and_then (λ method. route_at method n) o) (λ r. of_route r ≡ of_named n)) (bytes_eq name (codes "GET")) _ _ (λ _. by_get n)
    (λ _. choose (λ o. IfSome (option_and_then (λ method. route_at method n) o) (λ r. of_route r ≡ of_named n)) (bytes_eq name (codes "PUT")) _ _ (λ _. by_put n)
    (λ _. choose (λ o. IfSome (option_and_then (λ method. route_at method n) o) (λ r. of_route r ≡ of_named n)) (bytes_eq name (codes "PATCH")) _ _ (λ _. by_patch n)
    (λ _. choose (λ o. IfSome (option_and_then (λ method. route_at method n) o) (λ r. of_route r ≡ of_named n)) (bytes_eq name (codes "DELETE")) _ _ (λ _. by_delete n) (λ _. tt))))

none_found : {A B : Type 0} (o : Option A) (x : B) → option_and_then (λ y. None) o ≡ Some x → ⊥
none_found None x e = cc
none_found (Some y) x e = cc

some_if : {A : Type 0} (P : A → Type 0) (o : Option A) (x : A) → IfSome o P → o ≡ Some x → P x
some_if P None x h is = cc
some_if P (Some y) x h is = let same : y ≡ x = cc in subst P same h

-- what stands behind a door is its own
abbrev pub PlacesHaveDoors : Type 0
PlacesHaveDoors = (e : Entrance) (n : Named) → resource_at e.door e.behind ≡ Some n → IsPathOf e.door e.behind n

-- the place that an ask came by, with the login of its door
record CameBy (rules : Rules) (q : Message) (ask : Ask) : Type 0 where
  named : Named
  let_in : is_let_in rules (door_of named) q.lines ≡ true
  own : is_of_backend ask ≡ of_named named

came_by : PlacesHaveDoors → (rules : Rules) (q : Message) (ask : Ask) → ask_of rules q ≡ Ok ask → CameBy rules q ask
came_by places rules q ask asked = entering (entry_of q.target) asked
  where
    entering : (o : Option Entrance) → ((needed NoDoor o >>= admit_at rules q) >>= ask_at rules (query_of q.target) q.body) ≡ Ok ask → CameBy rules q ask
    entering None is = cc
    entering (Some e) is = letting (is_let_in rules e.door q.lines) refl is
      where
        arriving : is_let_in rules e.door q.lines ≡ true → (o : Option Named) → resource_at e.door e.behind ≡ o → (r : Routed) → option_and_then (λ method. option_and_then (route_at method) o) (method_of q.method) ≡ Some r → ask_at rules (query_of q.target) q.body r ≡ Ok ask → CameBy rules q ask
        arriving let_in None at r by is = absurd (none_found (method_of q.method) r by)
        arriving let_in (Some n) at r by is = record {
          named = n;
          let_in = ap (λ d. is_let_in rules d q.lines) (sym (places e n at).door_is) ∙ let_in;
          own =
              sided_ask (of_route r) (ask_at rules (query_of q.target) q.body r) ask (ask_sided rules (query_of q.target) q.body r) is
              ∙ some_if (λ r. of_route r ≡ of_named n) (option_and_then (λ method. route_at method n) (method_of q.method)) r (by_method q.method n) by;
        }

        routing : is_let_in rules e.door q.lines ≡ true → (o : Option Routed) → route_of q.method e ≡ o → (needed NoRoute o >>= ask_at rules (query_of q.target) q.body) ≡ Ok ask → CameBy rules q ask
        routing let_in None by is = cc
        routing let_in (Some r) by is = arriving let_in (resource_at e.door e.behind) refl r by is

        versioning : is_let_in rules e.door q.lines ≡ true → (v : Bool) → ((if not v then Err Version else needed NoRoute (route_of q.method e)) >>= ask_at rules (query_of q.target) q.body) ≡ Ok ask → CameBy rules q ask
        versioning let_in false is = cc
        versioning let_in true is = routing let_in (route_of q.method e) refl is

        letting : (b : Bool) → is_let_in rules e.door q.lines ≡ b → ((if not b then Err Auth else (if not (has_version e.door q.lines) then Err Version else needed NoRoute (route_of q.method e))) >>= ask_at rules (query_of q.target) q.body) ≡ Ok ask → CameBy rules q ask
        letting false out is = cc
        letting true let_in is = versioning let_in (has_version e.door q.lines) is

abbrev HasOwn : Rules → Message → Ask → Type 0
HasOwn rules q ask = ((is_of_backend ask ≡ true) × (has_login rules.backend_tokens q ≡ true)) ⊎ ((is_of_backend ask ≡ false) × (has_login rules.platform_tokens q ≡ true))

pub asks_have_logins : PlacesHaveDoors → (rules : Rules) (q : Message) (ask : Ask) → ask_of rules q ≡ Ok ask →
    ((is_of_backend ask ≡ true) × (has_login rules.backend_tokens q ≡ true)) ⊎ ((is_of_backend ask ≡ false) × (has_login rules.platform_tokens q ≡ true))
asks_have_logins places rules q ask asked =
    let it = came_by places rules q ask asked in
    by it.named it.let_in it.own
  where
    by : (n : Named) → is_let_in rules (door_of n) q.lines ≡ true → is_of_backend ask ≡ of_named n → HasOwn rules q ask
    by orders let_in own = inl (own, let_in)
    by (order i n) let_in own = inl (own, let_in)
    by catalog let_in own = inr (own, let_in)
    by (instance i) let_in own = inr (own, let_in)
    by (instance_operation i) let_in own = inr (own, let_in)
    by (binding i b) let_in own = inr (own, let_in)
    by (binding_operation i b) let_in own = inr (own, let_in)

-- ---- a value is one login

one_token : (t u : List ℕ) (bytes : List ℕ) → is_spaced t bytes ≡ true → is_spaced u bytes ≡ true → t ≡ u
one_token t u [] a b = cc
one_token t u (byte ∷ bytes) a b =
    sym ((bytes_eq-Decides (after_spaces bytes) t).0 (and_parts (byte == 32) (bytes_eq (after_spaces bytes) t) a).1)
    ∙ (bytes_eq-Decides (after_spaces bytes) u).0 (and_parts (byte == 32) (bytes_eq (after_spaces bytes) u) b).1

one_login : (t u value : List ℕ) → is_login t value ≡ true → is_login u value ≡ true → t ≡ u
one_login t u value a b =
    let basic = bytes_eq (str_to_ascii_lowercase (take 5 value)) (codes "basic") in
    one_token t u (drop 5 value) (and_parts basic (is_spaced t (drop 5 value)) a).1 (and_parts basic (is_spaced u (drop 5 value)) b).1

-- what is a login of both has a token of both
in_both : (tokens others : List (List ℕ)) (value : Option (List ℕ)) → option_map_or (is_some_login tokens) value false ≡ true → option_map_or (is_some_login others) value false ≡ true → ShareOne tokens others
in_both tokens others None a b = cc
in_both tokens others (Some value) a b =
    let one = Any-from_list_any (λ token. is_login token value) tokens a in
    let other = Any-from_list_any (λ token. is_login token value) others b in
    (one.0, one.1, one.2, one.3, (other.0, other.1, other.2, other.3, one_login one.1 other.1 value one.4 other.4))

pub platform_reports_nothing : PlacesHaveDoors → (rules : Rules) (q : Message) (ask : Ask) → ¬ ShareOne rules.platform_tokens rules.backend_tokens → has_login rules.platform_tokens q ≡ true → ask_of rules q ≡ Ok ask → is_of_backend ask ≡ false
platform_reports_nothing places rules q ask apart let_in asked = by (asks_have_logins places rules q ask asked)
  where
    by : HasOwn rules q ask → is_of_backend ask ≡ false
    by (inl both) = absurd (apart (in_both rules.platform_tokens rules.backend_tokens (slice_get (values_of (codes "authorization") q.lines) 0) let_in both.1))
    by (inr it) = it.0
