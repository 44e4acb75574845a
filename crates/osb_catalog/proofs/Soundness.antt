-- What holds of the settings of a file without faults.
use Rattle.std.proofs.Common.{◌≡◌, ℕ, ◌≤◌, ◌<◌, ◌==◌, List, [], ◌∷◌, ◌++◌, length, Bool, true, false, ◌||◌, Option, Some, None, IsSome, IfSome, refl, sym, ap, ◌∙◌, arith, map, cond, nat_lt, codes, bytes_eq, subst, Ordering, Less, Equal, Greater}
use Rattle.std.specs.Prelude.{not, ◌&&◌, option_map, option_and_then, unwrap_or}
use Rattle.std.specs.Option.{option_or, option_map_or}
use Rattle.std.specs.List.{find, IsDistinct, AllByRecursion}
use Rattle.std.specs.Ordering.{match_ordering, nat_cmp}
use Rattle.std.specs.Cmp.Lexicographic.{slice_cmp, nat_list_eq_equiv, same_text}
use Rattle.std.proofs.lemmas.Bool.{and_parts, not-false, true≢false, false≢true, ltb-true}
use Rattle.std.proofs.lemmas.List.{map-append}
use Rattle.serde_json.specs.Data.{Data, null, boolean, number, string, array, object, Items, no_items, item, Members, no_members, member}
use Rattle.serde_json.specs.Find.{get, get_member, as_str, as_object}
use Rattle.serde_json.specs.Written.{compact_text}
use Rattle.osb_text.specs.Id.{is_id}
use Rattle.osb_text.specs.Member.{unless_null, member_of, as_whole}
use Rattle.osb_text.specs.Reading.{is_object}
use Rattle.osb_text.specs.ObjectText.{is_object_text, IsReadable}
use Rattle.osb_text.proofs.ReadableLemmas.{readable_member, object_text, empty_object}
use Rattle.osb_catalog.specs.declared.field.Field.TheVariants as the
use Rattle.osb_catalog.specs.declared.kind.Kind.TheVariants as a
use Rattle.osb_catalog.specs.declared.table.FieldRule.{FieldRule}
use Rattle.osb_catalog.specs.declared.fault.SettingsFault.{SettingsFault}
use Rattle.osb_catalog.specs.declared.fault.SettingsFault.TheVariants as fault
use Rattle.osb_catalog.specs.declared.plan.Plan.{Plan}
use Rattle.osb_catalog.specs.declared.plan.PlanFacts.{PlanFacts}
use Rattle.osb_catalog.specs.declared.plan.Service.{Service}
use Rattle.osb_catalog.specs.Fields.{value_at, text_at, flag_at, services_of, plans_of, modes_of, mode_of_plan}
use Rattle.osb_catalog.specs.Kinds.{is_some_and, is_order_limit}
use Rattle.osb_catalog.specs.Tables.{is_broken, is_broken_by, first_broken, required, optional, file_rules, service_rules, plan_rules, mode_rules}
use Rattle.osb_catalog.specs.Items.{first_in, first_of_members, any_item, any_member, each, all_of_each}
use Rattle.osb_catalog.specs.Missing.{first_missing, missing_in_catalog, missing_in_plans, first_left_out}
use Rattle.osb_catalog.specs.Ids.{is_among, has_double, ids_of, plan_ids, has_double_id}
use Rattle.osb_catalog.specs.Modes.{names_no_plan, binds_later, has_lost_bindings, refuses_modes}
use Rattle.osb_catalog.specs.Versions.{is_version, has_no_version, has_wrong_version, has_plan_of_wrong_version, refuses_versions}
use Rattle.osb_catalog.specs.SettingsData.{SettingsData}
use Rattle.osb_catalog.specs.Contents.{service_of, plan_of, plans_of_service, limit_from, credentials_of, contents_of}
use Rattle.osb_catalog.specs.Faults.{fault_if, first_fault}
use Rattle.osb_catalog.specs.Rules.{rules_of, service_named, plan_named, facts_in}
use Rattle.osb_catalog.specs.Sound.{is_version_or_empty, AreSound, IsFetchable, IsSettings}

-- ---- what it says that no fault stands

neither : {A : Type 0} (x y : Option A) → option_or x y ≡ None → (x ≡ None) × (y ≡ None)
neither None y h = (refl, h)
neither (Some x) y h = cc

unmapped : {A B : Type 0} (f : A → B) (o : Option A) → option_map f o ≡ None → o ≡ None
unmapped f None h = refl
unmapped f (Some x) h = cc

not_if : (e : SettingsFault) (b : Bool) → fault_if e b ≡ None → b ≡ false
not_if e true h = cc
not_if e false h = refl

both_false : (x y : Bool) → (x || y) ≡ false → (x ≡ false) × (y ≡ false)
both_false true y h = absurd (true≢false h)
both_false false y h = (refl, h)

one_not_found : {A : Type 0} (x : A) (b : Bool) (later : Option A) → cond b (Some x) later ≡ None → (b ≡ false) × (later ≡ None)
one_not_found x true later h = cc
one_not_found x false later h = (refl, h)

none_found : {A : Type 0} (p : A → Bool) (xs : List A) → find p xs ≡ None → AllByRecursion (λ x. p x ≡ false) xs
none_found p [] h = tt
none_found p (x ∷ xs) h = let q = one_not_found x (p x) (find p xs) h in (q.0, none_found p xs q.1)

-- the object keeps each of the rules
kept : (rules : List FieldRule) (v : Data) → first_broken rules v ≡ None → AllByRecursion (λ rule. is_broken v rule ≡ false) rules
kept rules v h = none_found (is_broken v) rules (unmapped (λ (rule : FieldRule). rule.field) (find (is_broken v) rules) h)

-- ---- members that are found

some_unless_null : (o : Option Data) (d : Data) → option_and_then unless_null o ≡ Some d → o ≡ Some d
some_unless_null None d h = cc
some_unless_null (Some null) d h = cc
some_unless_null (Some (boolean b)) d h = h
some_unless_null (Some (number n)) d h = h
some_unless_null (Some (string s)) d h = h
some_unless_null (Some (array ds)) d h = h
some_unless_null (Some (object ms)) d h = h

at_place : (o : Ordering) (e d : Data) (later : Option Data) (P : Data → Type 0) → P e → (later ≡ Some d → P d) → match_ordering o later (Some e) later ≡ Some d → P d
at_place Less e d later P here there is = there is
at_place Greater e d later P here there is = there is
at_place Equal e d later P here there is = let same : e ≡ d = cc in subst P same here

-- what holds of the value of each member holds of the one that is found
abbrev AllMembers : (Data → Type 0) → Members → Type 0
AllMembers P no_members = Unit {0}
AllMembers P (member name d ms) = P d × AllMembers P ms

at_member : (P : Data → Type 0) (name : List ℕ) (ms : Members) (d : Data) → AllMembers P ms → get_member name ms ≡ Some d → P d
at_member P name no_members d all is = cc
at_member P name (member k e ms) d all is = at_place (slice_cmp nat_cmp name k) e d (get_member name ms) P all.0 (at_member P name ms d all.1) is

-- a member of what was read was read too
readable_at : (name : List ℕ) (v d : Data) → IsReadable v → member_of name v ≡ Some d → IsReadable d
readable_at name v d readable is = readable_member name v d (some_unless_null (get name v) d is) readable

-- ---- ids

not_among : (id : List ℕ) (ids : List (List ℕ)) → is_among id ids ≡ false → AllByRecursion (λ other. bytes_eq id other ≡ false) ids
not_among id [] h = tt
not_among id (other ∷ ids) h = let p = both_false (bytes_eq id other) (is_among id ids) h in (p.0, not_among id ids p.1)

distinct : (ids : List (List ℕ)) → has_double ids ≡ false → IsDistinct bytes_eq ids
unfolding IsDistinct
distinct [] h = tt
distinct (id ∷ ids) h = let p = both_false (is_among id ids) (has_double ids) h in (not_among id ids p.0, distinct ids p.1)

pub service_ids : (ds : Items) → map (λ (s : Service). s.id) (each service_of ds) ≡ ids_of ds
service_ids no_items = refl
service_ids (item d ds) = ap (λ ids. text_at the.Id d ∷ ids) (service_ids ds)

ids_of_plans : (file service : Data) (ds : Items) → map (λ (p : Plan). p.id) (each (plan_of file service) ds) ≡ ids_of ds
ids_of_plans file service no_items = refl
ids_of_plans file service (item d ds) = ap (λ ids. text_at the.Id d ∷ ids) (ids_of_plans file service ds)

pub all_plan_ids : (file : Data) (ds : Items) → map (λ (p : Plan). p.id) (all_of_each (plans_of_service file) ds) ≡ plan_ids ds
all_plan_ids file no_items = refl
all_plan_ids file (item d ds) =
    map-append (λ (p : Plan). p.id) (plans_of_service file d) (all_of_each (plans_of_service file) ds)
    ∙ ap (λ ids. ids ++ map (λ (p : Plan). p.id) (all_of_each (plans_of_service file) ds)) (ids_of_plans file d (plans_of d))
    ∙ ap (λ ids. ids_of (plans_of d) ++ ids) (all_plan_ids file ds)

id_text : (o : Option (List ℕ)) → is_some_and is_id o ≡ true → is_id (unwrap_or o []) ≡ true
id_text None h = absurd (false≢true h)
id_text (Some text) h = h

id_kept : (o : Option Data) → is_broken_by (required the.Id a.IdText) o ≡ false → is_id (unwrap_or (option_and_then as_str o) []) ≡ true
id_kept None h = absurd (true≢false h)
id_kept (Some d) h = id_text (as_str d) (not-false (is_some_and is_id (as_str d)) h)

-- ---- services

all_services : (ds : Items) → first_in (first_broken service_rules) ds ≡ None → AllByRecursion (λ (s : Service). is_id s.id ≡ true) (each service_of ds)
all_services no_items h = tt
all_services (item d ds) h =
    let p = neither (first_broken service_rules d) (first_in (first_broken service_rules) ds) h in
    (id_kept (value_at the.Id d) (kept service_rules d p.0).0, all_services ds p.1)

abbrev AllItems : (Data → Type 0) → Items → Type 0
AllItems P no_items = Unit {0}
AllItems P (item d ds) = P d × AllItems P ds

some_first : {A : Type 0} (b : Bool) (x : A) (later : Option A) → b ≡ true → IsSome (cond b (Some x) later)
some_first true x later h = refl
some_first false x later h = absurd (false≢true h)

some_later : {A : Type 0} (b : Bool) (x : A) (later : Option A) → IsSome later → IsSome (cond b (Some x) later)
some_later true x later h = refl
some_later false x later h = h

-- each service of the file is found among all
found_services : (ds : Items) (all : List Service) → ((id : List ℕ) → IsSome (service_named (each service_of ds) id) → IsSome (service_named all id)) → AllItems (λ d. IsSome (service_named all (text_at the.Id d))) ds
found_services no_items all among = tt
found_services (item d ds) all among = (
  among (text_at the.Id d) (some_first (bytes_eq (text_at the.Id d) (text_at the.Id d)) (service_of d) (service_named (each service_of ds) (text_at the.Id d)) (nat_list_eq_equiv.refl (text_at the.Id d))),
  found_services ds all (λ id h. among id (some_later (bytes_eq (text_at the.Id d) id) (service_of d) (service_named (each service_of ds) id) h)),
)

-- ---- the limit

in_range : (n : ℕ) (b : Bool) → 0 < n → n < 1000001 → (1 ≤ cond b n 1000000) × (cond b n 1000000 ≤ 1000000)
in_range n true some most = (omega arith, omega arith)
in_range n false some most = (omega arith, omega arith)

limit_found : (n : Option ℕ) → is_some_and is_order_limit n ≡ true → (1 ≤ limit_from n) × (limit_from n ≤ 1000000)
limit_found None h = absurd (false≢true h)
limit_found (Some n) h = let p = and_parts (nat_lt 0 n) (nat_lt n 1000001) h in in_range n (nat_lt n 1000001) (ltb-true 0 n p.0) (ltb-true n 1000001 p.1)

limit_kept : (o : Option Data) → is_broken_by (optional the.OrdersPerInstance a.OrderLimit) o ≡ false → (1 ≤ limit_from (option_and_then as_whole o)) × (limit_from (option_and_then as_whole o) ≤ 1000000)
limit_kept None h = (omega arith, omega arith)
limit_kept (Some d) h = limit_found (as_whole d) (not-false (is_some_and is_order_limit (as_whole d)) h)

-- ---- versions

or_true : (b : Bool) → (b || true) ≡ true
or_true true = refl
or_true false = refl

version_kept : (o : Option Data) → is_some_and has_no_version o ≡ false → is_version_or_empty (option_map_or (text_at the.Version) o []) ≡ true
version_kept None h = refl
version_kept (Some info) h =
    ap (λ b. (length (text_at the.Version info) == 0) || b) (not-false (is_version (text_at the.Version info)) h)
    ∙ or_true (length (text_at the.Version info) == 0)

-- ---- credentials

credentials_kept : (o : Option Data) → is_broken_by (optional the.Credentials a.Object) o ≡ false → ((d : Data) → o ≡ Some d → IsReadable d) → is_object_text (option_map_or compact_text o (codes "{}")) ≡ true
credentials_kept None h readable = empty_object
credentials_kept (Some d) h readable = object_text d (readable d refl) (not-false (is_object d) h)

mode_kept : (mode : Data) → IsReadable mode → first_broken mode_rules mode ≡ None → is_object_text (credentials_of mode) ≡ true
mode_kept mode readable h = credentials_kept (value_at the.Credentials mode) (kept mode_rules mode h).1.1.0 (λ d is. readable_at (codes "credentials") mode d readable is)

none_in_members : {A : Type 0} (f : Data → Option A) (ms : Members) → first_of_members f ms ≡ None → AllMembers (λ d. f d ≡ None) ms
none_in_members f no_members h = tt
none_in_members f (member name d ms) h = let p = neither (f d) (first_of_members f ms) h in (p.0, none_in_members f ms p.1)

mode_found : (ms : Members) → IsReadable (object ms) → first_of_members (first_broken mode_rules) ms ≡ None → (id : List ℕ) (o : Option Data) → option_and_then unless_null (get_member id ms) ≡ o → is_object_text (credentials_of (unwrap_or o null)) ≡ true
mode_found ms readable h id None is = empty_object
mode_found ms readable h id (Some mode) is =
    let found = some_unless_null (get_member id ms) mode is in
    mode_kept mode (readable_at id (object ms) mode readable is) (at_member (λ d. first_broken mode_rules d ≡ None) id ms mode (none_in_members (first_broken mode_rules) ms h) found)

modes_kept : (o : Option Data) → ((d : Data) → o ≡ Some d → IsReadable d) → first_of_members (first_broken mode_rules) (unwrap_or (option_and_then as_object o) no_members) ≡ None → (id : List ℕ) → is_object_text (credentials_of (unwrap_or (option_and_then (member_of id) o) null)) ≡ true
modes_kept None readable h id = empty_object
modes_kept (Some null) readable h id = empty_object
modes_kept (Some (boolean b)) readable h id = empty_object
modes_kept (Some (number n)) readable h id = empty_object
modes_kept (Some (string s)) readable h id = empty_object
modes_kept (Some (array ds)) readable h id = empty_object
modes_kept (Some (object ms)) readable h id = mode_found ms (readable (object ms) refl) h id (option_and_then unless_null (get_member id ms)) refl

-- ---- plans

record IsSoundPlan (services : List Service) (plan : Plan) : Type 0 where
  id : is_id plan.id ≡ true
  service : IsSome (service_named services plan.service)
  version : is_version_or_empty plan.facts.version ≡ true
  credentials : is_object_text plan.mode.credentials ≡ true

abbrev HasCredentials : Data → Type 0
HasCredentials file = (id : List ℕ) → is_object_text (credentials_of (mode_of_plan file id)) ≡ true

plans_of_one : (file service : Data) (all : List Service) → HasCredentials file → IsSome (service_named all (text_at the.Id service)) → (ds : Items) → first_in (first_broken plan_rules) ds ≡ None → any_item has_wrong_version ds ≡ false → AllByRecursion (IsSoundPlan all) (each (plan_of file service) ds)
plans_of_one file service all good found no_items h versions = tt
plans_of_one file service all good found (item d ds) h versions =
    let p = neither (first_broken plan_rules d) (first_in (first_broken plan_rules) ds) h in
    let v = both_false (has_wrong_version d) (any_item has_wrong_version ds) versions in (
      record {
        id = id_kept (value_at the.Id d) (kept plan_rules d p.0).0;
        service = found;
        version = version_kept (value_at the.MaintenanceInfo d) v.0;
        credentials = good (text_at the.Id d);
      },
      plans_of_one file service all good found ds p.1 v.1,
    )

all_append : {X : Type 0} (P : X → Type 0) (xs ys : List X) → AllByRecursion P xs → AllByRecursion P ys → AllByRecursion P (xs ++ ys)
all_append P [] ys h k = k
all_append P (x ∷ xs) ys h k = (h.0, all_append P xs ys h.1 k)

plans_of_all : (file : Data) (all : List Service) → HasCredentials file → (ds : Items) → AllItems (λ d. IsSome (service_named all (text_at the.Id d))) ds → first_in missing_in_plans ds ≡ None → any_item has_plan_of_wrong_version ds ≡ false → AllByRecursion (IsSoundPlan all) (all_of_each (plans_of_service file) ds)
plans_of_all file all good no_items found h versions = tt
plans_of_all file all good (item d ds) found h versions =
    let p = neither (missing_in_plans d) (first_in missing_in_plans ds) h in
    let v = both_false (has_plan_of_wrong_version d) (any_item has_plan_of_wrong_version ds) versions in
    all_append (IsSoundPlan all) (plans_of_service file d) (all_of_each (plans_of_service file) ds)
    (plans_of_one file d all good found.0 (plans_of d) p.0 v.0)
    (plans_of_all file all good ds found.1 p.1 v.1)

-- ---- asynchronous bindings can be fetched

-- of a service whose bindings can't be fetched, no plan binds later
fetched_one : (can later others : Bool) → (not can && (later || others)) ≡ false → (later ≡ true → can ≡ true) × ((not can && others) ≡ false)
fetched_one true later others h = (λ _. refl, refl)
fetched_one false later others h = let p = both_false later others h in (λ is. absurd (false≢true (sym p.0 ∙ is)), p.1)

fetched_of_one : (file service : Data) (ds : Items) → (not (flag_at the.BindingsRetrievable service) && any_item (binds_later file) ds) ≡ false → AllByRecursion IsFetchable (each (plan_of file service) ds)
fetched_of_one file service no_items h = tt
fetched_of_one file service (item d ds) h =
    let p = fetched_one (flag_at the.BindingsRetrievable service) (binds_later file d) (any_item (binds_later file) ds) h in
    (p.0, fetched_of_one file service ds p.1)

fetched_of_all : (file : Data) (ds : Items) → any_item (has_lost_bindings file) ds ≡ false → AllByRecursion IsFetchable (all_of_each (plans_of_service file) ds)
fetched_of_all file no_items h = tt
fetched_of_all file (item d ds) h =
    let p = both_false (has_lost_bindings file d) (any_item (has_lost_bindings file) ds) h in
    all_append IsFetchable (plans_of_service file d) (all_of_each (plans_of_service file) ds)
    (fetched_of_one file d (plans_of d) p.0) (fetched_of_all file ds p.1)

-- ---- the look-ups

abbrev IfFound : {A : Type 0} → (A → Type 0) → (A → Bool) → Option A → Type 0
IfFound P p None = Unit {0}
IfFound P p (Some x) = P x × (p x ≡ true)

found_by : {A : Type 0} (P : A → Type 0) (p : A → Bool) (x : A) (b : Bool) (later : Option A) → p x ≡ b → P x → IfFound P p later → IfFound P p (cond b (Some x) later)
found_by P p x true later is h k = (h, is)
found_by P p x false later is h k = k

found : {A : Type 0} (P : A → Type 0) (p : A → Bool) (xs : List A) → AllByRecursion P xs → IfFound P p (find p xs)
found P p [] h = tt
found P p (x ∷ xs) h = found_by P p x (p x) (find p xs) refl h.0 (found P p xs h.1)

service_id_is : (id : List ℕ) (o : Option Service) → IfFound (λ (s : Service). is_id s.id ≡ true) (λ (s : Service). bytes_eq s.id id) o → IsSome o → is_id id ≡ true
service_id_is id None h is = absurd (false≢true is)
service_id_is id (Some s) h is = subst (λ (t : List ℕ). is_id t ≡ true) (same_text s.id id (sym h.1)) h.0

-- what a plan that was found under an id says of that id
abbrev IsFoundPlan : List Service → List ℕ → Option Plan → Type 0
IsFoundPlan services id = IfFound (IsSoundPlan services) (λ (p : Plan). bytes_eq p.id id)

of_service : (b : Bool) (facts : PlanFacts) → IsSome (cond b (Some facts) None) → b ≡ true
of_service true facts is = refl
of_service false facts is = absurd (false≢true is)

plan_id_is : (services : List Service) (service id : List ℕ) (o : Option Plan) → IsFoundPlan services id o → IsSome (option_and_then (facts_in service) o) → is_id id ≡ true
plan_id_is services service id None h is = absurd (false≢true is)
plan_id_is services service id (Some p) h is = subst (λ (t : List ℕ). is_id t ≡ true) (same_text p.id id (sym h.1)) h.0.id

plan_service_is : (services : List Service) (service id : List ℕ) (o : Option Plan) → IsFoundPlan services id o → IsSome (option_and_then (facts_in service) o) → IsSome (service_named services service)
plan_service_is services service id None h is = absurd (false≢true is)
plan_service_is services service id (Some p) h is = subst (λ (t : List ℕ). IsSome (service_named services t)) (same_text p.service service (sym (of_service (bytes_eq p.service service) p.facts is))) h.0.service

one_service_is : (service other : List ℕ) (o : Option Plan) → IsSome (option_and_then (facts_in service) o) → IsSome (option_and_then (facts_in other) o) → service ≡ other
one_service_is service other None is also = absurd (false≢true is)
one_service_is service other (Some p) is also =
    sym (same_text p.service service (sym (of_service (bytes_eq p.service service) p.facts is)))
    ∙ same_text p.service other (sym (of_service (bytes_eq p.service other) p.facts also))

plan_mode_is : (service : List ℕ) (o : Option Plan) → IsSome (option_and_then (facts_in service) o) → IsSome (option_map (λ (p : Plan). p.mode) o)
plan_mode_is service None is = absurd (false≢true is)
plan_mode_is service (Some p) is = refl

if_of_service : (b : Bool) (facts : PlanFacts) (P : PlanFacts → Type 0) → P facts → IfSome (cond b (Some facts) None) P
if_of_service true facts P h = h
if_of_service false facts P h = tt

plan_version_is : (services : List Service) (service id : List ℕ) (o : Option Plan) → IsFoundPlan services id o → IfSome (option_and_then (facts_in service) o) (λ facts. is_version_or_empty facts.version ≡ true)
plan_version_is services service id None h = tt
plan_version_is services service id (Some p) h = if_of_service (bytes_eq p.service service) p.facts (λ facts. is_version_or_empty facts.version ≡ true) h.0.version

plan_credentials_are : (services : List Service) (id : List ℕ) (o : Option Plan) → IsFoundPlan services id o → IfSome (option_map (λ (p : Plan). p.mode) o) (λ mode. is_object_text mode.credentials ≡ true)
plan_credentials_are services id None h = tt
plan_credentials_are services id (Some p) h = h.0.credentials

rules_are : (s : SettingsData) → (1 ≤ s.order_limit) × (s.order_limit ≤ 1000000) → AllByRecursion (λ (x : Service). is_id x.id ≡ true) s.services → AllByRecursion (IsSoundPlan s.services) s.plans → AreSound (rules_of s)
rules_are s limit services plans =
    let plan : (id : List ℕ) → IsFoundPlan s.services id (plan_named s.plans id) = λ id. found (IsSoundPlan s.services) (λ (p : Plan). bytes_eq p.id id) s.plans plans in
    record {
      some_orders = limit.0;
      most_orders = limit.1;
      service_id = λ id is. service_id_is id (service_named s.services id) (found (λ (x : Service). is_id x.id ≡ true) (λ (x : Service). bytes_eq x.id id) s.services services) is;
      plan_id = λ service id is. plan_id_is s.services service id (plan_named s.plans id) (plan id) is;
      service = λ service id is. plan_service_is s.services service id (plan_named s.plans id) (plan id) is;
      one_service = λ service other id is also. one_service_is service other (plan_named s.plans id) is also;
      mode = λ service id is. plan_mode_is service (plan_named s.plans id) is;
      version = λ service id. plan_version_is s.services service id (plan_named s.plans id) (plan id);
      credentials = λ id. plan_credentials_are s.services id (plan_named s.plans id) (plan id);
    }

-- ---- the whole

pub contents_are : (file : Data) → IsReadable file → first_fault file ≡ None → IsSettings (contents_of file)
contents_are file readable h =
    let missing = neither (option_map fault.Missing (first_missing file)) _ h in
    let tables = unmapped fault.Missing (first_missing file) missing.0 in
    let in_file = neither (first_broken file_rules file) _ tables in
    let in_catalog = neither (missing_in_catalog file) _ in_file.1 in
    let in_services = neither (first_in (first_broken service_rules) (services_of file)) _ in_catalog.1 in
    let in_plans = neither (first_in missing_in_plans (services_of file)) _ in_services.1 in
    let in_modes = neither (first_of_members (first_broken mode_rules) (modes_of file)) None in_plans.1 in
    let double = neither (fault_if fault.DoubleId (has_double_id file)) _ missing.1 in
    let ids = both_false (has_double (ids_of (services_of file))) (has_double (plan_ids (services_of file))) (not_if fault.DoubleId (has_double_id file) double.0) in
    let left_out = neither (option_map fault.LeftOut (first_left_out file)) _ double.1 in
    let version = neither (fault_if fault.Version (refuses_versions file)) _ left_out.1 in
    let versions = not_if fault.Version (refuses_versions file) version.0 in
    let mode = neither (fault_if fault.Mode (refuses_modes file)) _ version.1 in
    let modes = both_false (any_member (names_no_plan (services_of file)) (modes_of file)) (any_item (has_lost_bindings file) (services_of file)) (not_if fault.Mode (refuses_modes file) mode.0) in
    let good : HasCredentials file = modes_kept (value_at the.Modes file) (λ d is. readable_at (codes "modes") file d readable is) in_modes.0 in
    let all = each service_of (services_of file) in
    record {
      services = subst (λ (y : List (List ℕ)). IsDistinct bytes_eq y) (sym (service_ids (services_of file))) (distinct (ids_of (services_of file)) ids.0);
      plans = subst (λ (y : List (List ℕ)). IsDistinct bytes_eq y) (sym (all_plan_ids file (services_of file))) (distinct (plan_ids (services_of file)) ids.1);
      fetched = fetched_of_all file (services_of file) modes.1;
      rules = rules_are (contents_of file)
          (limit_kept (value_at the.OrdersPerInstance file) (kept file_rules file in_file.0).1.1.1.1.0)
          (all_services (services_of file) in_services.0)
          (plans_of_all file all good (services_of file) (found_services (services_of file) all (λ id is. is)) in_plans.0 versions);
    }

-- the same of settings whose parts are those of the file
pub parts_are : (file : Data) (s : SettingsData) → IsReadable file → first_fault file ≡ None → s.catalog ≡ (contents_of file).catalog → s.services ≡ (contents_of file).services → s.plans ≡ (contents_of file).plans → s.order_limit ≡ (contents_of file).order_limit → s.platform_tokens ≡ (contents_of file).platform_tokens → s.backend_tokens ≡ (contents_of file).backend_tokens → IsSettings s
parts_are file s readable h catalog services plans limit platform backend =
    let same : contents_of file ≡ s = λ i. record {
      catalog = (sym catalog) i;
      services = (sym services) i;
      plans = (sym plans) i;
      order_limit = (sym limit) i;
      platform_tokens = (sym platform) i;
      backend_tokens = (sym backend) i;
    } in
    subst (λ (d : SettingsData). IsSettings d) same (contents_are file readable h)
