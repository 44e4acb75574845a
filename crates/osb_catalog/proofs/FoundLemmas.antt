-- A fault that a file has stands at some place.
use Rattle.std.proofs.Common.{◌≡◌, ℕ, ◌+◌, Bool, true, false, not, ◌&&◌, ◌||◌, cond, List, [], ◌∷◌, Option, None, Some, Result, Ok, Err, bytes_eq, refl, sym, ap, subst, ◌∙◌, ◌⊎◌, inl, inr}
use Rattle.std.specs.Prelude.{is_some, option_and_then, ◌≢◌}
use Rattle.std.specs.Option.{option_or}
use Rattle.std.specs.List.{list_any}
use Rattle.std.proofs.lemmas.List.Folds.{list_any-append}
use Rattle.std.proofs.lemmas.Slice.Eq.{bytes_eq-Decides}
use Rattle.serde_json.specs.Data.{Data, Items, no_items, item, Members, no_members, member}
use Rattle.osb_text.specs.Reading.{object_of}
use Rattle.osb_text.specs.declared.fault.TextFault.{TextFault}
use Rattle.osb_catalog.specs.declared.field.Field.{Field}
use Rattle.osb_catalog.specs.declared.field.Field.TheVariants as the
use Rattle.osb_catalog.specs.declared.fault.SettingsFault.{SettingsFault}
use Rattle.osb_catalog.specs.declared.fault.SettingsFault.TheVariants as a
use Rattle.osb_catalog.specs.declared.found.Place.{Place}
use Rattle.osb_catalog.specs.declared.found.Place.TheVariants.{File, Catalog, Platform, Backend, Service, Plan, Mode}
use Rattle.osb_catalog.specs.declared.table.FieldRule.{FieldRule}
use Rattle.osb_catalog.specs.Fields.{field_name, text_at, flag_at, value_at, services_of, plans_of, modes_of}
use Rattle.osb_catalog.specs.Kinds.{is_some_and}
use Rattle.osb_catalog.specs.Tables.{first_broken, file_rules, catalog_rules, service_rules, plan_rules, mode_rules, service_left_out_rules, plan_left_out_rules}
use Rattle.osb_catalog.specs.Items.{first_in, first_of_members, first_of, any_item, any_member}
use Rattle.osb_catalog.specs.Ids.{is_among, has_double, ids_of, plan_ids}
use Rattle.osb_catalog.specs.Versions.{has_wrong_version}
use Rattle.osb_catalog.specs.Modes.{binds_later, names_no_plan, has_lost_bindings}
use Rattle.osb_catalog.specs.Logins.{refuses_login}
use Rattle.osb_catalog.specs.Missing.{missing_in_catalog, missing_in_plans, left_out_of_service}
use Rattle.osb_catalog.specs.Faults.{settings_of}
use Rattle.osb_catalog.specs.Order.{Stands, StandsIn, StandsInObject, IsJudged}
use Rattle.osb_catalog.specs.Found.{breaks_at, stands_twice, file_has, catalog_has, login_has, service_has, plan_has, mode_has, placed, first_place, first_named_place, service_place, plan_place, place_in_service, mode_place, first_named, first_of_services, id_position_in, place_read, place_of}
use Rattle.osb_catalog.proofs.FaultOrder.{judged}

-- ---- one of two

or_left : (x y : Bool) → x ≡ true → (x || y) ≡ true
or_left x y e = ap (λ z. z || y) e

or_right : (x y : Bool) → y ≡ true → (x || y) ≡ true
or_right true y e = refl
or_right false y e = e

or_map : (x y x' y' : Bool) → (x || y) ≡ true → (x ≡ true → x' ≡ true) → (y ≡ true → y' ≡ true) → (x' || y') ≡ true
or_map true y x' y' e here later = or_left x' y' (here refl)
or_map false y x' y' e here later = or_right x' y' (later e)

first_some : {A : Type 0} (o p : Option A) → is_some o ≡ true → is_some (option_or o p) ≡ true
first_some None p e = cc
first_some (Some x) p e = refl

second_some : {A : Type 0} (o p : Option A) → is_some p ≡ true → is_some (option_or o p) ≡ true
second_some None p e = e
second_some (Some x) p e = refl

either_some : {A : Type 0} (o p : Option A) (x y : Bool) → (x || y) ≡ true → (x ≡ true → is_some o ≡ true) → (y ≡ true → is_some p ≡ true) → is_some (option_or o p) ≡ true
either_some o p true y e here later = first_some o p (here refl)
either_some o p false y e here later = second_some o p (later e)

either_of : (o p : Option Field) (field : Field) → option_or o p ≡ Some field → (o ≡ Some field) ⊎ (p ≡ Some field)
either_of None p field e = inr e
either_of (Some found) p field e = inl e

either_any : (o p : Option Field) (field : Field) (x y : Bool) → option_or o p ≡ Some field → (o ≡ Some field → x ≡ true) → (p ≡ Some field → y ≡ true) → (x || y) ≡ true
either_any None p field x y e here later = or_right x y (later e)
either_any (Some found) p field x y e here later = or_left x y (here e)

placed_some : (place : Place) (b : Bool) → b ≡ true → is_some (placed place b) ≡ true
placed_some place true e = refl
placed_some place false e = cc

-- ---- one of many

any_place : (p : Data → Bool) (f : ℕ → Data → Option Place) (at : ℕ) (ds : Items) → ((n : ℕ) (d : Data) → p d ≡ true → is_some (f n d) ≡ true) → any_item p ds ≡ true → is_some (first_place f at ds) ≡ true
any_place p f at no_items holds e = cc
any_place p f at (item d ds) holds e = either_some (f at d) (first_place f (at + 1) ds) (p d) (any_item p ds) e (holds at d) (any_place p f (at + 1) ds holds)

any_named : (p : List ℕ → Data → Bool) (f : List ℕ → Data → Option Place) (ms : Members) → ((name : List ℕ) (d : Data) → p name d ≡ true → is_some (f name d) ≡ true) → any_member p ms ≡ true → is_some (first_named_place f ms) ≡ true
any_named p f no_members holds e = cc
any_named p f (member name d ms) holds e = either_some (f name d) (first_named_place f ms) (p name d) (any_member p ms) e (holds name d) (any_named p f ms holds)

first_any : (g : Data → Option Field) (field : Field) (p : Data → Bool) (ds : Items) → ((d : Data) → g d ≡ Some field → p d ≡ true) → first_in g ds ≡ Some field → any_item p ds ≡ true
first_any g field p no_items holds e = cc
first_any g field p (item d ds) holds e = either_any (g d) (first_in g ds) field (p d) (any_item p ds) e (holds d) (first_any g field p ds holds)

member_any : (g : Data → Option Field) (field : Field) (p : List ℕ → Data → Bool) (ms : Members) → ((name : List ℕ) (d : Data) → g d ≡ Some field → p name d ≡ true) → first_of_members g ms ≡ Some field → any_member p ms ≡ true
member_any g field p no_members holds e = cc
member_any g field p (member name d ms) holds e = either_any (g d) (first_of_members g ms) field (p name d) (any_member p ms) e (holds name d) (member_any g field p ms holds)

any_more : (p q : Data → Bool) (ds : Items) → ((d : Data) → p d ≡ true → q d ≡ true) → any_item p ds ≡ true → any_item q ds ≡ true
any_more p q no_items holds e = cc
any_more p q (item d ds) holds e = or_map (p d) (any_item p ds) (q d) (any_item q ds) e (holds d) (any_more p q ds holds)

any_both : (b : Bool) (p : Data → Bool) (ds : Items) → (b && any_item p ds) ≡ true → any_item (λ d. b && p d) ds ≡ true
any_both true p ds e = e
any_both false p ds e = cc

breaks : (rules : List FieldRule) (field : Field) (v : Data) → first_broken rules v ≡ Some field → breaks_at rules field v ≡ true
breaks rules field v e =
    ap (is_some_and (λ found. bytes_eq (field_name found) (field_name field))) e
    ∙ (bytes_eq-Decides (field_name field) (field_name field)).1 refl

-- ---- an id that stands twice

list_more : (p q : List ℕ → Bool) (ids : List (List ℕ)) → ((id : List ℕ) → p id ≡ true → q id ≡ true) → list_any p ids ≡ true → list_any q ids ≡ true
list_more p q [] holds e = cc
list_more p q (id ∷ ids) holds e = or_map (p id) (list_any p ids) (q id) (list_any q ids) e (holds id) (list_more p q ids holds)

twice_among : (ids : List (List ℕ)) (id : List ℕ) → stands_twice ids id ≡ true → is_among id ids ≡ true
twice_among [] id e = cc
twice_among (other ∷ ids) id e = by (bytes_eq id other) (twice_among ids id) e
  where
    by : (b : Bool) → (stands_twice ids id ≡ true → is_among id ids ≡ true) → cond b (is_among id ids) (stands_twice ids id) ≡ true → (b || is_among id ids) ≡ true
    by true later e = refl
    by false later e = later e

twice_still : (other : List ℕ) (ids : List (List ℕ)) (id : List ℕ) → stands_twice ids id ≡ true → stands_twice (other ∷ ids) id ≡ true
twice_still other ids id e = by (bytes_eq id other)
  where
    by : (b : Bool) → cond b (is_among id ids) (stands_twice ids id) ≡ true
    by true = twice_among ids id e
    by false = e

some_twice : (ids : List (List ℕ)) → has_double ids ≡ true → list_any (stands_twice ids) ids ≡ true
some_twice [] e = cc
some_twice (id ∷ ids) e =
    or_map (is_among id ids) (has_double ids) (stands_twice (id ∷ ids) id) (list_any (stands_twice (id ∷ ids)) ids) e
    (λ again. ap (λ b. cond b (is_among id ids) (stands_twice ids id)) ((bytes_eq-Decides id id).1 refl) ∙ again)
    (λ later. list_more (stands_twice ids) (stands_twice (id ∷ ids)) ids (twice_still id ids) (some_twice ids later))

of_ids : (p : List ℕ → Bool) (ds : Items) → list_any p (ids_of ds) ≡ true → any_item (λ d. p (text_at the.Id d)) ds ≡ true
of_ids p no_items e = cc
of_ids p (item d ds) e = or_map (p (text_at the.Id d)) (list_any p (ids_of ds)) (p (text_at the.Id d)) (any_item (λ d. p (text_at the.Id d)) ds) e (λ h. h) (of_ids p ds)

of_plan_ids : (p : List ℕ → Bool) (ds : Items) → list_any p (plan_ids ds) ≡ true → any_item (λ service. any_item (λ plan. p (text_at the.Id plan)) (plans_of service)) ds ≡ true
of_plan_ids p no_items e = cc
of_plan_ids p (item d ds) e =
    or_map (list_any p (ids_of (plans_of d))) (list_any p (plan_ids ds)) _ _
    (sym (list_any-append p (ids_of (plans_of d)) (plan_ids ds)) ∙ e) (of_ids p (plans_of d)) (of_plan_ids p ds)

-- ---- the places of a file

module _ (file : Data) (fault : SettingsFault) where
  abbrev Found : Type 0
  Found = is_some (id_position_in fault file) ≡ true

  abbrev plans : List (List ℕ)
  plans = plan_ids (services_of file)

  in_named : is_some (first_named fault file) ≡ true → Found
  in_named e = first_some (first_named fault file) _ e

  in_file : file_has fault file ≡ true → Found
  in_file e = in_named (first_some (placed File (file_has fault file)) _ (placed_some File (file_has fault file) e))

  in_catalog : is_some_and (catalog_has fault) (value_at the.Catalog file) ≡ true → Found
  in_catalog e = in_named (second_some (placed File (file_has fault file)) _ (first_some (placed Catalog _) _ (placed_some Catalog _ e)))

  in_platform : is_some_and (login_has fault) (value_at the.Platform file) ≡ true → Found
  in_platform e = in_named (
      second_some (placed File (file_has fault file)) _ (
      second_some (placed Catalog (is_some_and (catalog_has fault) (value_at the.Catalog file))) _ (
      first_some (placed Platform _) _ (placed_some Platform _ e))))

  in_backend : is_some_and (login_has fault) (value_at the.Backend file) ≡ true → Found
  in_backend e = in_named (
      second_some (placed File (file_has fault file)) _ (
      second_some (placed Catalog (is_some_and (catalog_has fault) (value_at the.Catalog file))) _ (
      second_some (placed Platform (is_some_and (login_has fault) (value_at the.Platform file))) _ (
      first_some (placed Backend _) _ (placed_some Backend _ e)))))

  in_service : any_item (service_has (ids_of (services_of file)) fault) (services_of file) ≡ true → Found
  in_service e =
      second_some (first_named fault file) _ (first_some (first_of_services fault file) _
      (any_place (service_has (ids_of (services_of file)) fault) (service_place (ids_of (services_of file)) fault) 0 (services_of file) (λ n d h. placed_some (Service n) _ h) e))

  in_plan : any_item (λ service. any_item (plan_has file plans fault service) (plans_of service)) (services_of file) ≡ true → Found
  in_plan e =
      second_some (first_named fault file) _ (second_some (first_of_services fault file) _ (
      first_some (first_place (place_in_service file plans fault) 0 (services_of file)) _
      (any_place (λ service. any_item (plan_has file plans fault service) (plans_of service)) (place_in_service file plans fault) 0 (services_of file)
      (λ n service h. any_place (plan_has file plans fault service) (plan_place file plans fault n service) 0 (plans_of service) (λ m plan has. placed_some (Plan n m) _ has) h) e)))

  in_mode : any_member (mode_has plans fault) (modes_of file) ≡ true → Found
  in_mode e =
      second_some (first_named fault file) _ (second_some (first_of_services fault file) _ (
      second_some (first_place (place_in_service file plans fault) 0 (services_of file)) _
      (any_named (mode_has plans fault) (mode_place plans fault) (modes_of file) (λ name mode h. placed_some (Mode name) _ h) e)))

-- ---- each fault

module _ (file : Data) where
  missing : (field : Field) → StandsInObject file (a.Missing field) → Found file (a.Missing field)
  missing field e = by_file (either_of (first_broken file_rules file) _ field e)
    where
      of_catalog : (o : Option Data) → option_and_then (first_broken catalog_rules) o ≡ Some field → is_some_and (catalog_has (a.Missing field)) o ≡ true
      of_catalog None e = cc
      of_catalog (Some catalog) e = breaks catalog_rules field catalog e

      by_modes : (first_of_members (first_broken mode_rules) (modes_of file) ≡ Some field) ⊎ (None ≡ Some field) → Found file (a.Missing field)
      by_modes (inl e) = in_mode file (a.Missing field) (member_any (first_broken mode_rules) field (mode_has (plan_ids (services_of file)) (a.Missing field)) (modes_of file) (λ name mode. breaks mode_rules field mode) e)
      by_modes (inr e) = cc

      by_plans : (first_in missing_in_plans (services_of file) ≡ Some field) ⊎ (first_of (first_of_members (first_broken mode_rules) (modes_of file) ∷ []) ≡ Some field) → Found file (a.Missing field)
      by_plans (inl e) = in_plan file (a.Missing field) (
          first_any missing_in_plans field _ (services_of file)
          (λ service. first_any (first_broken plan_rules) field (plan_has file (plan_ids (services_of file)) (a.Missing field) service) (plans_of service) (breaks plan_rules field)) e)
      by_plans (inr e) = by_modes (either_of (first_of_members (first_broken mode_rules) (modes_of file)) None field e)

      by_services : (first_in (first_broken service_rules) (services_of file) ≡ Some field) ⊎ (first_of (first_in missing_in_plans (services_of file) ∷ first_of_members (first_broken mode_rules) (modes_of file) ∷ []) ≡ Some field) → Found file (a.Missing field)
      by_services (inl e) = in_service file (a.Missing field) (first_any (first_broken service_rules) field (service_has (ids_of (services_of file)) (a.Missing field)) (services_of file) (breaks service_rules field) e)
      by_services (inr e) = by_plans (either_of (first_in missing_in_plans (services_of file)) _ field e)

      by_catalog : (missing_in_catalog file ≡ Some field) ⊎ (first_of (first_in (first_broken service_rules) (services_of file) ∷ first_in missing_in_plans (services_of file) ∷ first_of_members (first_broken mode_rules) (modes_of file) ∷ []) ≡ Some field) → Found file (a.Missing field)
      by_catalog (inl e) = in_catalog file (a.Missing field) (of_catalog (value_at the.Catalog file) e)
      by_catalog (inr e) = by_services (either_of (first_in (first_broken service_rules) (services_of file)) _ field e)

      by_file : (first_broken file_rules file ≡ Some field) ⊎ (first_of (missing_in_catalog file ∷ first_in (first_broken service_rules) (services_of file) ∷ first_in missing_in_plans (services_of file) ∷ first_of_members (first_broken mode_rules) (modes_of file) ∷ []) ≡ Some field) → Found file (a.Missing field)
      by_file (inl e) = in_file file (a.Missing field) (breaks file_rules field file e)
      by_file (inr e) = by_catalog (either_of (missing_in_catalog file) _ field e)

  double : StandsInObject file a.DoubleId → Found file a.DoubleId
  double e = by (has_double (ids_of (services_of file))) refl e
    where
      by : (b : Bool) → has_double (ids_of (services_of file)) ≡ b → (b || has_double (plan_ids (services_of file))) ≡ true → Found file a.DoubleId
      by true twice e = in_service file a.DoubleId (of_ids (stands_twice (ids_of (services_of file))) (services_of file) (some_twice (ids_of (services_of file)) twice))
      by false once e = in_plan file a.DoubleId (of_plan_ids (stands_twice (plan_ids (services_of file))) (services_of file) (some_twice (plan_ids (services_of file)) e))

  -- what a service or its plans may not announce
  left_out : (field : Field) → StandsInObject file (a.LeftOut field) → Found file (a.LeftOut field)
  left_out field e = by (any_item announces (services_of file)) refl
    where
      plan_announces : Data → Bool
      plan_announces service = any_item (plan_has file (plan_ids (services_of file)) (a.LeftOut field) service) (plans_of service)

      announces : Data → Bool
      announces service = service_has (ids_of (services_of file)) (a.LeftOut field) service

      one : (service : Data) → left_out_of_service service ≡ Some field → (announces service || plan_announces service) ≡ true
      one service e = either_any (first_broken service_left_out_rules service) _ field (announces service) (plan_announces service) e
          (breaks service_left_out_rules field service)
          (first_any (first_broken plan_left_out_rules) field (plan_has file (plan_ids (services_of file)) (a.LeftOut field) service) (plans_of service) (breaks plan_left_out_rules field))

      none_of : (x y : Bool) → x ≡ false → (x || y) ≡ true → y ≡ true
      none_of x y none e = ap (λ b. b || y) (sym none) ∙ e

      rest : (ds : Items) → any_item announces ds ≡ false → any_item (λ d. announces d || plan_announces d) ds ≡ true → any_item plan_announces ds ≡ true
      rest no_items none e = cc
      rest (item d ds) none e = later (announces d) (any_item announces ds) none (rest ds) e
        where
          later : (x y : Bool) → (x || y) ≡ false → (y ≡ false → any_item (λ d. announces d || plan_announces d) ds ≡ true → any_item plan_announces ds ≡ true) → ((x || plan_announces d) || any_item (λ d. announces d || plan_announces d) ds) ≡ true → (plan_announces d || any_item plan_announces ds) ≡ true
          later true y none more e = cc
          later false y none more e = or_map (plan_announces d) (any_item (λ d. announces d || plan_announces d) ds) (plan_announces d) (any_item plan_announces ds) e (λ h. h) (more none)

      by : (b : Bool) → any_item announces (services_of file) ≡ b → Found file (a.LeftOut field)
      by true some = in_service file (a.LeftOut field) some
      by false none = in_plan file (a.LeftOut field) (rest (services_of file) none (first_any left_out_of_service field (λ d. announces d || plan_announces d) (services_of file) one e))

  version : StandsInObject file a.Version → Found file a.Version
  version e = in_plan file a.Version (any_more _ _ (services_of file) (λ service. any_more has_wrong_version (plan_has file (plan_ids (services_of file)) a.Version service) (plans_of service) (λ plan h. h)) e)

  mode : StandsInObject file a.Mode → Found file a.Mode
  mode e = by (any_member (names_no_plan (services_of file)) (modes_of file)) refl e
    where
      by : (b : Bool) → any_member (names_no_plan (services_of file)) (modes_of file) ≡ b → (b || any_item (has_lost_bindings file) (services_of file)) ≡ true → Found file a.Mode
      by true some e = in_mode file a.Mode some
      by false none e = in_plan file a.Mode (any_more (has_lost_bindings file) _ (services_of file) (λ service. any_both (not (flag_at the.BindingsRetrievable service)) (binds_later file) (plans_of service)) e)

  credential : StandsInObject file a.Credential → Found file a.Credential
  credential e = by (is_some_and refuses_login (value_at the.Platform file)) refl e
    where
      by : (b : Bool) → is_some_and refuses_login (value_at the.Platform file) ≡ b → (b || is_some_and refuses_login (value_at the.Backend file)) ≡ true → Found file a.Credential
      by true some e = in_platform file a.Credential some
      by false none e = in_backend file a.Credential e

  found : (fault : SettingsFault) → StandsInObject file fault → Found file fault
  found a.Text e = absurd e
  found (a.Missing field) e = missing field e
  found a.DoubleId e = double e
  found (a.LeftOut field) e = left_out field e
  found a.Version e = version e
  found a.Mode e = mode e
  found a.Credential e = credential e
  found a.Memory e = absurd e

-- what stands in a file and isn't Text has a place
stands_somewhere : (read : Result Data TextFault) (fault : SettingsFault) → fault ≢ a.Text → StandsIn read fault → is_some (place_read fault read) ≡ true
stands_somewhere (Err text) fault other e = absurd (other e)
stands_somewhere (Ok file) fault other e = found file fault e

pub has_place : (bytes : List ℕ) (fault : SettingsFault) → settings_of bytes ≡ Err fault → fault ≢ a.Text → is_some (place_of fault bytes) ≡ true
has_place bytes fault is other = stands_somewhere (object_of bytes) fault other (subst (IsJudged (Stands bytes)) is (judged bytes)).stands
