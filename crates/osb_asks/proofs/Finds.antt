-- What each reader finds: something of which a property holds, or a fault that is neither early nor Memory.
use Rattle.std.proofs.Common.{◌≡◌, ℕ, ◌≤◌, List, Bool, true, false, ◌&&◌, ◌==◌, length, Option, Some, None, IfSome, Result, Ok, Err, cond, refl, codes, nat_le, bytes_eq, option_map, unwrap_or, arith}
use Rattle.std.specs.Prelude.{⊤}
use Rattle.std.proofs.lemmas.Bool.{and_parts}
use Rattle.std.proofs.lemmas.Bool.Decides.{nat_tests}
use Rattle.std.proofs.lemmas.Str.{chars-nil}
use Rattle.std.specs.Option.{option_transpose}
use Rattle.std.specs.Str.Parse.{digits_value}
use Rattle.percent_encoding.specs.Percent.{percent_decode}
use Rattle.serde_json.specs.Data.{Data}
use Rattle.serde_json.specs.Find.{get, as_str}
use Rattle.serde_json.specs.Written.{compact_text}
use Rattle.osb_text.specs.Id.{is_id, has_no_controls}
use Rattle.osb_text.specs.declared.fault.TextFault.{TextFault}
use Rattle.osb_text.specs.Member.{if_given, field, object_value}
use Rattle.osb_text.specs.ObjectText.{IsReadable}
use Rattle.osb_text.specs.Reading.{object_of}
use Rattle.osb_text.proofs.ReadableLemmas.{readable, object_text, empty_object}
use Rattle.osb_asks.specs.declared.ask.ReportState.{ReportState}
use Rattle.osb_asks.specs.declared.ask.ReportState.TheVariants.{Succeeded, Failed}
use Rattle.osb_asks.specs.declared.ask_fault.AskFault.{AskFault}
use Rattle.osb_asks.specs.declared.ask_fault.AskFault.TheVariants as fault
use Rattle.osb_asks.specs.Reads.{◌>>=◌, needed}
use Rattle.osb_asks.specs.Ids as id
use Rattle.osb_asks.specs.Queries as query
use Rattle.osb_asks.specs.Bodies as body
use Rattle.osb_asks.specs.ValidTexts.{IsId, IsObject}
use Rattle.osb_asks.proofs.ContentLemmas.{object_found, readable_object}

abbrev pub is_late : AskFault → Bool
is_late fault.NoDoor = false
is_late fault.Auth = false
is_late fault.Version = false
is_late fault.NoRoute = false
is_late fault.Id = true
is_late fault.Query = true
is_late fault.Body = true
is_late fault.NotInCatalog = true
is_late fault.Memory = false

abbrev pub Found : {A : Type 0} → (A → Type 0) → Result A AskFault → Type 0
Found P (Ok x) = P x
Found P (Err e) = is_late e ≡ true

-- P of what is found, or a late fault
pub record Finds (A : Type 0) (P : A → Type 0) (r : Result A AskFault) : Type 0 where
  pub found : Found P r

pub then_finds : {A B : Type 0} (P : A → Type 0) (Q : B → Type 0) (r : Result A AskFault) (f : A → Result B AskFault) → Finds A P r → ((x : A) → P x → Finds B Q (f x)) → Finds B Q (r >>= f)
then_finds P Q (Ok x) f here later = later x here.found
then_finds P Q (Err e) f here later = record { found = here.found }

pub tested_finds : {A : Type 0} (P : A → Type 0) (b : Bool) (x : A) (e : AskFault) → is_late e ≡ true → (b ≡ true → P x) → Finds A P (cond b (Ok x) (Err e))
tested_finds P true x e late h = record { found = h refl }
tested_finds P false x e late h = record { found = late }

abbrev pub Anything : {A : Type 0} → A → Type 0
Anything x = ⊤

any_finds : {A : Type 0} {P : A → Type 0} {r : Result A AskFault} → Finds A P r → Finds A Anything r
any_finds {r = Ok x} here = record { found = tt }
any_finds {r = Err e} here = record { found = here.found }

needed_finds : {A : Type 0} (e : AskFault) (o : Option A) → is_late e ≡ true → Finds A Anything (needed e o)
needed_finds e None late = record { found = late }
needed_finds e (Some x) late = record { found = tt }

-- ---- ids and numbers

id_or_finds : (e : AskFault) (text : List ℕ) → is_late e ≡ true → Finds (List ℕ) IsId (id.id_or e text)
id_or_finds e text late = tested_finds IsId (is_id text) text e late (λ h. h)

pub id_finds : (segment : List ℕ) → Finds (List ℕ) IsId (id.id_of segment)
id_finds segment = id_or_finds fault.Id (percent_decode segment) refl

pub number_finds : (segment : List ℕ) → Finds ℕ Anything (id.order_number_of segment)
number_finds segment = tested_finds Anything (id.is_order_number segment) (digits_value 10 segment) fault.Id refl (λ h. tt)

abbrev pub IsGivenId : Option (List ℕ) → Type 0
IsGivenId o = IfSome o IsId

-- P of each that is given
given_finds : {A B : Type 0} (P : B → Type 0) (f : A → Result B AskFault) → ((x : A) → Finds B P (f x)) → (o : Option A) → Finds (Option B) (λ found. IfSome found P) (if_given f o)
given_finds P f h None = record { found = tt }
given_finds {B = B} P f h (Some x) = by (f x) (h x)
  where
    by : (r : Result B AskFault) → Finds B P r → Finds (Option B) (λ found. IfSome found P) (option_transpose (Some r))
    by (Ok y) here = record { found = here.found }
    by (Err e) here = record { found = here.found }

unless_empty_finds : (e : AskFault) (o : Option (List ℕ)) → is_late e ≡ true → Finds (Option (List ℕ)) IsGivenId (id.id_unless_empty_or e o)
unless_empty_finds e None late = record { found = tt }
unless_empty_finds e (Some text) late = by (length text == 0)
  where
    by : (b : Bool) → Finds (Option (List ℕ)) IsGivenId (if_given (id.id_or e) (cond b None (Some text)))
    by true = record { found = tt }
    by false = given_finds IsId (id.id_or e) (λ t. id_or_finds e t late) (Some text)

-- ---- queries

chosen_finds : {A : Type 0} (b c : Bool) (x y : A) (e : AskFault) → is_late e ≡ true → Finds A Anything (cond b (Ok x) (cond c (Ok y) (Err e)))
chosen_finds true c x y e late = record { found = tt }
chosen_finds false c x y e late = tested_finds Anything c y e late (λ h. tt)

pub accepts_finds : (q : List ℕ) → Finds Bool Anything (query.accepts_incomplete_in q)
accepts_finds q = by (unwrap_or (query.query_value (codes "accepts_incomplete") q) (codes "false"))
  where
    by : (text : List ℕ) → Finds Bool Anything (cond (bytes_eq text (codes "true")) (Ok true) (cond (bytes_eq text (codes "false")) (Ok false) (Err fault.Query)))
    by text = chosen_finds (bytes_eq text (codes "true")) (bytes_eq text (codes "false")) true false fault.Query refl

pub id_in_finds : (name q : List ℕ) → Finds (List ℕ) IsId (query.query_id name q)
id_in_finds name q = then_finds Anything IsId (needed fault.Query (query.query_value name q)) _ (needed_finds fault.Query _ refl) (λ text _. id_or_finds fault.Query text refl)

pub after_finds : (q : List ℕ) → Finds (Option (List ℕ)) IsGivenId (query.after_in q)
after_finds q = unless_empty_finds fault.Query (query.query_value (codes "after") q) refl

-- ---- bodies

or_body_finds : {A : Type 0} (r : Result A TextFault) → Finds A Anything (body.or_body r)
or_body_finds (Ok x) = record { found = tt }
or_body_finds (Err e) = record { found = refl }

pub body_finds : (bytes : List ℕ) → Finds Data IsReadable (body.body_of bytes)
body_finds bytes = by (object_of bytes) refl
  where
    by : (r : Result Data TextFault) → object_of bytes ≡ r → Finds Data IsReadable (body.or_body r)
    by (Ok v) is = record { found = readable bytes v is }
    by (Err e) is = record { found = refl }

text_finds : (name : List ℕ) (v : Data) → Finds (Option (List ℕ)) Anything (body.body_text_at name v)
text_finds name v = or_body_finds (field as_str name v)

-- the text of the name, which has to be there
there_finds : (name : List ℕ) (v : Data) → Finds (List ℕ) Anything (body.body_text_at name v >>= needed fault.Body)
there_finds name v = then_finds Anything Anything (body.body_text_at name v) (needed fault.Body) (text_finds name v) (λ o _. needed_finds fault.Body o refl)

pub id_at_finds : (name : List ℕ) (v : Data) → Finds (List ℕ) IsId (body.id_at name v)
id_at_finds name v =
    then_finds Anything IsId (body.body_text_at name v >>= needed fault.Body) _ (there_finds name v)
    (λ text _. id_or_finds fault.Body text refl)

pub given_id_finds : (name : List ℕ) (v : Data) → Finds (Option (List ℕ)) IsGivenId (body.given_id_at name v)
given_id_finds name v =
    then_finds Anything IsGivenId (body.body_text_at name v) (if_given (id.id_or fault.Body)) (text_finds name v)
    (λ o _. given_finds IsId (id.id_or fault.Body) (λ text. id_or_finds fault.Body text refl) o)

pub app_finds : (v : Data) → Finds (Option (List ℕ)) IsGivenId (body.app_guid_at v)
app_finds v = then_finds Anything IsGivenId (body.body_text_at (codes "app_guid") v) _ (text_finds (codes "app_guid") v) (λ o _. unless_empty_finds fault.Body o refl)

abbrev pub IsDescription : List ℕ → Type 0
IsDescription text = (length text ≤ 1000) × (has_no_controls text ≡ true)

pub description_finds : (v : Data) → Finds (List ℕ) IsDescription (body.description_at v)
description_finds v = then_finds Anything IsDescription (body.body_text_at (codes "description") v) body.description_by (text_finds (codes "description") v) (λ o _. by o)
  where
    described : (text : List ℕ) → (nat_le (length text) 1000 && has_no_controls text) ≡ true → IsDescription text
    described text h = let both = and_parts (nat_le (length text) 1000) (has_no_controls text) h in (grind (arith, nat_tests), both.1)

    by : (o : Option (List ℕ)) → Finds (List ℕ) IsDescription (body.description_by o)
    by None = record { found = (omega arith, rw chars-nil refl) }
    by (Some text) = tested_finds IsDescription (nat_le (length text) 1000 && has_no_controls text) text fault.Body refl (described text)

pub state_finds : (v : Data) → Finds ReportState Anything (body.state_at v)
state_finds v =
    then_finds Anything Anything (body.body_text_at (codes "state") v >>= needed fault.Body) _ (there_finds (codes "state") v)
    (λ text _. chosen_finds (bytes_eq text (codes "succeeded")) (bytes_eq text (codes "failed")) Succeeded Failed fault.Body refl)

-- ---- objects

abbrev IsGivenReadable : Option Data → Type 0
IsGivenReadable o = IfSome o (λ d. IsObject (compact_text d))

field_finds : (name : List ℕ) (v : Data) → IsReadable v → Finds (Option Data) IsGivenReadable (body.or_body (field object_value name v))
field_finds name v ok = by (field object_value name v) refl
  where
    by : (r : Result (Option Data) TextFault) → field object_value name v ≡ r → Finds (Option Data) IsGivenReadable (body.or_body r)
    by (Ok None) is = record { found = tt }
    by (Ok (Some d)) is = record { found = object_text d (readable_object name v d is ok) (object_found (get name v) d is).1 }
    by (Err e) is = record { found = refl }

abbrev pub IsGivenObject : Option (List ℕ) → Type 0
IsGivenObject o = IfSome o IsObject

pub object_finds : (name : List ℕ) (v : Data) → IsReadable v → Finds (Option (List ℕ)) IsGivenObject (body.object_at name v)
object_finds name v ok = then_finds IsGivenReadable IsGivenObject (body.or_body (field object_value name v)) _ (field_finds name v ok) by
  where
    by : (o : Option Data) → IsGivenReadable o → Finds (Option (List ℕ)) IsGivenObject (Ok (option_map compact_text o))
    by None h = record { found = tt }
    by (Some d) h = record { found = h }

pub or_empty_finds : (name : List ℕ) (v : Data) → IsReadable v → Finds (List ℕ) IsObject (body.object_or_empty name v)
or_empty_finds name v ok = then_finds IsGivenObject IsObject (body.object_at name v) _ (object_finds name v ok) by
  where
    by : (o : Option (List ℕ)) → IsGivenObject o → Finds (List ℕ) IsObject (Ok (unwrap_or o (codes "{}")))
    by None h = record { found = empty_object }
    by (Some text) h = record { found = h }

pub maintenance_finds : (v : Data) → Finds (Option (List ℕ)) Anything (body.maintenance_at v)
maintenance_finds v =
    then_finds Anything Anything (body.or_body (field object_value (codes "maintenance_info") v)) _ (or_body_finds (field object_value (codes "maintenance_info") v))
    (λ o _. any_finds (given_finds Anything (λ info. body.body_text_at (codes "version") info >>= needed fault.Body) (there_finds (codes "version")) o))
