-- What holds of each value that is read.
use Rattle.std.proofs.Common.{◌≡◌, ℕ, List, Bool, Option, Some, None, option_map, option_and_then, subst}
use Rattle.std.specs.Prelude.{⊤}
use Rattle.json.specs.Lex.{tokens}
use Rattle.json.specs.Json as json
use Rattle.serde_json.specs.Data.{Data, null, boolean, number, string, array, object, Items, no_items, item, Members, no_members, put}
use Rattle.serde_json.specs.Read.{number_of, of_json, of_items, of_members, read, max_depth}

abbrev pub IfFound : {A : Type 0} → (A → Type 0) → Option A → Type 0
IfFound P None = ⊤
IfFound P (Some a) = P a

pub found-map : {A B : Type 0} (P : A → Type 0) (Q : B → Type 0) (f : A → B) → ((a : A) → P a → Q (f a)) → (o : Option A) → IfFound P o → IfFound Q (option_map f o)
found-map P Q f step None h = tt
found-map P Q f step (Some a) h = step a h

found-and_then : {A B : Type 0} (P : A → Type 0) (Q : B → Type 0) (f : A → Option B) → ((a : A) → P a → IfFound Q (f a)) → (o : Option A) → IfFound P o → IfFound Q (option_and_then f o)
found-and_then P Q f step None h = tt
found-and_then P Q f step (Some a) h = step a h

-- facts of values, of items and of members that each step of a reading keeps
pub record AreKept (OfValue : Data → Type 0) (OfItems : Items → Type 0) (OfMembers : Members → Type 0) : Type 0 where
  pub at_null : OfValue null
  pub at_boolean : (b : Bool) → OfValue (boolean b)
  pub at_number : (s : List ℕ) → IfFound (λ n. OfValue (number n)) (number_of s)
  pub at_string : (s : List ℕ) → OfValue (string s)
  pub at_array : (ds : Items) → OfItems ds → OfValue (array ds)
  pub at_object : (ms : Members) → OfMembers ms → OfValue (object ms)
  pub at_no_items : OfItems no_items
  pub at_item : (d : Data) (ds : Items) → OfValue d → OfItems ds → OfItems (item d ds)
  pub at_no_members : OfMembers no_members
  pub at_put : (name : List ℕ) (d : Data) (ms : Members) → OfValue d → OfMembers ms → OfMembers (put name d ms)

mutual
  kept-of_json : (V : Data → Type 0) (I : Items → Type 0) (M : Members → Type 0) → AreKept V I M → (j : json.Json) → IfFound V (of_json j)
  kept-of_json V I M k json.null = k.at_null
  kept-of_json V I M k (json.boolean b) = k.at_boolean b
  kept-of_json V I M k (json.number s) = found-map (λ n. V (number n)) V number (λ n h. h) (number_of s) (k.at_number s)
  kept-of_json V I M k (json.string s) = k.at_string s
  kept-of_json V I M k (json.array js) = found-map I V array k.at_array (of_items js) (kept-of_items V I M k js)
  kept-of_json V I M k (json.object ms) = found-map M V object k.at_object (of_members ms no_members) (kept-of_members V I M k ms no_members k.at_no_members)

  kept-of_items : (V : Data → Type 0) (I : Items → Type 0) (M : Members → Type 0) → AreKept V I M → (js : json.Items) → IfFound I (of_items js)
  kept-of_items V I M k json.no_items = k.at_no_items
  kept-of_items V I M k (json.item j js) =
      found-and_then V I (λ d. option_map (item d) (of_items js))
      (λ d h. found-map I I (item d) (λ ds rest. k.at_item d ds h rest) (of_items js) (kept-of_items V I M k js))
      (of_json j) (kept-of_json V I M k j)

  kept-of_members : (V : Data → Type 0) (I : Items → Type 0) (M : Members → Type 0) → AreKept V I M → (ms : json.Members) (found : Members) → M found → IfFound M (of_members ms found)
  kept-of_members V I M k json.no_members found h = h
  kept-of_members V I M k (json.member name j ms) found h =
      found-and_then V M (λ d. of_members ms (put name d found))
      (λ d new. kept-of_members V I M k ms (put name d found) (k.at_put name d found new h))
      (of_json j) (kept-of_json V I M k j)

kept_at_last : (V : Data → Type 0) (I : Items → Type 0) (M : Members → Type 0) → AreKept V I M → (o : Option json.Json) → IfFound V (option_and_then of_json o)
kept_at_last V I M k None = tt
kept_at_last V I M k (Some j) = kept-of_json V I M k j

pub kept-read : (V : Data → Type 0) (I : Items → Type 0) (M : Members → Type 0) → AreKept V I M → (text : List ℕ) (v : Data) → read text ≡ Some v → V v
kept-read V I M k text v is =
    subst (IfFound V) is (kept_at_last V I M k (option_and_then (λ p. json.if_last p.0 p.1) (json.value max_depth (tokens text))))
