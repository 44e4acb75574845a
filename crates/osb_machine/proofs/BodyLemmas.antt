-- The bodies of answers as the code writes them, in pieces.
use Prim.Native.String.{String}
use Rattle.std.proofs.Common.{◌≡◌, ℕ, Bool, true, false, cond, not, ◌==◌, List, [], ◌∷◌, ◌++◌, map, length, codes, refl, sym, ap, ◌∙◌, append_assoc}
use Rattle.std.specs.Prelude.{bytes_eq}
use Rattle.std.specs.Fmt.{decimal}
use Rattle.json.specs.Print.{quoted}
use Rattle.osb_orders.specs.declared.order.Order.{Order}
use Rattle.osb_orders.specs.declared.order.Outcome.{Outcome}
use Rattle.osb_orders.specs.Orders.{is_about_binding, kind_text, name_of, empty_object, state_text}
use Rattle.osb_machine.specs.Texts.{with_commas, object_text, only, in_quotes, operation_body, state_body}
use Rattle.osb_machine.specs.Listed.{listed, orders_body}
use Rattle.osb_machine.specs.Spliced.{joined, spliced, spliced_after, spliced_from, state_pieces}

-- pieces, and a rest
plain : (i id k kind q v rest : List ℕ) → joined (i ∷ id ∷ k ∷ kind ∷ q ∷ v ∷ []) ++ rest ≡ i ++ (id ++ (k ++ ((kind ++ q) ++ (v ++ rest))))
plain i id k kind q v rest = simp (append_assoc)

with_context : (c context comma i id k kind q v rest : List ℕ) → joined (joined (c ∷ context ∷ comma ∷ []) ∷ i ∷ id ∷ k ∷ kind ∷ q ∷ v ∷ []) ++ rest ≡ c ++ (context ++ (comma ++ (i ++ (id ++ (k ++ ((kind ++ q) ++ (v ++ rest)))))))
with_context c context comma i id k kind q v rest = simp (append_assoc)

eight : (a b c d e f g h rest : List ℕ) → joined (a ∷ b ∷ c ∷ d ∷ e ∷ f ∷ g ∷ h ∷ []) ++ rest ≡ a ++ (b ++ (c ++ (d ++ (e ++ (f ++ (g ++ (h ++ rest)))))))
eight a b c d e f g h rest = simp (append_assoc)

module _ (app resource space binding context id kind version parameters plan number service : List ℕ) where
  -- what is written from `context` to `maintenance_version`
  abbrev first : Bool → Bool → List ℕ
  first bare unversioned = joined (
      cond bare [] (joined (codes "\"context\":" ∷ context ∷ codes "," ∷ [])) ∷ codes "\"instance_id\":" ∷ id ∷ codes ",\"kind\":\""
      ∷ kind ∷ codes "\"" ∷ cond unversioned [] (joined (codes ",\"maintenance_version\":" ∷ version ∷ [])) ∷ [])

  abbrev last : List ℕ
  last = joined (codes ",\"parameters\":" ∷ parameters ∷ codes ",\"plan_id\":" ∷ plan ∷ codes ",\"seq\":" ∷ number ∷ codes ",\"service_id\":" ∷ service ∷ [])

  abbrev members : Bool → Bool → Bool → List (String × List ℕ)
  members binds bare unversioned =
      only binds "app_guid" app ++ only binds "bind_resource" resource ++ only binds "binding_id" binding
      ++ only (not bare) "context" context ++ ("instance_id", id) ∷ ("kind", in_quotes kind)
      ∷ only (not unversioned) "maintenance_version" version ++ only (not binds) "organization_guid" app
      ++ ("parameters", parameters) ∷ ("plan_id", plan) ∷ ("seq", number) ∷ ("service_id", service) ∷ only (not binds) "space_guid" space

  abbrev of_binding : Bool → Bool → List ℕ
  of_binding bare unversioned = joined (codes "{\"app_guid\":" ∷ app ∷ codes ",\"bind_resource\":" ∷ resource ∷ codes ",\"binding_id\":" ∷ binding ∷ codes "," ∷ first bare unversioned ∷ last ∷ codes "}" ∷ [])

  abbrev of_instance : Bool → Bool → List ℕ
  of_instance bare unversioned = joined (codes "{" ∷ first bare unversioned ∷ codes ",\"organization_guid\":" ∷ app ∷ last ∷ codes ",\"space_guid\":" ∷ space ∷ codes "}" ∷ [])

  -- the same, piece by piece
  abbrev named : Bool → List ℕ → List ℕ
  named true rest = rest
  named false rest = codes "\"context\":" ++ (context ++ (codes "," ++ rest))

  abbrev firsts : Bool → Bool → List ℕ → List ℕ
  firsts bare unversioned rest = named bare (codes "\"instance_id\":" ++ (id ++ (codes ",\"kind\":\"" ++ ((kind ++ codes "\"") ++ (cond unversioned [] (joined (codes ",\"maintenance_version\":" ∷ version ∷ [])) ++ rest)))))

  abbrev lasts : List ℕ → List ℕ
  lasts rest = codes ",\"parameters\":" ++ (parameters ++ (codes ",\"plan_id\":" ++ (plan ++ (codes ",\"seq\":" ++ (number ++ (codes ",\"service_id\":" ++ (service ++ rest)))))))

  first_then : (bare unversioned : Bool) (rest : List ℕ) → first bare unversioned ++ rest ≡ firsts bare unversioned rest
  first_then true unversioned rest = plain (codes "\"instance_id\":") id (codes ",\"kind\":\"") kind (codes "\"") _ rest
  first_then false unversioned rest = with_context (codes "\"context\":") context (codes ",") (codes "\"instance_id\":") id (codes ",\"kind\":\"") kind (codes "\"") _ rest

  last_then : (rest : List ℕ) → last ++ rest ≡ lasts rest
  last_then rest = eight (codes ",\"parameters\":") parameters (codes ",\"plan_id\":") plan (codes ",\"seq\":") number (codes ",\"service_id\":") service rest

  binding_is : (bare unversioned : Bool) → of_binding bare unversioned ≡ codes "{\"app_guid\":" ++ (app ++ (codes ",\"bind_resource\":" ++ (resource ++ (codes ",\"binding_id\":" ++ (binding ++ (codes "," ++ firsts bare unversioned (lasts (codes "}"))))))))
  binding_is bare unversioned = ap (λ text. codes "{\"app_guid\":" ++ (app ++ (codes ",\"bind_resource\":" ++ (resource ++ (codes ",\"binding_id\":" ++ (binding ++ (codes "," ++ text))))))) (first_then bare unversioned (last ++ codes "}") ∙ ap (firsts bare unversioned) (last_then (codes "}")))

  instance_is : (bare unversioned : Bool) → of_instance bare unversioned ≡ codes "{" ++ firsts bare unversioned (codes ",\"organization_guid\":" ++ (app ++ lasts (codes ",\"space_guid\":" ++ (space ++ codes "}"))))
  instance_is bare unversioned = ap (λ text. codes "{" ++ text) (first_then bare unversioned _ ∙ ap (λ text. firsts bare unversioned (codes ",\"organization_guid\":" ++ (app ++ text))) (last_then (codes ",\"space_guid\":" ++ (space ++ codes "}"))))

  either : (binds bare unversioned : Bool) → cond binds (of_binding bare unversioned) (of_instance bare unversioned) ≡ object_text (members binds bare unversioned)
  either true true true = binding_is true true
  either true true false = binding_is true false
  either true false true = binding_is false true
  either true false false = binding_is false false
  either false true true = instance_is true true
  either false true false = instance_is true false
  either false false true = instance_is false true
  either false false false = instance_is false false

pub listed_is : (id : List ℕ) (order : Order) → spliced id order ≡ listed id order
listed_is id order =
    let has = order.attributes in
    either (quoted has.place) has.spot (quoted has.spot) (quoted order.binding) has.context (quoted id) (kind_text order.kind) (quoted has.maintenance) has.parameters (quoted has.plan) (decimal order.number) (quoted has.service)
    (is_about_binding order.kind) (bytes_eq has.context empty_object) (length has.maintenance == 0)

mark : Bool → List ℕ
mark true = codes ","
mark false = []

after : (later : Bool) (id : List ℕ) (order : Order) → spliced_after later id order ≡ mark later ++ listed id order
unfolding mark
after true id order = ap (λ text. codes "," ++ text) (listed_is id order)
after false id order = listed_is id order

abbrev texts : List (List ℕ × Order) → List (List ℕ)
texts listing = map (λ one. listed one.0 one.1) listing

from : (later : Bool) (listing : List (List ℕ × Order)) → spliced_from later listing ≡ with_commas (mark later) (texts listing) (codes "]") ++ codes "}"
unfolding mark
from later [] = refl
from later (one ∷ more) =
    ap (λ text. text ++ spliced_from true more) (after later one.0 one.1)
    ∙ ap (λ text. (mark later ++ listed one.0 one.1) ++ text) (from true more)
    ∙ sym (append_assoc (mark later ++ listed one.0 one.1) (with_commas (codes ",") (texts more) (codes "]")) (codes "}"))

pub orders_are : (listing : List (List ℕ × Order)) → codes "{\"orders\":[" ++ spliced_from false listing ≡ orders_body listing
unfolding mark
orders_are listing = ap (λ text. codes "{\"orders\":[" ++ text) (from false listing)

pub operation_is : (order : Order) → codes "{\"operation\":\"" ++ name_of order ++ codes "\"}" ≡ operation_body order
operation_is order = ap (λ text. codes "{\"operation\":\"" ++ text) (sym (append_assoc (name_of order) (codes "\"") (codes "}")))

pub state_is : (outcome : Outcome) → state_pieces outcome ≡ state_body outcome
state_is outcome = by (length outcome.description == 0)
  where
    word : List ℕ
    word = state_text outcome.state

    close : word ++ codes "\"}" ≡ (word ++ codes "\"") ++ codes "}"
    close = sym (append_assoc word (codes "\"") (codes "}"))

    by : (silent : Bool) → cond silent (joined (codes "{\"state\":\"" ∷ word ∷ codes "\"}" ∷ [])) (joined (codes "{\"description\":" ∷ quoted outcome.description ∷ codes ",\"state\":\"" ∷ word ∷ codes "\"}" ∷ [])) ≡ object_text (only (not silent) "description" (quoted outcome.description) ++ ("state", in_quotes word) ∷ [])
    by true = ap (λ text. codes "{\"state\":\"" ++ text) close
    by false = ap (λ text. codes "{\"description\":" ++ (quoted outcome.description ++ (codes ",\"state\":\"" ++ text))) close
