-- Segments name a place exactly where they are its path.
use Rattle.std.proofs.Common.{◌≡◌, ◌↔◌, ℕ, ◌<◌, List, [], ◌∷◌, length, Bool, true, false, cond, not, ◌&&◌, ◌==◌, Option, Some, None, IfSome, codes, bytes_eq, refl, ap₂, subst, ◌∙◌, arith}
use Rattle.std.proofs.lemmas.Bool.{and_parts, cond-true}
use Rattle.std.proofs.lemmas.Bool.Decides.{nat_tests}
use Rattle.std.proofs.lemmas.Slice.Eq.{bytes_eq-Decides}
use Rattle.osb_asks.specs.declared.door.Door.{Door}
use Rattle.osb_asks.specs.declared.door.Door.TheVariants.{Platform, Backend}
use Rattle.osb_asks.specs.Resources.{Named, catalog, orders, instance, instance_operation, binding, binding_operation, order, names_one, under_binding, under_instance, under_orders, resource_at}
use Rattle.osb_asks.specs.Paths.{door_of, path_to, HasIds, IsPathOf}

-- where a test passes, what is found there is the place of those segments
passed : (door : Door) (segments : List (List ℕ)) (test : Bool) (o : Option Named) → (test ≡ true → IfSome o (IsPathOf door segments)) → IfSome (cond test o None) (IsPathOf door segments)
passed door segments true o there = there refl
passed door segments false o there = tt

same : (word text : List ℕ) → bytes_eq word text ≡ true → word ≡ text
same word text = (bytes_eq-Decides word text).0

one : (text word id : List ℕ) → names_one text word id ≡ true → (word ≡ text) × (0 < length id)
one text word id e = let both = and_parts (bytes_eq word text) _ e in (same word text both.0, grind (arith, nat_tests))

binding_leads : (first i third b : List ℕ) (rest : List (List ℕ)) → (first ≡ codes "service_instances") × (0 < length i) → (third ≡ codes "service_bindings") × (0 < length b) → IfSome (under_binding i b rest) (IsPathOf Platform (first ∷ i ∷ third ∷ b ∷ rest))
binding_leads first i third b [] h k = record { door_is = refl; path_is = rw (h.0, k.0) refl; ids = (h.1, (k.1, tt)) }
binding_leads first i third b (word ∷ []) h k =
    passed Platform _ (bytes_eq word (codes "last_operation")) (Some (binding_operation i b))
    (λ e. record { door_is = refl; path_is = rw (h.0, k.0, same word _ e) refl; ids = (h.1, (k.1, tt)) })
binding_leads first i third b (x ∷ y ∷ rest) h k = tt

instance_leads : (first i : List ℕ) (rest : List (List ℕ)) → (first ≡ codes "service_instances") × (0 < length i) → IfSome (under_instance i rest) (IsPathOf Platform (first ∷ i ∷ rest))
instance_leads first i [] h = record { door_is = refl; path_is = rw h.0 refl; ids = (h.1, tt) }
instance_leads first i (word ∷ []) h =
    passed Platform _ (bytes_eq word (codes "last_operation")) (Some (instance_operation i))
    (λ e. record { door_is = refl; path_is = rw (h.0, same word _ e) refl; ids = (h.1, tt) })
instance_leads first i (word ∷ b ∷ rest) h =
    passed Platform _ (names_one (codes "service_bindings") word b) (under_binding i b rest)
    (λ e. binding_leads first i word b rest h (one _ word b e))

orders_lead : (rest : List (List ℕ)) → IfSome (under_orders rest) (IsPathOf Backend (codes "v1" ∷ codes "orders" ∷ rest))
orders_lead [] = record { door_is = refl; path_is = refl; ids = tt }
orders_lead (i ∷ []) = tt
orders_lead (i ∷ number ∷ []) =
    passed Backend _ (not (length i == 0)) (Some (order i number))
    (λ e. record { door_is = refl; path_is = refl; ids = (grind (arith, nat_tests), tt) })
orders_lead (i ∷ number ∷ x ∷ rest) = tt

leads : (door : Door) (segments : List (List ℕ)) → IfSome (resource_at door segments) (IsPathOf door segments)
leads Platform [] = tt
leads Backend [] = tt
leads Backend (word ∷ []) = tt
leads Platform (word ∷ []) =
    passed Platform _ (bytes_eq word (codes "catalog")) (Some catalog)
    (λ e. record { door_is = refl; path_is = rw (same word _ e) refl; ids = tt })
leads Platform (word ∷ i ∷ rest) =
    passed Platform _ (names_one (codes "service_instances") word i) (under_instance i rest)
    (λ e. instance_leads word i rest (one _ word i e))
leads Backend (version ∷ word ∷ rest) =
    passed Backend _ (bytes_eq version (codes "v1") && bytes_eq word (codes "orders")) (under_orders rest)
    (λ e. let both = and_parts (bytes_eq version (codes "v1")) _ e in rw (same version _ both.0, same word _ both.1) (orders_lead rest))

-- an id that isn't empty passes
kept : (i : List ℕ) (o : Option Named) → 0 < length i → cond (not (length i == 0)) o None ≡ o
kept i o h = cond-true (not (length i == 0)) o None (grind (arith, nat_tests))

back : (named : Named) → HasIds named → resource_at (door_of named) (path_to named) ≡ Some named
back catalog h = refl
back (instance i) h = kept i _ h.0
back (instance_operation i) h = kept i _ h.0
back (binding i b) h = kept i _ h.0 ∙ kept b _ h.1.0
back (binding_operation i b) h = kept i _ h.0 ∙ kept b _ h.1.0
back orders h = refl
back (order i n) h = kept i _ h.0

pub one_place : (door : Door) (segments : List (List ℕ)) (named : Named) → (resource_at door segments ≡ Some named) ↔ IsPathOf door segments named
one_place door segments named = (
  λ e. subst (λ o. IfSome o (IsPathOf door segments)) e (leads door segments),
  λ p. ap₂ resource_at p.door_is p.path_is ∙ back named p.ids,
)
