-- What there is of everything in bare lives.
use Rattle.std.proofs.Common.{◌≡◌, ℕ, Bool, false, List, length, filter, map, Option, None, Some, option_map, flat_map, refl, sym, ◌∙◌, ap}
use Rattle.std.specs.Prelude.{is_some}
use Rattle.std.specs.Option.{option_map_or}
use Rattle.std.specs.FinMap.{entries}
use Rattle.std.proofs.lemmas.List.{length-map}
use Rattle.std.proofs.lemmas.List.Folds.{flat_map-map}
use Rattle.osb_orders.specs.declared.order.OrderState.TheVariants.{Running}
use Rattle.osb_orders.specs.declared.order.Order.{Order}
use Rattle.osb_orders.specs.declared.view.Standing.{Standing}
use Rattle.osb_orders.specs.Lists.{last_of}
use Rattle.osb_orders.specs.Orders.{is_now}
use Rattle.osb_orders.specs.Life.{Life, standing_of}
use Rattle.osb_orders.specs.Lives.{Lives}
use Rattle.osb_audit.specs.declared.counting.Counts.{Counts}
use Rattle.osb_audit.specs.Counts.{is_there, is_busy, bindings_in, AreCounts}
use Rattle.osb_bare.specs.Bare.{bare_order, bare_instance, bare_lives, bare_standing}
use Rattle.osb_bare.proofs.ListLemmas.{filter-map}
use Rattle.osb_bare.proofs.LifeLemmas.{standing_of-bare, last_of-bare, bindings_of-bare}
use Rattle.osb_bare.proofs.LivesLemmas.{entries-bare}

abbrev Lived : Type 0
Lived = List ℕ × Life

is_some-bare : (standing : Option Standing) → is_some (option_map bare_standing standing) ≡ is_some standing
is_some-bare None = refl
is_some-bare (Some standing) = refl

is_there-bare : (instance : Lived) → is_there (bare_instance instance) ≡ is_there instance
is_there-bare instance = ap is_some (standing_of-bare instance.1) ∙ is_some-bare (standing_of instance.1)

runs-bare : (last : Option Order) → option_map_or (is_now Running) (option_map bare_order last) false ≡ option_map_or (is_now Running) last false
runs-bare None = refl
runs-bare (Some order) = refl

is_busy-bare : (instance : Lived) → is_busy (bare_instance instance) ≡ is_busy instance
is_busy-bare instance = ap (λ last. option_map_or (is_now Running) last false) (last_of-bare instance.1) ∙ runs-bare (last_of instance.1)

bindings_in-bare : (instance : Lived) → bindings_in (bare_instance instance) ≡ bindings_in instance
bindings_in-bare instance = ap entries (bindings_of-bare instance.1)

-- a test that sees no context
passing-bare : (test : Lived → Bool) → ((instance : Lived) → test (bare_instance instance) ≡ test instance) → (lives : Lives) → length (filter test (entries (bare_lives lives))) ≡ length (filter test (entries lives))
passing-bare test same lives =
    ap (λ es. length (filter test es)) (entries-bare lives)
    ∙ ap length (filter-map bare_instance test (entries lives))
    ∙ length-map (filter (λ instance. test (bare_instance instance)) (entries lives)) bare_instance
    ∙ (λ i. length (filter (λ instance. same instance i) (entries lives)))

bound-bare : (lives : Lives) → length (flat_map bindings_in (entries (bare_lives lives))) ≡ length (flat_map bindings_in (entries lives))
bound-bare lives =
    ap (λ es. length (flat_map bindings_in es)) (entries-bare lives)
    ∙ ap length (flat_map-map bindings_in bare_instance (entries lives))
    ∙ (λ i. length (flat_map (λ instance. bindings_in-bare instance i) (entries lives)))

pub counts-bare : (lives : Lives) (counts : Counts) → AreCounts (bare_lives lives) counts → AreCounts lives counts
counts-bare lives counts are = record {
  instances = are.instances ∙ passing-bare is_there is_there-bare lives;
  bindings = are.bindings ∙ bound-bare lives;
  running = are.running ∙ passing-bare is_busy is_busy-bare lives;
}
