-- What stands of instances and bindings once an order is written.
use Rattle.std.proofs.Common.{◌≡◌, ℕ, List, bytes_eq, Bool, true, false, refl, sym, subst, ◌∙◌}
use Rattle.sqlite.specs.State.{State}
use Rattle.osb_orders.specs.declared.order.Order.{Order}
use Rattle.osb_orders.specs.declared.order.Change.{Change}
use Rattle.osb_orders.specs.Life.{Life}
use Rattle.osb_orders.specs.Lives.{Lives, life_of}
use Rattle.osb_orders.specs.Changed.{changed, lives_changed}
use Rattle.osb_standing.specs.Rows.{bindings_of}
use Rattle.osb_standing.specs.Written.{IsWritten}
use Rattle.osb_audit.specs.declared.entry.BindingEntry.{BindingEntry}
use Rattle.osb_statements.specs.BindingRows.{PutsBindings, FollowsOrder}
use Rattle.osb_statements.specs.Inside.{with_lives, with_instances, ContentSteps}
use Rattle.osb_audit.specs.Bindings.{BindingsStand, AllBindingsStand}
use Rattle.osb_audit.specs.Instances.{InstancesStand}
use Rattle.osb_statements.specs.Standing.{IsConsistent}
use Rattle.osb_statements.specs.Steps.{content, bare_in}
use Rattle.osb_statements.proofs.PutLemmas.{life_changed}
use Rattle.osb_contexts.proofs.TestLemmas.{same_bytes}
use Rattle.osb_contexts.proofs.StepLemmas.{within_then}

bindings_stand : (lives : Lives) (id : List ℕ) (change : Change) (order : Order) (before after : List BindingEntry) → IsWritten (life_of lives id) change order
    → PutsBindings id (bindings_of (changed change (life_of lives id))) before after → AllBindingsStand lives before → AllBindingsStand (lives_changed change id lives) after
bindings_stand lives id change order before after written puts stood other = go (bytes_eq id other) refl
  where
    go : (b : Bool) → bytes_eq id other ≡ b → BindingsStand other (life_of (lives_changed change id lives) other) after
    go true is =
        let life = life_changed lives id other change order written true is in
        subst (λ (l : Life). BindingsStand other l after) (sym life) (subst (λ i. BindingsStand i (changed change (life_of lives id)) after) (same_bytes id other is) puts.here)
    go false is =
        let life = life_changed lives id other change order written false is in
        subst (λ (l : Life). BindingsStand other l after) (sym life) (puts.others other is ∙ stood other)

module _ (first mid new : State) (id : List ℕ) (order : Order) (instance : ContentSteps first mid (with_instances (content mid).instances (content first))) (bindings : FollowsOrder mid new id order) where
  pub both_written : ContentSteps first new (with_lives (bare_in first) (content new))
  both_written = record {
    within = within_then first mid new instance.within bindings.steps.within;
    tables = bindings.steps.tables;
    lives_are = bindings.steps.lives_are ∙ instance.lives_are;
    instances_are = refl;
    bindings_are = refl;
    sound = bindings.steps.sound;
    contexts_kept = bindings.steps.contexts_kept ∙ instance.contexts_kept;
  }

  pub both_stand : (change : Change) → IsWritten (life_of (bare_in first) id) change order → IsConsistent (content first) → InstancesStand (lives_changed change id (bare_in first)) (content mid).instances
      → IsConsistent (with_lives (lives_changed change id (bare_in first)) (content new))
  both_stand change written stood instances = record {
    instances = subst (InstancesStand (lives_changed change id (bare_in first))) (sym bindings.steps.instances_are) instances;
    bindings = bindings_stand (bare_in first) id change order (content mid).bindings (content new).bindings written
        (bindings.puts (life_of (bare_in first) id) change written (subst (BindingsStand id (life_of (bare_in first) id)) (sym instance.bindings_are) (stood.bindings id)))
        (subst (AllBindingsStand (bare_in first)) (sym instance.bindings_are) stood.bindings);
  }
