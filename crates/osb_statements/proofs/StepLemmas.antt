-- What a function that is lent the transaction has done.
use Rattle.std.proofs.Common.{◌≡◌, ℕ, List, false, IsTrue, Ok, Err, Result, OnOk, OnErr, sym, ap, subst, ◌∙◌}
use Rattle.sqlite.specs.Order.{Row}
use Rattle.sqlite.specs.Tree.{Trees}
use Rattle.sqlite.specs.Schema.{Schema}
use Rattle.sqlite.specs.Effect.{Database, IsDatabase}
use Rattle.sqlite.specs.declared.error.Error.{Error}
use Rattle.sqlite.specs.State.{State, HasCleanDisk, IsUnchanged, Executes, ExecutesInside, Survives}
use Rattle.osb_orders.specs.Lives.{Lives}
use Rattle.osb_orders.specs.IsLife.{IsLives}
use Rattle.osb_tables.specs.Tables.{second_schema}
use Rattle.osb_audit.specs.Instances.{InstanceEntry}
use Rattle.osb_audit.specs.declared.entry.BindingEntry.{BindingEntry}
use Rattle.osb_audit.specs.Orders.{Entry, lives_in}
use Rattle.osb_statements.specs.Stored.{AreBare, AreBareRows, Content, content_in, lives_stored}
use Rattle.osb_joined.specs.Contexts.{contexts_of}
use Rattle.osb_contexts.specs.Contexts.{HoldsContexts}
use Rattle.osb_statements.specs.Standing.{IsConsistent}
use Rattle.osb_statements.specs.Steps.{HasTables, HoldsLives, IsReady, stored, content}
use Rattle.osb_contexts.specs.Inside.{ShowsSchema, Within}
use Rattle.osb_statements.specs.Inside.{ShowsBlank, AreBlank, ContentSteps, Makes}
use Rattle.osb_statements.specs.LivesWritten.{WritesLives}
use Rattle.osb_statements.proofs.SortLemmas.{entries_are, instances_are, bindings_are, held_again}
use Rattle.osb_statements.proofs.ChangeLemmas.{Gives}
use Rattle.osb_contexts.proofs.StepLemmas.{was_inside, clean_before, IsOver}

-- a query after a step
pub within_still : (old mid new : State) → Within old mid → IsUnchanged mid new → Within old new
within_still old mid new step same = record { was_inside = step.was_inside; inside = same.0.mode ∙ step.inside; was_open = step.was_open; is_open = same.0.is_open; committed = same.0.committed_is ∙ step.committed }

module _ (text : List ℕ) (params : Row) (old new : State) (result : Result ℕ Error) (why : Error) (over : IsOver old result why) (survives : Survives old new (λ _. ⊥)) (clean : HasCleanDisk new) where
  -- a statement whose meaning is known takes one step
  pub steps_by : (lives : Lives) (entries : List Entry) (instances : List InstanceEntry) (bindings : List BindingEntry) → AreBare entries → AreBareRows instances → ShowsSchema second_schema old
      → ((count : ℕ) → HasCleanDisk old → IsTrue old.is_open → old.now.schema ≡ second_schema → Executes text params old new (Ok count) → Gives old new entries instances bindings × (lives_in entries ≡ lives))
      → (IsTrue old.in_transaction → ExecutesInside 0 text params old new result) → OnOk result (ContentSteps old new (record { lives = lives; instances = instances; bindings = bindings }))
  steps_by lives entries instances bindings bare bare_rows has does h =
      let next : Content = record { lives = lives; instances = instances; bindings = bindings } in
      elim result as (λ r. IsOver old r why → (IsTrue old.in_transaction → ExecutesInside 0 text params old new r) → OnOk r (ContentSteps old new next)) [
        | Err e ↦ λ _ _. tt
        | Ok count ↦ λ ended run.
            let inside = was_inside old count why ended in
            let ran = run inside in
            let before = clean_before old new _ survives clean in
            let did = does count before ran.1.was_open (has before ran.1.was_open) ran.0 in
            let gives = did.0 in
            record {
              within = record { was_inside = inside; inside = ran.1.mode; was_open = ran.1.was_open; is_open = ran.1.is_open; committed = ran.1.committed_is };
              tables = record { schema = gives.0; holds = held_again 2 new.now.trees entries instances bindings bare bare_rows gives.1 };
              lives_are = ap lives_in (entries_are new.now.trees entries bare gives.1.orders) ∙ did.1;
              instances_are = instances_are new.now.trees instances bare_rows gives.1.instances;
              bindings_are = bindings_are new.now.trees bindings gives.1.bindings;
              sound = gives.2;
              contexts_kept = gives.3;
            }
      ] over h

  -- a statement that makes a table beside those that have no rows
  pub makes_by : (before after : Schema) (had has_now : List ℕ) → ShowsBlank before had old
      → ((count : ℕ) → old.now.schema ≡ before → AreBlank had old.now.trees → Executes text params old new (Ok count) → (new.now.schema ≡ after) × AreBlank has_now new.now.trees)
      → (IsTrue old.in_transaction → ExecutesInside 0 text params old new result) → OnOk result (Makes old new after has_now)
  makes_by before after had has_now blank does h =
      elim result as (λ r. IsOver old r why → (IsTrue old.in_transaction → ExecutesInside 0 text params old new r) → OnOk r (Makes old new after has_now)) [
        | Err e ↦ λ _ _. tt
        | Ok count ↦ λ ended run.
            let inside = was_inside old count why ended in
            let ran = run inside in
            let earlier = clean_before old new _ survives clean in
            let found = blank earlier ran.1.was_open in
            let did = does count found.0 found.1 ran.0 in
            let within : Within old new = record { was_inside = inside; inside = ran.1.mode; was_open = ran.1.was_open; is_open = ran.1.is_open; committed = ran.1.committed_is } in
            record { within = within; schema_is = did.0; blank = did.1 }
      ] over h

-- what a commit may leave, where its transaction took these steps
pub committed_lives : (old new : State) (lives : Lives) (db : Trees) → WritesLives old new lives → db ≡ new.now.trees → HoldsLives lives db
committed_lives old new lives db steps is = subst (HoldsLives lives) (sym is) (record {
  sound = subst (λ s. IsDatabase (record { schema = s; trees = new.now.trees })) steps.tables.schema steps.sound;
  holds = steps.tables.holds;
  lives_are = steps.lives_are;
  standing = steps.standing;
  contexts = steps.contexts;
})

pub tables_along : (a b : Database) → b ≡ a → HasTables a → HasTables b
tables_along a b is tables = subst HasTables (sym is) tables

pub standing_along : (a b : Database) → b ≡ a → IsConsistent (content_in a.trees) → IsConsistent (content_in b.trees)
standing_along a b is standing = subst (λ (d : Database). IsConsistent (content_in d.trees)) (sym is) standing

pub contexts_along : (a b : Database) → b ≡ a → HoldsContexts (contexts_of (lives_stored a.trees)) a.trees → HoldsContexts (contexts_of (lives_stored b.trees)) b.trees
contexts_along a b is contexts = subst (λ (d : Database). HoldsContexts (contexts_of (lives_stored d.trees)) d.trees) (sym is) contexts

pub lives_along : (a b : Database) → b ≡ a → IsLives (lives_stored a.trees) → IsLives (lives_stored b.trees)
lives_along a b is lives = subst (λ (d : Database). IsLives (lives_stored d.trees)) (sym is) lives

abbrev pub IsKept : State → Type 0
IsKept new = HasTables new.now × IsLives (stored new) × IsConsistent (content new) × HoldsContexts (contexts_of (stored new)) new.now.trees × (new.now ≡ new.committed)

-- what was written is kept where it is committed
pub written_kept : (old mid new : State) (lives : Lives) → WritesLives old mid lives → IsLives lives → new.now ≡ mid.now → new.now ≡ new.committed → IsKept new
written_kept old mid new lives writes whole is committed = (
  tables_along mid.now new.now is writes.tables,
  lives_along mid.now new.now is (subst IsLives (sym writes.lives_are) whole),
  standing_along mid.now new.now is writes.standing,
  contexts_along mid.now new.now is (subst (λ (l : Lives). HoldsContexts (contexts_of l) mid.now.trees) (sym writes.lives_are) writes.contexts),
  committed,
)

-- the two ways that a commit ends
pub ready_of : (new : State) (r : Result (Unit {0}) Error) → new.in_transaction ≡ false → (HasCleanDisk new → IsTrue new.is_open → OnOk r (IsKept new)) → (HasCleanDisk new → IsTrue new.is_open → OnErr r (IsKept new)) → IsReady new
ready_of new (Ok _) ended ok err = record { autocommit = ended; tables = λ clean live. (ok clean live).0; lives = λ clean live. (ok clean live).1; standing = λ clean live. (ok clean live).2; contexts = λ clean live. (ok clean live).3; committed = λ clean live. (ok clean live).4 }
ready_of new (Err _) ended ok err = record { autocommit = ended; tables = λ clean live. (err clean live).0; lives = λ clean live. (err clean live).1; standing = λ clean live. (err clean live).2; contexts = λ clean live. (err clean live).3; committed = λ clean live. (err clean live).4 }
