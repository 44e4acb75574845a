-- What a statement does inside a transaction. For contracts inside the crate.
use Rattle.std.specs.Prelude.{◌≡◌, false, IsTrue, ℕ, List, [], Some, filter, bytes_eq}
use Rattle.std.specs.List.{AllByRecursion}
use Rattle.sqlite.specs.Tree.{Trees}
use Rattle.sqlite.specs.Schema.{Schema}
use Rattle.sqlite.specs.Effect.{IsDatabase}
use Rattle.sqlite.specs.State.{State, HasCleanDisk}
use Rattle.osb_orders.specs.Lives.{Lives}
use Rattle.osb_standing.specs.declared.row.InstanceRow.{InstanceRow}
use Rattle.osb_audit.specs.Instances.{IsRowOf, InstanceEntry, is_instance}
use Rattle.osb_audit.specs.declared.entry.BindingEntry.{BindingEntry}
use Rattle.osb_contexts.specs.Inside.{Within}
use Rattle.osb_statements.specs.Stored.{Content}
use Rattle.osb_statements.specs.Standing.{IsConsistent}
use Rattle.osb_statements.specs.Steps.{bare_in, content, HasTables}

-- these trees have no rows
abbrev pub AreBlank : List ℕ → Trees → Type 0
AreBlank places db = AllByRecursion (λ tree. db tree ≡ []) places

-- a clean connection that is open has this schema, and no rows in these trees
abbrev pub ShowsBlank : Schema → List ℕ → State → Type 0
ShowsBlank schema places s =
    HasCleanDisk s → IsTrue s.is_open → (s.now.schema ≡ schema) × AreBlank places s.now.trees

-- the content with other lives, instances or bindings
abbrev pub with_lives : Lives → Content → Content
with_lives lives content = record content { lives = lives }

abbrev pub with_instances : List InstanceEntry → Content → Content
with_instances instances content = record content { instances = instances }

abbrev pub with_bindings : List BindingEntry → Content → Content
with_bindings bindings content = record content { bindings = bindings }

-- the entry with another row
abbrev pub with_row : InstanceRow → InstanceEntry → InstanceEntry
with_row row entry = (entry.0, row)

-- the instance has this row now, and the others have what they had
pub record Puts (id : List ℕ) (row : InstanceRow) (before after : List InstanceEntry) : Type 0 where
  pub here : IsRowOf id (Some row) after
  pub others : (other : List ℕ) → bytes_eq id other ≡ false →
      filter (is_instance other) after ≡ filter (is_instance other) before

-- the rows of the contexts stay
abbrev pub KeepsContexts : State → State → Type 0
KeepsContexts old new = new.now.trees 7 ≡ old.now.trees 7

-- Inside a transaction the content has become this one, and the contexts stay. Nothing is committed.
pub record ContentSteps (old new : State) (next : Content) : Type 0 where
  pub within : Within old new
  pub tables : HasTables new.now
  pub lives_are : bare_in new ≡ next.lives
  pub instances_are : (content new).instances ≡ next.instances
  pub bindings_are : (content new).bindings ≡ next.bindings
  pub sound : IsDatabase new.now
  pub contexts_kept : KeepsContexts old new

-- Inside a transaction the lives that the orders store have become these, with the rows that they have. Nothing is committed.
pub record Writes (old new : State) (lives : Lives) : Type 0 where
  pub within : Within old new
  pub tables : HasTables new.now
  pub lives_are : bare_in new ≡ lives
  pub standing : IsConsistent (content new)
  pub sound : IsDatabase new.now
  pub contexts_kept : KeepsContexts old new

-- Inside a transaction the instance got this row. Nothing is committed.
pub record PutsInstance (old new : State) (id : List ℕ) (row : InstanceRow) : Type 0 where
  pub steps : ContentSteps old new (with_instances (content new).instances (content old))
  pub puts : Puts id row (content old).instances (content new).instances

-- Inside a transaction the schema has become this one, and these trees have no rows. Nothing is committed.
pub record Makes (old new : State) (schema : Schema) (places : List ℕ) : Type 0 where
  pub within : Within old new
  pub schema_is : new.now.schema ≡ schema
  pub blank : AreBlank places new.now.trees
