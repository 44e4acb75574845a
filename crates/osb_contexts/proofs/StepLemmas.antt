-- What a function that is lent the transaction has done.
use Rattle.std.proofs.Common.{◌≡◌, inl, inr, ℕ, List, false, IsTrue, Ok, Err, Result, OnOk, IfOk, None, Option, Some, sym, ap, subst, ◌∙◌, arith}
use Rattle.std.proofs.lemmas.Bool.{cases_Bool}
use Rattle.sqlite.specs.Order.{Row}
use Rattle.sqlite.specs.Tree.{Trees}
use Rattle.sqlite.specs.Schema.{Schema}
use Rattle.sqlite.specs.Table.{Table}
use Rattle.sqlite.specs.Change.{KeepsRows}
use Rattle.sqlite.specs.Effect.{IsDatabase}
use Rattle.sqlite.specs.declared.error.Error.{Error}
use Rattle.sqlite.specs.declared.transaction.Transaction.{Transaction}
use Rattle.sqlite.specs.Listing.{understood}
use Rattle.sqlite.specs.State.{State, HasCleanDisk, Executes, ExecutesInside, IsUnchanged, Shown, ShowsRows, Survives}
use Rattle.sqlite.proofs.Callers.{IsPlain}
use Rattle.sqlite_resolve.specs.declared.compiled.Compiled.{Compiled}
use Rattle.sqlite_schema.specs.declared.command.Returning.{Returning}
use Rattle.sqlite_trees.specs.declared.store.Store.{Ghosts}
use Rattle.osb_contexts.specs.Inside.{ShowsSchema, Within, Reshapes}
use Rattle.osb_contexts.specs.Reads.{Reads, behind}

abbrev pub IsOver : State → Result ℕ Error → Error → Type 0
IsOver old result why = old.in_transaction ≡ false → result ≡ Err why

-- a statement that was run found a transaction
pub was_inside : (old : State) (count : ℕ) (why : Error) → IsOver old (Ok count) why → IsTrue old.in_transaction
was_inside old count why ended = elim (cases_Bool old.in_transaction) [
  | inl inside ↦ inside
  | inr over ↦ absurd (let e = ended over in cc)
]

pub clean_before : (old new : State) (P : Trees → Type 0) → Survives old new P → HasCleanDisk new → HasCleanDisk old
clean_before old new P s clean = omega (arith, s.clean)

-- one step after another
pub within_then : (old mid new : State) → Within old mid → Within mid new → Within old new
within_then old mid new first next = record { was_inside = first.was_inside; inside = next.inside; was_open = first.was_open; is_open = next.is_open; committed = next.committed ∙ first.committed }

-- a step after a query
pub within_later : (old mid new : State) → IsUnchanged old mid → Within mid new → Within old new
within_later old mid new same step = record { was_inside = sym same.0.mode ∙ step.was_inside; inside = step.inside; was_open = same.0.was_open; is_open = step.is_open; committed = step.committed ∙ same.0.committed_is }

-- what a statement leaves: a schema, and the rows of these tables as they were
abbrev pub Leaves : Schema → List Table → State → State → Type 0
Leaves schema tables old new = (new.now.schema ≡ schema) × KeepsRows tables old.now.trees new.now.trees × IsDatabase new.now

module _ (text : List ℕ) (params : Row) (old new : State) (result : Result ℕ Error) (why : Error) (over : IsOver old result why) (survives : Survives old new (λ _. ⊥)) (clean : HasCleanDisk new) where
  -- what is known of a statement that was run is known inside the transaction
  pub inside_by : (P : Type 0) → ((count : ℕ) → HasCleanDisk old → IsTrue old.is_open → Within old new → Executes text params old new (Ok count) → P)
      → (IsTrue old.in_transaction → ExecutesInside 0 text params old new result) → OnOk result P
  inside_by P does h =
      elim result as (λ r. IsOver old r why → (IsTrue old.in_transaction → ExecutesInside 0 text params old new r) → OnOk r P) [
        | Err e ↦ λ _ _. tt
        | Ok count ↦ λ ended run.
            let inside = was_inside old count why ended in
            let ran = run inside in
            does count (clean_before old new _ survives clean) ran.1.was_open
            (record { was_inside = inside; inside = ran.1.mode; was_open = ran.1.was_open; is_open = ran.1.is_open; committed = ran.1.committed_is })
            ran.0
      ] over h

  -- where the schema before it is known
  pub reshapes_by : (before after : Schema) (tables : List Table) → ShowsSchema before old → ((count : ℕ) → old.now.schema ≡ before → Executes text params old new (Ok count) → Leaves after tables old new)
      → (IsTrue old.in_transaction → ExecutesInside 0 text params old new result) → OnOk result (Reshapes after tables old new)
  reshapes_by before after tables has does h = inside_by (Reshapes after tables old new) (λ count earlier live within run.
      let did = does count (has earlier live) run in
      record { within = within; schema_is = did.0; kept = did.1; sound = did.2 }) h

pub if_ok_with : {A B : Type 0} {P Q : A → Type 0} {R : Type 0} (r : Result A B) → ((x : A) → R → P x → Q x) → OnOk r R → IfOk r P → IfOk r Q
if_ok_with (Ok x) f known h = f x known h
if_ok_with (Err e) f known h = tt

-- the value of a call that reads, in other words, by what a clean store that is open has
pub if_read : {S V E : Type 0} {P Q : V → Type 0} {g : Ghosts S} {old new : Transaction S} {result : Result V E} → Reads g old new result → HasCleanDisk (behind g new)
    → (HasCleanDisk (behind g old) → IsTrue (behind g old).is_open → (value : V) → P value → Q value) → IfOk result P → IfOk result Q
if_read {P = P} {Q = Q} {result = result} reads clean says is =
    if_ok_with result (λ value same h. says (clean_before _ _ _ reads.survives clean) same.0.was_open value h) (reads.same clean) is

module _ (sql : List ℕ) (params : Row) (old new : State) where
  showed_open : (c : Compiled) (full : Row) (rows : List Row) (returning : Option Returning) → ShowsRows old new sql c full rows returning → IsTrue old.is_open
  showed_open c full rows None h = h.3.0.was_open
  showed_open c full rows (Some what) h = h.1.shown.was_open

  pub shown_open : (rows : List Row) → Shown sql params old new rows → IsTrue old.is_open
  unfolding Shown
  shown_open rows h = showed_open h.0 _ rows h.0.returning h.2

  -- a query leaves the store as it was
  pub shown_same : (schema : Schema) → old.now.schema ≡ schema → IsPlain (understood schema sql) → (rows : List Row) → Shown sql params old new rows → IsUnchanged old new
  unfolding Shown
  shown_same schema has plain rows h =
      let known = sym h.1.is ∙ ap (λ s. understood s sql) has in
      let bare = subst IsPlain (sym known) plain in
      (rw bare.0 at h.2).3
