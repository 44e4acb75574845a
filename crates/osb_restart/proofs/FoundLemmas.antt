-- Which lives the next run finds.
use Rattle.std.proofs.Common.{◌≡◌, ◌⊎◌, inl, inr, IsTrue, Result, Ok, Err, OnOk, is_ok, sym, subst, ◌∙◌}
use Rattle.std.proofs.lemmas.Bool.{false≢true}
use Rattle.std.proofs.Math.Logic.{∥∥₁_elim, ∥∥₁_map}
use Rattle.sqlite.specs.Tree.{Trees}
use Rattle.sqlite.specs.State.{State, HasCleanDisk, IsLive, Opens, Survives}
use Rattle.osb_orders.specs.Lives.{Lives}
use Rattle.osb_statements.specs.Stored.{lives_stored}
use Rattle.osb_records.specs.CrashLeaves.{KeepsLives}
use Rattle.osb_records.specs.Opened.{HoldsSame}
use Rattle.osb_statements.specs.Steps.{HoldsLives}
use Rattle.osb_file.proofs.FileLemmas.{opened_stand}
use Rattle.osb_file.proofs.HeldLemmas.{held_are_found, stored_are_found}
use Rattle.osb_restart.specs.Restart.{MayLeaveLives}
use Rattle.osb_restart.proofs.LivesLemmas.{Lives-set}

-- a crash of a run that took over what it opened leaves the lives of what it opened
pub holds_same : (conn : State) (db : Trees) → Opens conn → IsLive conn → ((left : Trees) → conn.may_leave left → left ≡ conn.committed.trees)
    → conn.may_leave db ⊎ HoldsSame conn.now db → (lives : Lives) → HoldsLives lives conn.committed.trees → HoldsLives lives db
holds_same conn db opens live only (inl left) lives holds = subst (HoldsLives lives) (sym (only db left)) holds
holds_same conn db opens live only (inr (same, stand, again)) lives holds =
    let is : same ≡ lives = held_are_found conn.committed.trees lives same holds (opened_stand conn same opens live stand) in
    subst (λ (l : Lives). HoldsLives l db) is again

pub where_ok : {A E : Type 0} (result : Result A E) (P : Type 0) → IsTrue (is_ok result) → OnOk result P → P
where_ok (Ok value) P told holds = holds
where_ok (Err error) P told holds = absurd (false≢true told)

-- what is kept is found
pub finds_kept : (s : State) (lives found : Lives) → KeepsLives s lives → MayLeaveLives s found → found ≡ lives
finds_kept s lives found keeps may = ∥∥₁_elim may (Lives-set found lives) (λ it. held_are_found it.0 lives found (keeps it.0 it.1) it.2)

module _ (old new : State) (before after found : Lives) (Commits : Trees → Type 0) (holds : (db : Trees) → Commits db → HoldsLives after db)
    (keeps : KeepsLives old before) (survives : Survives old new Commits) (clean : HasCleanDisk new) (may : MayLeaveLives new found) where
  -- the lives are those before a call or those after it
  pub finds_either : ∥ (found ≡ before) ⊎ (found ≡ after) ∥₁
  finds_either = ∥∥₁_map may (λ it. let r : (found ≡ before) ⊎ (found ≡ after) = elim (survives.crash clean it.0 it.1) [
    | inl left ↦ inl (held_are_found it.0 before found (keeps it.0 left) it.2)
    | inr new ↦ inr (held_are_found it.0 after found (holds it.0 new) it.2)
  ] in r)

  -- and those after it, where only trees that store these are left
  pub finds_after : ((db : Trees) → new.may_leave db → lives_stored db ≡ after) → found ≡ after
  finds_after only = ∥∥₁_elim may (Lives-set found after) (λ it. elim (survives.crash clean it.0 it.1) [
    | inl left ↦ stored_are_found it.0 before found (keeps it.0 left) it.2 ∙ only it.0 it.1
    | inr new ↦ held_are_found it.0 after found (holds it.0 new) it.2
  ])
