-- How many instances, bindings and running orders there are (this project's own).
use Rattle.std.specs.Prelude.{ℕ, ◌≡◌, Bool, List, length, filter, is_some}
use Rattle.std.specs.List.{flat_map}
use Rattle.std.specs.FinMap.{entries}
use Rattle.osb_orders.specs.declared.view.BindingNow.{BindingNow}
use Rattle.osb_orders.specs.Life.{Life, standing_of}
use Rattle.osb_orders.specs.Lives.{Lives}
use Rattle.osb_orders.specs.IsLife.{ends_running}
use Rattle.osb_standing.specs.Rows.{bindings_of}
use Rattle.osb_audit.specs.declared.counting.Counts.{Counts}

-- the instance isn't absent
abbrev pub is_there : (List ℕ × Life) → Bool
is_there instance = is_some (standing_of instance.1)

-- its last order runs
abbrev pub is_busy : (List ℕ × Life) → Bool
is_busy instance = ends_running instance.1

-- its bindings that aren't absent, with their ids
abbrev pub bindings_in : (List ℕ × Life) → List (List ℕ × BindingNow)
bindings_in instance = entries (bindings_of instance.1)

-- so many instances and bindings aren't absent, and so many orders run
pub record AreCounts (lives : Lives) (counts : Counts) : Type 0 where
  pub instances : counts.instances ≡ length (filter is_there (entries lives))
  pub bindings : counts.bindings ≡ length (flat_map bindings_in (entries lives))
  pub running : counts.running ≡ length (filter is_busy (entries lives))
