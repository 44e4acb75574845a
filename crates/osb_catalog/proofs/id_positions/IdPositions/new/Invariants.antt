use Rattle.std.proofs.Common.{◌≡◌, ℕ, List, drop}
use Rattle.std.specs.BTreeMap.{get_by_text}
use Rattle.osb_catalog.specs.IdSet.{texts}
use Rattle.osb_catalog.specs.IdPositions.{id_position_from}
use Rattle.osb_catalog.proofs.id_positions.IdPositions.new.Given as goal

abbrev pub invariant-loop-place : goal.invariant-loop-place
invariant-loop-place l = (id : List ℕ) → get_by_text l.by_id id ≡ id_position_from l.place (texts (drop l.place l.ids)) id
