-- The places of ids in a list. For contracts inside the crate.
use Rattle.std.specs.Prelude.{◌≡◌, ℕ, List, Option, bytes_eq}
use Rattle.std.specs.List.{position_from}
use Rattle.std.specs.BTreeMap.{get_by_text}
use Rattle.osb_catalog.specs.declared.id_positions.IdPositions.{IdPositions}

abbrev pub id_position_in : IdPositions → List ℕ → Option ℕ
id_position_in places id = get_by_text places.by_id id

-- the first place of the id, where the first of the ids is at `from`
abbrev pub id_position_from : ℕ → List (List ℕ) → List ℕ → Option ℕ
id_position_from from ids id = position_from (λ other. bytes_eq other id) from ids

abbrev pub AreIdPositionsOf : IdPositions → List (List ℕ) → Type 0
AreIdPositionsOf places ids = (id : List ℕ) → id_position_in places id ≡ id_position_from 0 ids id
