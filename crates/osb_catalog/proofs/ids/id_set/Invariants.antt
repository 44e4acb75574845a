use Rattle.std.proofs.Common.{◌≡◌, ◌||◌, ℕ, List, drop}
use Rattle.osb_catalog.specs.Ids.{is_among}
use Rattle.osb_catalog.specs.IdSet.{texts, has_id}
use Rattle.osb_catalog.proofs.ids.id_set.Given as goal

abbrev pub invariant-loop-id : goal.invariant-loop-id
invariant-loop-id l = (id : List ℕ) → (has_id l.set id || is_among id (texts (drop l.id-index l.ids))) ≡ is_among id (texts l.ids)
