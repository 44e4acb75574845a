-- Connections whose requests wait.
use Rattle.std.specs.Prelude.{◌≡◌, ◌≤◌, ℕ, List, [], length, map, vec_items, vec_len, vec_capacity}
use Rattle.std.specs.List.{AllByRecursion}
use Rattle.osb_broker.specs.declared.waiting.Waiting.TheInside.{Inside}
use Rattle.osb_broker.specs.Inside.{IsBlank}

-- the bytes of each
abbrev pub bytes_of_each : Inside → List (List ℕ)
bytes_of_each w = map vec_items w.requests.items

-- There is room for a fixed reply to each, and for as many outputs as requests.
pub record HasRooms (w : Inside) : Type 0 where
  pub blank : AllByRecursion IsBlank w.blanks.items
  pub each : length w.blanks.items ≡ length w.requests.items
  pub none : w.outputs.items ≡ []
  pub unused : vec_len w.outputs ≡ 0
  pub room : length w.requests.items ≤ vec_capacity w.outputs
