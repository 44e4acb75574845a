-- The doors of the broker: the platform's is `/v2`, as OSB API 2.17 has its paths; the backend's, `/backend`, is this
-- project's own.
use Rattle.std.specs.Prelude.{List, [], ◌∷◌, Option, Some, None, option_map, codes, bytes_eq, if◌then◌else◌}
use Rattle.osb_text.specs.Names.{Bytes}
use Rattle.osb_asks.specs.declared.door.Door.{Door}
use Rattle.osb_asks.specs.declared.door.Door.TheVariants.{Platform, Backend}
use Rattle.osb_asks.specs.Targets.{path_of, segments}

-- a door, and the segments of the path behind it
pub record Entrance : Type 0 where
  pub door : Door
  pub behind : List Bytes

abbrev pub door_at : Bytes → Option Door
door_at segment =
    if bytes_eq segment (codes "v2") then Some Platform
    else if bytes_eq segment (codes "backend") then Some Backend else None

-- nothing is before the first slash, and the door is named behind it
abbrev pub entered : List Bytes → Option Entrance
entered ([] ∷ name ∷ rest) = option_map (λ d. record { door = d; behind = rest }) (door_at name)
entered _ = None

abbrev pub entry_of : Bytes → Option Entrance
entry_of target = entered (segments (path_of target))
