-- The lives of all instances: a finite map from ids, in the order of their bytes.
use Rattle.std.specs.Prelude.{[], Option, None, Some, unwrap_or}
use Rattle.std.specs.Ordering.{nat_cmp}
use Rattle.std.specs.Cmp.Lexicographic.{slice_cmp}
use Rattle.std.specs.FinMap.{FinMap, get}
use Rattle.osb_text.specs.Names.{Id}
use Rattle.osb_orders.specs.Life.{Life}

abbrev pub Lives : Type 0
Lives = FinMap (slice_cmp nat_cmp) Life

-- an id without a life has the empty one
abbrev pub life_of : Lives → Id → Life
life_of lives id = unwrap_or (get lives id) []

abbrev pub named_life : Lives → Option Id → Life
named_life lives None = []
named_life lives (Some id) = life_of lives id
