-- The last of a list, and what comes from it on.
use Rattle.std.specs.Prelude.{Bool, List, [], ◌∷◌, filter, Option, None, Some, if◌then◌else◌}

abbrev pub or_else : {A : Type 0} → List A → List A → List A
or_else [] others = others
or_else (item ∷ items) others = item ∷ items

-- from the last item on that passes the test; nothing where none does
abbrev pub from_last : {A : Type 0} → (A → Bool) → List A → List A
from_last passes [] = []
from_last passes (item ∷ items) = or_else (from_last passes items) (if passes item then item ∷ items else [])

-- the last item, or the given one
abbrev pub last_from : {A : Type 0} → A → List A → A
last_from given [] = given
last_from given (item ∷ items) = last_from item items

-- the last item that passes the test, or the given one
abbrev pub last_where : {A : Type 0} → (A → Bool) → A → List A → A
last_where passes given items = last_from given (filter passes items)

abbrev pub last_of : {A : Type 0} → List A → Option A
last_of [] = None
last_of (item ∷ items) = Some (last_from item items)
