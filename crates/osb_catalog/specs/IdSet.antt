-- Ids as the code holds them: borrowed texts, and sets of these. For contracts inside the crate.
use Rattle.std.specs.Prelude.{ℕ, List, Bool, map}
use Rattle.std.specs.Ordering.{nat_cmp}
use Rattle.std.specs.Cmp.Lexicographic.{slice_cmp}
use Rattle.std.specs.BTreeSet.{BTreeSet, contains_by}
use denote.Ref.{Bor}

abbrev pub texts : List (Bor (List ℕ)) → List (List ℕ)
texts ids = map (λ id. id.now) ids

abbrev pub has_id : BTreeSet (Bor (List ℕ)) → List ℕ → Bool
has_id set id = contains_by (λ k. slice_cmp nat_cmp id k.now) set
