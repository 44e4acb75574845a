-- The segments that are left to a reader of them. For contracts inside the crate.
use Rattle.std.specs.Prelude.{ℕ, List, [], Option, Some, None}
use Rattle.osb_asks.specs.declared.target.Segments.{Segments}
use Rattle.osb_asks.specs.Targets.{segments}

abbrev pub left_of : {A : Type 0} → (A → List ℕ) → Option A → List (List ℕ)
left_of bytes None = []
left_of bytes (Some rest) = segments (bytes rest)

abbrev pub left : Segments → List (List ℕ)
left s = left_of (λ bytes. bytes.now) s.rest
