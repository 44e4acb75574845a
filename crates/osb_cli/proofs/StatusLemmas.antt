-- What a status says.
use Rattle.std.proofs.Common.{◌≡◌, ◌≤◌, ℕ, arith, Result, Ok, Err, OnOk, OnErr}

-- what was done well has the status 0
pub well_if_0 : {A E : Type 0} (done : Result A E) (status : ℕ) (P : Type 0) → OnErr done (1 ≤ status) → status ≡ 0 → OnOk done P → P
well_if_0 (Ok x) status P fails is known = known
well_if_0 (Err fault) status P fails is known = absurd (omega (arith, is, fails))
