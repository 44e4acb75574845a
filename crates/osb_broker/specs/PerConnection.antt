-- How many requests of a connection may be taken.
use Rattle.std.specs.Prelude.{ℕ, ◌≤◌}

-- from 1 to 1,000
abbrev pub IsPerConnection : ℕ → Type 0
IsPerConnection number = (1 ≤ number) × (number ≤ 1000)
