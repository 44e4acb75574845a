-- What `replay` writes.
use Rattle.std.specs.Prelude.{◌≡◌, ℕ, List, ◌++◌}
use Rattle.std.specs.List.{concat}
use Rattle.std.specs.FinMap.{empty}
use Rattle.osb_frames.specs.declared.limits.Limits.{Limits}
use Rattle.osb_catalog.specs.Rules.{Rules}
use Rattle.osb_orders.specs.Lives.{Lives}
use Rattle.osb_broker.specs.Steps.{capped}
use Rattle.osb_broker.specs.Served.{AreStandard, RunServed}

-- the texts of connections of these bytes were written, one after the other, from a broker over these rules that has no
-- orders yet and takes up to so many requests of a connection
pub record IsReplayed (rules : Rules) (most : ℕ) (connections : List (List ℕ))
    (old new : List ℕ) : Type 0 where
  pub limits : Limits
  pub standard : AreStandard limits
  pub outputs : List (List ℕ)
  pub lives : Lives
  pub served : RunServed (capped rules) limits most empty connections outputs lives
  pub written : new ≡ old ++ concat outputs
