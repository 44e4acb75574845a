-- What is known after a call that reads.
use Rattle.std.proofs.Common.{◌≡◌, ap}
use Rattle.sqlite.specs.Effect.{Database}
use Rattle.osb_statements.specs.Stored.{lives_stored}

-- what a call left as it was has the same lives
pub same_lives : (old new : Database) → new ≡ old → lives_stored new.trees ≡ lives_stored old.trees
same_lives old new same = ap (λ (db : Database). lives_stored db.trees) same
