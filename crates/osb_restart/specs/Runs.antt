-- What runs of the program leave of two files.
use Rattle.std.specs.Prelude.{ℕ, List}
use Rattle.sqlite_wal.specs.Recovery.{Image}
use Rattle.sqlite.specs.Tree.{Trees}
use Rattle.osb_frames.specs.declared.limits.Limits.{Limits}
use Rattle.osb_catalog.specs.Rules.{Rules}
use Rattle.osb_orders.specs.Lives.{Lives}
use Rattle.osb_file.specs.File.{AreLivesOf, HasTrees}
use Rattle.osb_broker.specs.Exchanges.{Exchange, AreExchanges}
use Rattle.osb_broker.specs.Served.{AreStandard}

-- a file and its log have a database with lives of which P holds (`∥ .. ∥₁` says that there is one, not which)
abbrev pub HoldsSome : Image → (Lives → Type 0) → Type 0
HoldsSome image P =
    ∥ ((db : Trees) × HasTrees image db × (lives : Lives) × AreLivesOf db lives × P lives) ∥₁

-- the exchanges lead, within the standard limits, from the lives in the file and the log before to
-- those in them after
abbrev pub Leads : Rules → ℕ → Image → List Exchange → Image → Type 0
Leads rules k before exchanges after =
    (db : Trees) → HasTrees before db → (old : Lives) → AreLivesOf db old →
    HoldsSome after (λ new. (limits : Limits) × AreStandard limits
    × AreExchanges rules limits k old exchanges new)
