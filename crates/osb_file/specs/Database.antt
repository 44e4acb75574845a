-- What a connection shows that was just opened.
use Rattle.std.specs.Prelude.{◌≡◌}
use Rattle.sqlite.specs.Tree.{Trees}
use Rattle.sqlite_wal.specs.Recovery.{Image}
use Rattle.sqlite.specs.State.{State, IsLive, Opens}
use Rattle.sqlite.specs.Start.{FindsIn}

-- It was opened to what a file and its log hold. It shows the database that is there, and a crash now leaves that.
pub record IsOpenedTo (image : Image) (now : State) : Type 0 where
  pub opens : Opens now
  pub live : IsLive now
  pub found : FindsIn image now
  pub only : (left : Trees) → now.may_leave left → left ≡ now.committed.trees
