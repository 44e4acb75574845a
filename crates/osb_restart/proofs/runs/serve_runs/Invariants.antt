use Rattle.std.proofs.Common.{◌≡◌, ◌++◌, List, length}
use Rattle.sqlite_wal.specs.Reads.{AreClean}
use Rattle.sqlite.specs.Tree.{Trees}
use Rattle.sqlite.specs.Files.{image_of}
use Rattle.osb_catalog.specs.Rules.{rules_of}
use Rattle.osb_orders.specs.Lives.{Lives}
use Rattle.osb_file.specs.File.{AreLivesOf, HasTrees}
use Rattle.osb_broker.specs.Exchanges.{Exchange, AreRuns, all_exchanges}
use Rattle.osb_listen.proofs.ExchangeLemmas.{standard}
use Rattle.osb_restart.specs.Runs.{HoldsSome}
use Rattle.osb_restart.proofs.runs.serve_runs.Given as goal

abbrev pub invariant-loop : goal.invariant-loop
invariant-loop g l = record {
  lived : (runs : List (List Exchange)) × (length runs ≡ l.counter)
      × (g.L.Entrance.journal l.entrance ≡ g.L.Entrance.journal l.fn.entrance ++ all_exchanges runs)
      × (AreClean g.D.Disk l.left.files.log l.left.files.db → (db : Trees) → HasTrees (image_of g.D.Disk l.fn.files.files) db → (old : Lives) → AreLivesOf db old
      → HoldsSome (image_of g.D.Disk l.left.files) (λ new. AreRuns (rules_of l.settings) standard.0 l.per_connection old runs new));
}
