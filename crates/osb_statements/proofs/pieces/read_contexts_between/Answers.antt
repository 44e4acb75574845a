use Rattle.std.proofs.Common.{rules}
use Rattle.sqlite.specs.Values.{bound_value}
use Rattle.sqlite_value.specs.Value.{owned}
use Rattle.osb_contexts.specs.Contexts.{contexts_in}
use Rattle.osb_contexts.specs.Pieces.{piece}
use Rattle.osb_contexts.specs.Reads.{behind}
use Rattle.osb_contexts.proofs.SortLemmas.{held_again}
use Rattle.osb_statements.proofs.FitLemmas.{contexts_fit}
use Rattle.osb_statements.proofs.pieces.read_contexts_between.Goals as goal

pub returns-in-None-clause-known : goal.returns-in-None-clause-known
returns-in-None-clause-known g c clean stores =
    let db = piece c.args.after.now (bound_value (owned c.args.to)) (behind g.S.Store c.args.tx.now).now.trees in
    let found = c.read_contexts.ensures.known clean (contexts_in db) (held_again db _ stores.contexts) (contexts_fit db stores) in
    search rules
