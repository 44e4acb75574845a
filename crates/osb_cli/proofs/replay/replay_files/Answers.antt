use Rattle.std.proofs.Common.{map, vec_items}
use Rattle.std.proofs.lemmas.Result.{on_ok_weaker}
use Rattle.osb_cli.proofs.replay.replay_files.Goals as goal

pub returns-clause-replayed : goal.returns-clause-replayed
returns-clause-replayed g c =
    let files = c.in_ok-connections.connections.items in
    on_ok_weaker c.serve_connections.result (λ replayed. (map vec_items files, c.in_ok-connections.ensures.read, rw c.as_slice.ensures.value at replayed)) c.serve_connections.ensures.replayed
