use Rattle.std.proofs.lemmas.Result.{on_ok_weaker}
use Rattle.osb_cli.proofs.replay.replay_input.Goals as goal

pub returns-clause-replayed : goal.returns-clause-replayed
returns-clause-replayed g c =
    on_ok_weaker c.serve_connections.result (λ replayed. (c.in_ok-bytes.bytes.items, c.in_ok-bytes.ensures.read, replayed)) c.serve_connections.ensures.replayed
