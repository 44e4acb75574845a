use Rattle.std.proofs.Common.{map, vec_items}
use Rattle.std.proofs.lemmas.Result.{on_ok_weaker}
use Rattle.sqlite.specs.Steps.{over_memory}
use Rattle.osb_broker.specs.BrokerState.{lives_of}
use Rattle.osb_cli.proofs.replay.serve_connections.Goals as goal

pub returns-clause-replayed : goal.returns-clause-replayed
returns-clause-replayed g c =
    let run = rw (c.in-Ok.ensures.lives, c.in_ok-records.ensures, c.in-Ok.ensures.rules, c.in-Ok.ensures.most, c.number.ensures.is) at c.in_ok-outputs.ensures.ok in
    on_ok_weaker c.write_outputs.result (λ wrote. record {
      limits = run.0;
      standard = run.1;
      outputs = map vec_items c.in_ok-outputs.outputs.items;
      lives = lives_of over_memory c.serve_all.new.broker;
      served = run.2;
      written = rw c.as_slice.ensures.value at wrote;
    }) c.write_outputs.ensures.written
