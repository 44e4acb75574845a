use Rattle.std.proofs.Common.{rules, ◌≢◌, []}
use Rattle.std.proofs.lemmas.Result.{on_ok_weaker}
use Rattle.osb_cli.proofs.DoneLemmas.{of_files}
use Rattle.osb_cli.proofs.commands.replay.Goals as goal

pub returns-clause-replayed : goal.returns-clause-replayed
returns-clause-replayed g c =
    let some : c.args.asked.now.connections.items ≢ [] = search rules in
    on_ok_weaker c.replay_files.result (λ replayed. record {
      settings = c.in_ok-settings.settings;
      are = c.in_ok-settings.ensures.are;
      connections = replayed.0;
      given = of_files (g.F.NamedFiles.contents c.args.files.now) c.args.asked.now.connections.items _ replayed.0 some (rw c.as_slice-names.ensures.value at replayed.1);
      replayed = replayed.2;
    }) c.replay_files.ensures.replayed
