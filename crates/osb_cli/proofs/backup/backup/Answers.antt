use Rattle.std.proofs.lemmas.Result.{on_ok_weaker}
use Rattle.osb_cli.proofs.backup.backup.Goals as goal

pub returns-clause-made : goal.returns-clause-made
returns-clause-made g c =
    let one = c.in_ok-one in
    on_ok_weaker c.report.result (λ written. record {
      files = one.ensures.is.0;
      copy = one.ensures.is.1;
      bytes = one.one.bytes.items;
      made = c.in_ok-make.ensures.made;
      counts = one.one.counts;
      has = one.ensures.is.2;
      written = written;
    }) c.report.ensures.written
