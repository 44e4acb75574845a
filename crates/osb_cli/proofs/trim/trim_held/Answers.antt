use Rattle.std.proofs.Common.{◌∙◌, ◌++◌, ℕ, ap, length}
use Rattle.std.proofs.lemmas.Result.{on_ok_weaker}
use Rattle.osb_cli.specs.Done.{trimmed_line}
use Rattle.osb_cli.proofs.trim.trim_held.Goals as goal

pub returns-clause-made : goal.returns-clause-made
returns-clause-made g c =
    let trimmed = c.in-Ok.trimmed in
    let is = c.in-Ok.ensures.is in
    on_ok_weaker c.report.result (λ written. record {
      files = is.files;
      copy = is.copy;
      bytes = trimmed.file.bytes.items;
      made = c.in_ok-replace.ensures.made;
      trimmed = is.is;
      count = trimmed.count;
      written = written ∙ ap (λ (before : ℕ). g.W.Sink.taken c.args.output.now ++ trimmed_line trimmed.count before (length trimmed.file.bytes.items)) is.before;
    }) c.report.ensures.written
