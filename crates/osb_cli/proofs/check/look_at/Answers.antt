use Rattle.std.proofs.Common.{◌∙◌, ◌++◌, ap}
use Rattle.std.proofs.lemmas.List.{append_assoc}
use Rattle.osb_cli.specs.Done.{database_line}
use Rattle.osb_cli.proofs.check.look_at.Goals as goal

pub returns-clause-looked : goal.returns-clause-looked
returns-clause-looked g c =
    let noted = c.in_ok-write_note.ensures.written in
    let line = database_line c.in-Ok.seen in
    let before = g.W.Sink.taken c.args.output.now in
    record {
      files = c.in_ok-copied.copied;
      copy = c.in_ok-copied.ensures;
      seen = c.in-Ok.seen;
      is = c.in-Ok.ensures.seen;
      note = noted.0;
      noted = noted.1;
      written = noted.2 ∙ ap (λ it. it ++ noted.0) c.in_ok-write_database.ensures.written ∙ append_assoc before line noted.0;
    }
