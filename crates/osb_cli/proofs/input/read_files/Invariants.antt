use Rattle.std.proofs.Common.{drop, map, vec_items}
use Rattle.osb_cli.proofs.FilesLemmas.{Makes}
use Rattle.osb_cli.proofs.input.read_files.Given as goal

abbrev pub invariant-loop-name : goal.invariant-loop-name
invariant-loop-name g l =
    Makes (g.F.NamedFiles.contents l.fn.files) l.fn.names (drop l.name-index l.fn.names) (map vec_items l.read.items)
