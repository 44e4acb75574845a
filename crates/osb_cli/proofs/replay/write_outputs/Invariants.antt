use Rattle.std.proofs.Common.{◌≡◌, ◌++◌, drop, map, vec_items}
use Rattle.std.specs.List.{concat}
use Rattle.osb_cli.proofs.replay.write_outputs.Given as goal

abbrev pub invariant-loop-bytes : goal.invariant-loop-bytes
invariant-loop-bytes g l =
    g.W.Sink.taken l.output ++ concat (map vec_items (drop l.bytes-index l.outputs)) ≡ g.W.Sink.taken l.fn.output ++ concat (map vec_items l.outputs)
