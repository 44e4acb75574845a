use Rattle.std.proofs.Common.{◌≡◌, ◌≤◌, ◌++◌, length}
use Rattle.std.specs.Io.KnownBytes.{Consumes}
use Rattle.osb_cli.proofs.input.read_whole.Given as goal

abbrev pub invariant-loop-turn : goal.invariant-loop-turn
invariant-loop-turn g l =
    let source = g.R.Source in
    record {
      given : source.given l.source ≡ source.given l.fn.source ++ l.bytes.items;
      known : Consumes (source.rest l.fn.source) (source.rest l.source) l.bytes.items;
      failed : source.failures l.source ≡ source.failures l.fn.source;
      small : length l.bytes.items ≤ 16777216;
      turns : l.turn ≤ length l.bytes.items;
    }
