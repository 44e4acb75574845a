use Rattle.std.proofs.Common.{◌≡◌, ◌∙◌, arith, rules}
use Rattle.std.proofs.lemmas.List.{take_rest}
use Rattle.osb_asks.specs.SegmentsLeft.{left}
use Rattle.osb_asks.specs.Targets.{segments}
use Rattle.osb_asks.proofs.TargetLemmas.{split_here}
use Rattle.osb_asks.proofs.target.Segments.take_next.Goals as goal

pub returns-then-end-bytes : goal.returns-then-end-bytes
returns-then-end-bytes c =
    let bs = c.in_ok-bytes.bytes.now in
    let first : left c.args.self.now ≡ segments bs = search rules in
    first ∙ simp (take_rest, c.position_of-end.ensures.value) (split_here bs (omega arith))
