use Rattle.std.proofs.Common.{inl, inr, arith}
use Rattle.osb_frames.specs.Steps.{message}
use Rattle.osb_broker.proofs.setup.Setup.join.Goals as goal
use Rattle.osb_broker.proofs.setup.Setup.join.Goals.{else-most-gt1-via-then-most-gt1+else-used-bytes, else-most-gt1-via-else-most-gt1}

pub returns-in-Some-clause-joins : goal.returns-in-Some-clause-joins
returns-in-Some-clause-joins g c works clean e = record {
  q = message c.in-Whole.request;
  n = c.in-Whole.used;
  front = c.in-Whole.ensures.says;
  last = elim c.else-most-gt1.branch [
    | else-most-gt1-via-then-most-gt1+else-used-bytes w ↦ inr (w.if-most-gt1.true, omega (arith, w.if-used-bytes.false))
    | else-most-gt1-via-else-most-gt1 w ↦ inl (omega (arith, w.if-most-gt1.false, c.args.most.allowed.0))
  ];
  output = c.in-Some.output;
  one = c.in-Some.change;
  decides = rw c.is_one.ensures at c.in-Some.ensures.decides works clean;
  apart = rw c.deref.ensures.value at c.in-Some.ensures.apart;
  outputs = c.add.ensures.outputs e;
  none = c.add.ensures.none e;
  some = c.add.ensures.some e;
}
