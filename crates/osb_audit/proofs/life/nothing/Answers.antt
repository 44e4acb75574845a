use Rattle.std.proofs.Common.{refl, arith}
use Rattle.osb_audit.proofs.TreeLemmas.{holds_none}
use Rattle.osb_audit.proofs.life.nothing.Goals as goal

pub returns : goal.returns
returns c = record {
  is_life = record { count = omega arith; orders = tt; texts = tt };
  row = refl;
  birth = refl;
  bindings = holds_none c.new.result c.new.ensures.empty;
}
