use Rattle.std.proofs.Common.{take}
use Rattle.sqlite.specs.Held.{state}
use Rattle.osb_file.proofs.TrimmingLemmas.{HasAppended}
use Rattle.osb_file.proofs.trimming.append_all.Given as goal

abbrev pub invariant-loop-order : goal.invariant-loop-order
invariant-loop-order g l = HasAppended (state g.S.Store l.fn.records) (state g.S.Store l.records) l.id (take l.order-index l.orders)
