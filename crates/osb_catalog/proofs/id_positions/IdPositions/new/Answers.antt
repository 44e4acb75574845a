use Rattle.std.proofs.Common.{◌-◌, arith}
use Rattle.osb_catalog.proofs.PlaceLemmas.{place_before}
use Rattle.osb_catalog.proofs.id_positions.IdPositions.new.Goals as goal

pub loop-place-preserved : goal.loop-place-preserved
loop-place-preserved c = place_before c.args.ids.now (c.loop-place.place - 1) c.loop-place.place c.loop-place.by_id c.insert.new.self c.in_ok-from_str.field-0 (omega arith) (omega arith) c.in_ok-from_str.ensures.ok c.in_ok-insert.ensures.updates c.loop-place.invariant
