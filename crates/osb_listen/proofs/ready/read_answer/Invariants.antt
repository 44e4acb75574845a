use Rattle.std.proofs.Common.{◌-◌, ◌≤◌}
use Rattle.osb_listen.proofs.ready.read_answer.Given as goal

abbrev pub decreases-loop-done : goal.decreases-loop-done
decreases-loop-done l = 128 - l.done

abbrev pub invariant-loop-done : goal.invariant-loop-done
invariant-loop-done l = l.done ≤ 128
