use Rattle.std.proofs.Common.{◌≡◌, ◌∙◌}
use Rattle.osb_broker.proofs.setup.Setup.keep_or_answer.Goals as goal
use Rattle.osb_broker.proofs.setup.Setup.keep_or_answer.Goals.{else-may_wait-via-then-may_wait+else-keep_among, else-may_wait-via-else-may_wait}

pub returns-in-Ok-false-clause-begun : goal.returns-in-Ok-false-clause-begun
returns-in-Ok-false-clause-begun g c =
    let same : (c.else-may_wait.waiting ≡ c.args.waiting.now) × (c.else-may_wait.staying ≡ c.args.staying.now) = elim c.else-may_wait.branch [
      | else-may_wait-via-then-may_wait+else-keep_among w ↦ let stay = w.keep_among.ensures.same w.if-keep_among.false in (w.waiting-is ∙ stay.0, w.staying-is ∙ stay.1)
      | else-may_wait-via-else-may_wait w ↦ (w.waiting-is, w.staying-is)
    ] in
    let replied = rw c.in-Ok-false.field-0-test at c.in-Ok-false.ensures in
    (same.0, same.1, record { answers = replied.answers; leaves = replied.leaves; ok = replied.ok; err = replied.err })
