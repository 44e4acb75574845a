use Rattle.std.proofs.Common.{Err, ap, ◌∙◌}
use Rattle.osb_records.proofs.records.Records.adopt.Goals as goal

pub returns-in-Err-clause-not_ours : goal.returns-in-Err-clause-not_ours
returns-in-Err-clause-not_ours g c clean is = c.take_over.ensures.takes.not_ours clean (c.in-Err.is ∙ ap Err is)
