use Rattle.std.proofs.Common.{[]}
use Rattle.osb_listen.specs.Lines.{SaysWithRefused}
use Rattle.osb_listen.proofs.refused.report_refusals.Given as goal

abbrev pub invariant-loop-cause : goal.invariant-loop-cause
invariant-loop-cause g l = SaysWithRefused [] (g.E.Sink.taken l.fn.errors) (g.E.Sink.taken l.errors) (g.E.Sink.failed_or_empty l.fn.errors) (g.E.Sink.failed_or_empty l.errors)
