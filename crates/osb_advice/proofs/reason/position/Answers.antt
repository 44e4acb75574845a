use Rattle.std.proofs.Common.{string_bytes}
use Rattle.std.proofs.lemmas.Result.{IfOk-weaker}
use Rattle.osb_advice.specs.Unreadable.{NamesPosition}
use Rattle.osb_advice.proofs.reason.position.Goals as goal

pub returns : goal.returns
returns c = IfOk-weaker c.format.result _ (λ text. NamesPosition (string_bytes text)) (λ text is. record { line = c.args.line; column = c.args.column; is = is }) c.format.ensures.ok
