-- The answer and the change of a step of the code, wherever the bytes of its body lie.
use Rattle.osb_replies.specs.Body.{body_bytes}
use Rattle.osb_machine.specs.declared.answer_and_change.AnswerAndChange.{AnswerAndChange}
use Rattle.osb_machine.specs.declared.opening.Opening as declared
use Rattle.osb_machine.specs.Decision.{Decision}
use Rattle.osb_machine.specs.Opened.{Opening}

abbrev pub decision : AnswerAndChange → Decision
decision step =
    record { status = step.answer.status; body = body_bytes step.answer.body; change = step.change }

abbrev pub opening_of : declared.Opening → Opening
opening_of opening = record {
  asynchronous = opening.asynchronous;
  accepts_incomplete = opening.accepts_incomplete;
  kind = opening.kind;
  binding = opening.binding;
  attributes = opening.attributes;
  credentials = opening.credentials;
  status = opening.answer.status;
  body = body_bytes opening.answer.body;
}
