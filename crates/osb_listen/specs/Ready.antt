-- The answer by which it is seen that the program is ready.
use Rattle.std.specs.Prelude.{ℕ, List, None, true}
use Rattle.osb_replies.specs.Text.{reply_text}
use Rattle.osb_asks.specs.declared.ask_fault.AskFault.TheVariants.{NoDoor}
use Rattle.osb_broker.specs.Faults.{fault_answer}

-- that to a request whose target leads to no door, which has no identity and closes its connection
abbrev pub ready_answer : List ℕ
ready_answer = let answer = fault_answer NoDoor in
    reply_text (record { status = answer.status; body = answer.body; echo = None; close = true })
