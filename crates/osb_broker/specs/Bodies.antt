-- The body of each reply is a JSON object (RFC 8259, section 4).
use Rattle.std.specs.Prelude.{Bool}
use Rattle.osb_frames.specs.declared.step.StopKind.{StopKind}
use Rattle.osb_frames.specs.Cuts.{Message}
use Rattle.osb_replies.specs.Text.{ReplyParts}
use Rattle.osb_catalog.specs.Rules.{Rules}
use Rattle.osb_catalog.specs.Sound.{AreSound}
use Rattle.osb_orders.specs.Lives.{Lives}
use Rattle.osb_orders.specs.IsLife.{IsLives}
use Rattle.osb_laws.specs.Bodies.{IsObjectBody}
use Rattle.osb_broker.specs.Machine.{Answered, fault_reply}
use Rattle.osb_broker.specs.Steps.{machine}

-- to each request, marked or not, from well-formed lives, by sound settings whose catalog is one
abbrev pub RepliesAreObjects : Type 0
RepliesAreObjects = (rules : Rules) (lives after : Lives) (q : Message) (last mark : Bool)
    (reply : ReplyParts) → AreSound rules → IsObjectBody rules.catalog → IsLives lives →
    Answered (machine rules) q last mark lives reply after → IsObjectBody reply.body

-- to each framing fault
abbrev pub FaultsAreObjects : Type 0
FaultsAreObjects = (fault : StopKind) → IsObjectBody (fault_reply fault).body
