-- The last exchange of a client: what its bytes are answered, and which lives that leaves.
use Rattle.std.specs.Prelude.{◌≡◌, ◌⊎◌, ◌≤◌, ◌+◌, ℕ, Bool, true, false, List, [], length, take, Option, None, Some, Result, Ok, Err, OnOk}
use Rattle.std.specs.Option.{option_map_or}
use Rattle.osb_frames.specs.declared.limits.Limits.{Limits}
use Rattle.osb_frames.specs.declared.step.StopKind.{StopKind}
use Rattle.osb_frames.specs.Calls.{all_bytes}
use Rattle.osb_frames.specs.Cuts.{Message, nothing, fault, whole, IsFront}
use Rattle.osb_replies.specs.Parts.{refused}
use Rattle.osb_replies.specs.Text.{ReplyParts, reply_text}
use Rattle.osb_catalog.specs.Rules.{Rules}
use Rattle.osb_orders.specs.Lives.{Lives}
use Rattle.osb_broker.specs.declared.fault.ServeFault.{ServeFault}
use Rattle.osb_broker.specs.declared.fault.ServeFault.TheVariants.{Read, Write}
use Rattle.osb_broker.specs.Conversations.{Conversation}
use Rattle.osb_broker.specs.Machine.{Handled, fault_reply}
use Rattle.osb_broker.specs.Serving.{EachWasNeeded, NothingWaits, OfConnection, ReadsOf, WritesOf}
use Rattle.osb_broker.specs.Steps.{machine}

-- No bytes have no reply. A framing fault at their front has its own one. A request has the
-- machine's, which closes, or the fixed 500 of a refusal.
abbrev pub IsLastReply : Rules → Limits → Lives → List ℕ → Bool → Option ReplyParts → Lives →
    Type 0
IsLastReply rules limits old bytes met_fault None new =
    IsFront limits bytes nothing × (met_fault ≡ false) × (new ≡ old)
IsLastReply rules limits old bytes true (Some reply) new =
    (f : StopKind) × IsFront limits bytes (fault f) × (reply ≡ fault_reply f) × (new ≡ old)
IsLastReply rules limits old bytes false (Some reply) new =
    (q : Message) × (n : ℕ) × IsFront limits bytes (whole q n)
    × Handled (machine rules) q true old reply new

-- The reply was sent, or its first bytes where a write failed. Nothing was sent if a read failed,
-- while neither a request nor a fault waited.
abbrev pub EndsLast : Result (Unit {0}) ServeFault → Rules → Limits → Lives → Conversation → Lives →
    Type 0
EndsLast (Ok x) rules limits old said new = OfConnection (λ bytes. (reply : Option ReplyParts)
    × IsLastReply rules limits old bytes said.met_fault reply new
    × (said.sent ≡ option_map_or reply_text reply [])) said.calls
EndsLast (Err Read) rules limits old said new =
    NothingWaits limits (all_bytes said.calls) × (said.sent ≡ []) × (new ≡ old)
EndsLast (Err Write) rules limits old said new = OfConnection (λ bytes. (met_fault : Bool)
    × (reply : ReplyParts) × IsLastReply rules limits old bytes met_fault (Some reply) new
    × (count : ℕ) × (count ≤ length (reply_text reply))
    × (said.sent ≡ take count (reply_text reply))) said.calls

-- The request was carried out, and its answer was lost: the fixed 500 was sent in its place, or the
-- first bytes of that.
pub record WasLost (ended : Result (Unit {0}) ServeFault) (rules : Rules) (limits : Limits)
    (old : Lives) (said : Conversation) (new : Lives) : Type 0 where
  pub q : Message
  pub n : ℕ
  pub front : IsFront limits (all_bytes said.calls) (whole q n)
  pub takes_memory : (machine rules).takes_memory q ≡ true
  pub count : ℕ
  pub whole : OnOk ended (count ≡ length (reply_text refused))
  pub sent : said.sent ≡ take count (reply_text refused)
  pub leaves : new ≡ ((machine rules).step old q).1

-- A client was served for the last time, from the lives old. The lives new are those that it was
-- shown, or those that a request leaves whose answer was lost.
pub record IsLast (rules : Rules) (limits : Limits) (old : Lives) (said : Conversation)
    (new : Lives) : Type 0 where
  pub ended : Result (Unit {0}) ServeFault
  pub reads : ReadsOf ended said.calls
  pub needed : EachWasNeeded limits 1 (limits.head + limits.body) said.calls
  pub wrote : WritesOf ended 0 said.failed
  pub shown : Lives
  pub ends : EndsLast ended rules limits old said shown
  pub is : (new ≡ shown) ⊎ ((shown ≡ old) × WasLost ended rules limits old said new)
