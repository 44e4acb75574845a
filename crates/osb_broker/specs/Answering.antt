-- One request answered: handled, and its reply written or begun. For contracts inside the crate.
use Rattle.std.specs.Prelude.{◌≡◌, ◌⊎◌, ℕ, ◌<◌, ◌≤◌, Bool, true, List, ◌++◌, length, take, Result, Ok, Err, IfOk, OnOk}
use Rattle.osb_frames.specs.Cuts.{Message}
use Rattle.osb_replies.specs.declared.write.WriteFault.{WriteFault}
use Rattle.osb_replies.specs.Parts.{refused}
use Rattle.osb_replies.specs.Text.{ReplyParts, reply_text}
use Rattle.osb_broker.specs.Machine.{Machine, Answered}

-- the reply was written whole, and closes or doesn't; or its first bytes were
abbrev pub WritesReply : List ℕ → ℕ → List ℕ → ℕ → Result Bool WriteFault → ReplyParts → Type 0
WritesReply base before now after (Ok close) reply =
    (now ≡ base ++ reply_text reply) × (after ≡ before) × (close ≡ reply.close)
WritesReply base before now after (Err f) reply =
    (k : ℕ) × (k ≤ length (reply_text reply)) × (now ≡ base ++ take k (reply_text reply))
    × (before < after)

-- a request was answered by a reply that was written, or begun
abbrev pub Answers : {S : Type 0} → Machine S → Message → Bool → S → S → List ℕ → ℕ → List ℕ → ℕ →
    Result Bool WriteFault → Type 0
Answers machine q last s t base before now after result =
    (mark : Bool) × (reply : ReplyParts) × Answered machine q last mark s reply t
    × WritesReply base before now after result reply

-- a request was answered by a reply that was written whole, and closes or doesn't
abbrev pub AnswersWhole : {S : Type 0} → Machine S → Message → Bool → S → S → List ℕ → List ℕ →
    Bool → Type 0
AnswersWhole machine q last s t base now close =
    (mark : Bool) × (reply : ReplyParts) × Answered machine q last mark s reply t
    × (now ≡ base ++ reply_text reply) × (close ≡ reply.close)

-- A request was carried out, and t is the state after it; the reply that was written, or begun, is the fixed 500.
pub record LostReply {S : Type 0} (machine : Machine S) (q : Message) (s t : S) (base now : List ℕ)
    (result : Result Bool WriteFault) : Type 0 where
  pub takes_memory : machine.takes_memory q ≡ true
  pub count : ℕ
  pub whole : OnOk result (count ≡ length (reply_text refused))
  pub written : now ≡ base ++ take count (reply_text refused)
  pub leaves : t ≡ (machine.step s q).1
  pub closes : IfOk result (λ close. close ≡ true)

-- a request was answered and left t, or it was answered by the fixed 500 and left t all the same
pub record AnswersOrLost {S : Type 0} (machine : Machine S) (q : Message) (last : Bool) (s t : S)
    (base : List ℕ) (before : ℕ) (now : List ℕ) (after : ℕ)
    (result : Result Bool WriteFault) : Type 0 where
  pub is : Answers machine q last s t base before now after result
      ⊎ (Answers machine q last s s base before now after result
      × LostReply machine q s t base now result)

-- the same of a reply that was written whole, and closes or doesn't
abbrev pub AnswersWholeOrLost : {S : Type 0} → Machine S → Message → Bool → S → S → List ℕ →
    List ℕ → Bool → Type 0
AnswersWholeOrLost machine q last s t base now close =
    AnswersOrLost machine q last s t base 0 now 0 (Ok close)
