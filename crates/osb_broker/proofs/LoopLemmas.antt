-- The steps of the loop, by what the calls in it say.
use Rattle.std.proofs.Common.{◌≡◌, ℕ, suc, ◌<◌, ◌==◌, Bool, true, List, [], ◌∷◌, drop, Result, Ok, Err, OnOk, OnErr, sym, refl, ◌∙◌}
use Rattle.std.specs.Result.{IsErr}
use Rattle.osb_frames.specs.declared.limits.Limits.{Limits}
use Rattle.osb_frames.specs.declared.step.StopKind.{StopKind}
use Rattle.osb_frames.specs.Cuts.{Message, closed, stopped, fault, whole, IsFront}
use Rattle.osb_replies.specs.declared.write.WriteFault.{WriteFault}
use Rattle.osb_replies.specs.Text.{ReplyParts, reply_text}
use Rattle.osb_replies.specs.Written.{WroteFirst}
use Rattle.osb_broker.specs.Machine.{Machine, Answered, fault_reply}
use Rattle.osb_broker.proofs.OneByOne.{OneReply, of_request, of_fault, WrittenSoFar}
use Rattle.osb_broker.specs.Served.{BrokenOff}
use Rattle.osb_broker.specs.Serving.{WritesText}
use Rattle.osb_broker.specs.Answering.{Answers}
use Rattle.osb_broker.proofs.RunLemmas.{ServedWith, served_text, text_of_last, text_of_fault, broken}

-- a reply that was begun answers
pub in_part : {S : Type 0} (machine : Machine S) (q : Message) (last : Bool) (s t : S) (base : List ℕ) (before : ℕ) (now : List ℕ) (after : ℕ) (result : Result Bool WriteFault) (mark : Bool) (reply : ReplyParts) (written : ℕ) → IsErr result → Answered machine q last mark s reply t → WroteFirst base now (reply_text reply) written → before < after → Answers machine q last s t base before now after result
in_part machine q last s t base before now after (Ok close) mark reply written err answered first low = absurd (cc)
in_part machine q last s t base before now after (Err f) mark reply written err answered first low =
    (mark, reply, answered, (first.count, first.inside, first.bytes, low))

-- a whole request at the front of the rest, of which one fewer may come after it
pub record AtRequest {S : Type 0} (machine : Machine S) (limits : Limits) (k : ℕ) (s : S) (bytes old : List ℕ) (left : ℕ) (now : List ℕ) (u : S) (rest : List ℕ) (q : Message) (n j : ℕ) : Type 0 where
  pub reached : WrittenSoFar machine limits k s bytes old left now u rest
  pub front : IsFront limits rest (whole q n)
  pub fewer : left ≡ suc j

pub one_reply : {S : Type 0} (machine : Machine S) (limits : Limits) (left : ℕ) (u : S) (rest : List ℕ) (q : Message) (n j : ℕ) (mark : Bool) (reply : ReplyParts) (t : S) (close : Bool) → IsFront limits rest (whole q n) → left ≡ suc j → Answered machine q (j == 0) mark u reply t → close ≡ reply.close → OneReply machine limits left u rest mark (reply_text reply) close j t (drop n rest)
one_reply machine limits left u rest q n j mark reply t close front fewer marked closes = record {
  q = q;
  n = n;
  front = front;
  fewer = fewer;
  reply = reply;
  answered = marked;
  says = refl;
  closed = sym closes;
  after = refl;
}

pub closing : {S : Type 0} (machine : Machine S) (limits : Limits) (k : ℕ) (s : S) (bytes old : List ℕ) (left : ℕ) (now : List ℕ) (u : S) (rest : List ℕ) (q : Message) (n j : ℕ) (t : S) (before : ℕ) (new : List ℕ) (after : ℕ) (close : Bool) → AtRequest machine limits k s bytes old left now u rest q n j → Answers machine q (j == 0) u t now before new after (Ok close) → close ≡ true → ServedWith machine limits k s bytes closed old new t
closing machine limits k s bytes old left now u rest q n j t before new after close at (mark, reply, marked, wrote) e =
    let one = one_reply machine limits left u rest q n j mark reply t true at.front at.fewer marked (sym e ∙ wrote.2) in
    served_text machine limits k s bytes old left now u rest (mark ∷ []) (reply_text reply) closed t new at.reached
    (text_of_last machine limits left u rest mark (reply_text reply) j t (drop n rest) one) wrote.0

pub breaking : {S : Type 0} (machine : Machine S) (limits : Limits) (k : ℕ) (s : S) (bytes old : List ℕ) (left : ℕ) (now : List ℕ) (u : S) (rest : List ℕ) (q : Message) (n j : ℕ) (t : S) (before : ℕ) (new : List ℕ) (after : ℕ) (f : WriteFault) → AtRequest machine limits k s bytes old left now u rest q n j → Answers machine q (j == 0) u t now before new after (Err f) → BrokenOff machine limits k s bytes old new t
breaking machine limits k s bytes old left now u rest q n j t before new after f at (mark, reply, marked, wrote) =
    let one = one_reply machine limits left u rest q n j mark reply t reply.close at.front at.fewer marked refl in
    broken machine limits k s bytes old left j now u rest (reply_text reply) t wrote.0 new at.reached at.fewer (of_request mark reply.close j (drop n rest) one) wrote.1 wrote.2

pub refusing : {S : Type 0} (machine : Machine S) (limits : Limits) (k : ℕ) (s : S) (bytes old : List ℕ) (left : ℕ) (now : List ℕ) (u : S) (rest : List ℕ) (f : StopKind) (j : ℕ) (before : ℕ) (new : List ℕ) (after : ℕ) (result : Result (Unit {0}) WriteFault) → WrittenSoFar machine limits k s bytes old left now u rest → IsFront limits rest (fault f) → left ≡ suc j → WritesText now before new after result (reply_text (fault_reply f)) → OnOk result (ServedWith machine limits k s bytes (stopped f) old new u) × OnErr result (BrokenOff machine limits k s bytes old new u)
refusing machine limits k s bytes old left now u rest f j before new after (Ok x) reached at fewer wrote =
    (served_text machine limits k s bytes old left now u rest [] (reply_text (fault_reply f)) (stopped f) u new reached (text_of_fault machine limits left j u rest f fewer at) wrote.0, tt)
refusing machine limits k s bytes old left now u rest f j before new after (Err e) reached at fewer wrote =
    (tt, broken machine limits k s bytes old left j now u rest (reply_text (fault_reply f)) u wrote.0 new reached fewer (of_fault f at refl refl) wrote.1 wrote.2)
