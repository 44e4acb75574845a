-- What a call does to records that are lent to it, for each kind of call. For contracts inside the crate.
use Rattle.std.specs.Prelude.{◌≡◌, ◌≢◌, ℕ, ◌<◌, ◌≤◌, Bool, true, false, List, [], ◌∷◌, ◌++◌, map, vec_items, Option, None, Some, Result, Ok, Err, IfOk, OnOk, OnErr, IsTrue, vec_len, vec_capacity}
use Rattle.std.specs.Global.{Vec}
use Rattle.sqlite.specs.Tree.{Trees}
use Rattle.sqlite.specs.Held.{Held, state}
use Rattle.sqlite.specs.State.{State, HasCleanDisk, Survives}
use Rattle.sqlite_trees.specs.declared.store.Store.{Ghosts}
use Rattle.osb_frames.specs.declared.limits.Limits.{Limits}
use Rattle.osb_frames.specs.Cuts.{Message, closes}
use Rattle.osb_replies.specs.declared.reply.Reply.{Reply}
use Rattle.osb_replies.specs.Parts.{parts, refused}
use Rattle.osb_replies.specs.declared.write.WriteFault.{WriteFault}
use Rattle.osb_replies.specs.Text.{ReplyParts}
use Rattle.osb_catalog.specs.Rules as catalog
use Rattle.osb_asks.specs.declared.ask.Ask.{Ask}
use Rattle.osb_asks.specs.declared.ask_fault.AskFault.{AskFault}
use Rattle.osb_asks.specs.Asks.{ask_of, is_early}
use Rattle.osb_orders.specs.Lives.{Lives}
use Rattle.osb_orders.specs.IsLife.{IsLives}
use Rattle.osb_asks.specs.Subjects.{instance_id_of}
use Rattle.osb_machine.specs.Machine.{answer_to}
use Rattle.osb_records.specs.declared.change.LifeChange.{LifeChange}
use Rattle.osb_records.specs.Commit.{Commits}
use Rattle.osb_statements.specs.Steps.{LeavesOnly, stored}
use Rattle.osb_laws.specs.Failures.{is_500}
use Rattle.osb_broker.specs.declared.setup.Setup.{Setup}
use Rattle.osb_broker.specs.declared.prepared.Prepared.{Prepared}
use Rattle.osb_broker.specs.BrokerState.{IsShut, LivesGo, Works}
use Rattle.osb_broker.specs.declared.fault.ServeFault.{ServeFault}
use Rattle.osb_broker.specs.declared.fault.ServeFault.TheVariants.{Write}
use Rattle.osb_broker.specs.Answering.{Answers, AnswersOrLost}
use Rattle.osb_broker.specs.Crashes.{LeavesLives, RunOrLost}
use Rattle.osb_broker.specs.Machine.{Answered, Handled, Machine, MayReply, reply_of}
use Rattle.osb_broker.specs.Served.{RunServed, Served}
use Rattle.osb_broker.specs.Prepared.{after_pending, PendingIsDurable, Prepares}
use Rattle.osb_broker.specs.Steps.{lives_after, machine, needs_lives, step_for}

-- the settings that are decided by
abbrev pub given_rules : Setup → catalog.Rules
given_rules setup = catalog.rules_of setup.settings.now

-- how many requests of a connection are taken
abbrev pub given_most : Setup → ℕ
given_most setup = setup.per_connection.number

-- What holds of the store after the call held before it, and a store that was shut commits nothing.
pub record Worked (old new : State) : Type 0 where
  pub works : Works new → Works old
  pub clean : HasCleanDisk new → HasCleanDisk old
  pub crash : Survives old new (λ _. IsTrue old.is_open)

-- The call leaves the lives: where the store works after it, it worked before and has the same ones; and a crash leaves
-- what it left before.
pub record LivesStay (old new : State) : Type 0 where
  pub works : Works new → Works old
  pub same : Works new → stored new ≡ stored old
  pub crash : Survives old new (λ _. ⊥)

-- what was asked is answered alike from both lives
abbrev pub AreAnsweredAlike : catalog.Rules → Result Ask AskFault → Lives → Lives → Type 0
AreAnsweredAlike rules (Ok ask) lives others =
    answer_to rules others ask ≡ answer_to rules lives ask
AreAnsweredAlike rules (Err fault) lives others = Unit {0}

-- the change, if there is one, is of the instance that the ask names
abbrev pub IsOfInstance : Result Ask AskFault → Option LifeChange → Type 0
IsOfInstance asked None = Unit {0}
IsOfInstance asked (Some one) =
    (ask : Ask) × (asked ≡ Ok ask) × (instance_id_of ask ≡ Some one.instance)

-- The answer to what was asked is ready, up to its change. What is early takes no memory, and what needs no lives leaves
-- only the records.
pub record GivesPrepared {S E : Type 0} (g : Ghosts S) (rules : catalog.Rules)
    (asked : Result Ask AskFault) (old new : Held S) (result : Result Prepared E) : Type 0 where
  pub ok : Works (state g old) → HasCleanDisk (state g new) →
      IfOk result (λ prepared. Prepares (stored (state g old)) prepared
      (step_for rules (stored (state g old)) asked))
  pub quiet : IfOk result (λ prepared. is_early asked ≡ true → prepared.pending ≡ None)
  pub late : OnErr result (is_early asked ≡ false)
  pub was_open : HasCleanDisk (state g new) → needs_lives asked ≡ true →
      OnOk result (IsTrue (state g old).is_open)
  pub plain : needs_lives asked ≡ false →
      IfOk result (λ prepared. (lives : Lives) →
      Prepares lives prepared (step_for rules lives asked))
  pub silent : needs_lives asked ≡ false → IfOk result (λ prepared. prepared.pending ≡ None)
  pub alike : Works (state g old) → HasCleanDisk (state g new) →
      IfOk result (λ prepared. (lives : Lives) → IsLives lives →
      AreAnsweredAlike rules asked (stored (state g old)) lives →
      Prepares lives prepared (step_for rules lives asked))
  pub names : IfOk result (λ prepared. IsOfInstance asked prepared.pending)
  pub untouched : needs_lives asked ≡ false → new ≡ old
  pub stays : LivesStay (state g old) (state g new)

-- A pending change was made, if there is one: at `Ok` the lives are those after it, at an error they stay, and a crash
-- leaves what it left before or the lives after it.
pub record AppliesPending {S E : Type 0} (g : Ghosts S) (pending : Option LifeChange)
    (old new : Held S) (result : Result (Unit {0}) E) : Type 0 where
  pub ok : HasCleanDisk (state g new) →
      OnOk result (stored (state g new) ≡ after_pending pending (stored (state g old)))
  pub err : Works (state g new) → OnErr result (stored (state g new) ≡ stored (state g old))
  pub untouched : pending ≡ None → new ≡ old
  pub works : Works (state g new) → Works (state g old)
  pub crash : Survives (state g old) (state g new)
      (Commits (state g old) (after_pending pending (stored (state g old))))
  pub lasts : HasCleanDisk (state g new) →
      OnOk result ((db : Trees) → (state g new).may_leave db →
      PendingIsDurable (state g old) (stored (state g old)) pending db)

-- A request was replied to by the machine's step, once its change was made; at an error the lives stay.
pub record GivesReply {S E : Type 0} (g : Ghosts S) (rules : catalog.Rules) (q : Message)
    (last : Bool) (old new : Held S) (result : Result Reply E) : Type 0 where
  pub ok : Works (state g new) →
      IfOk result (λ reply. Answered (machine rules) q last false (stored (state g old))
      (parts reply) (stored (state g new)))
  pub err : Works (state g new) → OnErr result (stored (state g new) ≡ stored (state g old))
  pub closes : IfOk result (λ reply. closes q ≡ true → (parts reply).close ≡ true)
  pub was_open : HasCleanDisk (state g new) → needs_lives (ask_of rules q) ≡ true →
      OnOk result (IsTrue (state g old).is_open)
  pub told : Works (state g old) → HasCleanDisk (state g new) →
      IfOk result (λ reply. parts reply
      ≡ reply_of q last ((machine rules).step (stored (state g old)) q).0)
  pub plain : needs_lives (ask_of rules q) ≡ false →
      IfOk result (λ reply. (lives : Lives) →
      Answered (machine rules) q last false lives (parts reply) lives)
  pub untouched : needs_lives (ask_of rules q) ≡ false → new ≡ old
  pub works : Works (state g new) → Works (state g old)
  pub crash : Survives (state g old) (state g new)
      (Commits (state g old) (lives_after rules (stored (state g old)) q))
  pub durable : Works (state g old) → HasCleanDisk (state g new) →
      OnOk result (LeavesOnly (state g new) (lives_after rules (stored (state g old)) q))

-- A request was handled by a machine of these rules: it took the machine's step, or met a refusal and left the lives.
pub record Handles {S : Type 0} (g : Ghosts S) (machine : Machine Lives) (rules : catalog.Rules)
    (q : Message) (last : Bool) (old new : Held S) (reply : ReplyParts) : Type 0 where
  pub handled : Works (state g new) →
      Handled machine q last (stored (state g old)) reply (stored (state g new))
  pub told : Works (state g old) → HasCleanDisk (state g new) →
      MayReply machine q last (stored (state g old)) reply
  pub stays : Works (state g new) → is_500 reply.status ≡ true →
      stored (state g new) ≡ stored (state g old)
  pub plain : needs_lives (ask_of rules q) ≡ false → (lives : Lives) →
      Handled machine q last lives reply lives
  pub untouched : needs_lives (ask_of rules q) ≡ false → new ≡ old
  pub shut : HasCleanDisk (state g new) → IsShut (state g old) →
      needs_lives (ask_of rules q) ≡ true → reply ≡ refused
  pub works : Works (state g new) → Works (state g old)
  pub crash : Survives (state g old) (state g new)
      (Commits (state g old) (lives_after rules (stored (state g old)) q))
  pub durable : Works (state g old) → HasCleanDisk (state g new) → reply ≢ refused →
      LeavesOnly (state g new) (lives_after rules (stored (state g old)) q)

-- nothing is in the output, and there is room for a fixed reply
pub record IsBlank (output : Vec ℕ) : Type 0 where
  pub empty : output.items ≡ []
  pub unused : vec_len output ≡ 0
  pub room : 512 ≤ vec_capacity output

-- each of these outputs is one of its connection, from whatever lives, which stay
abbrev pub EachStays : Machine Lives → Limits → ℕ → List (List ℕ) → List (List ℕ) → Type 0
EachStays machine limits k [] [] = Unit {0}
EachStays machine limits k (bytes ∷ connections) (output ∷ outputs) =
    ((lives : Lives) → Served machine limits k lives bytes [] output lives)
    × EachStays machine limits k connections outputs
EachStays machine limits k _ _ = ⊥

-- Connections were served, one after the other, with these outputs. Where the store was shut, each left the lives.
pub record ServesEach {S : Type 0} (g : Ghosts S) (machine : Machine Lives) (limits : Limits)
    (k : ℕ) (connections outputs : List (List ℕ)) (old new : Held S) : Type 0 where
  pub served : (before after : Lives) → LivesGo (state g old) (state g new) before after →
      RunServed machine limits k before connections outputs after
  pub stays : HasCleanDisk (state g new) → IsShut (state g old) →
      EachStays machine limits k connections outputs
  pub worked : Worked (state g old) (state g new)
  pub leaves : Works (state g old) → HasCleanDisk (state g new) →
      LeavesLives (state g new) (λ lives. RunOrLost machine limits k (stored (state g old))
      connections outputs lives)

-- the same, with outputs that follow those that were there
pub record ServesMore {S : Type 0} (g : Ghosts S) (machine : Machine Lives) (limits : Limits)
    (k : ℕ) (connections : List (List ℕ)) (was is : List (Vec ℕ)) (old new : Held S) : Type 0 where
  pub more : List (Vec ℕ)
  pub follow : is ≡ was ++ more
  pub serves : ServesEach g machine limits k connections (map vec_items more) old new

-- how a connection ended, by how the reply to its last request was written
abbrev pub EndsBy : Result (Unit {0}) ServeFault → Result Bool WriteFault → Type 0
EndsBy (Ok x) (Ok close) = close ≡ true
EndsBy (Err Write) (Err fault) = Unit {0}
EndsBy _ _ = ⊥

-- A request was handled, and its reply was written or begun.
pub record IsRepliedTo {S : Type 0} (g : Ghosts S) (rules : catalog.Rules) (q : Message)
    (last : Bool) (old new : Held S) (base : List ℕ) (before : ℕ) (now : List ℕ) (after : ℕ)
    (written : Result Bool WriteFault) : Type 0 where
  pub answers : (s t : Lives) → LivesGo (state g old) (state g new) s t →
      Answers (machine rules) q last s t base before now after written
  pub leaves : Works (state g old) → HasCleanDisk (state g new) →
      LeavesLives (state g new) (λ lives. AnswersOrLost (machine rules) q last
      (stored (state g old)) lives base before now after written)
  pub ok : OnOk written (after ≡ before)
  pub err : OnErr written (before < after)
