-- What a crash leaves of a connection.
use Rattle.std.specs.Prelude.{◌≡◌, ◌⊎◌, ℕ, ◌<◌, Bool, true, List, [], ◌∷◌, ◌++◌, length, map, take, Result, Ok, OnOk}
use Rattle.std.specs.List.{concat}
use Rattle.sqlite.specs.Tree.{Trees}
use Rattle.sqlite.specs.State.{State}
use Rattle.osb_frames.specs.declared.limits.Limits.{Limits}
use Rattle.osb_frames.specs.Calls.{Call, all_bytes}
use Rattle.osb_frames.specs.Cuts.{Message, whole, IsFront}
use Rattle.osb_replies.specs.Parts.{refused}
use Rattle.osb_replies.specs.Text.{reply_text}
use Rattle.osb_orders.specs.Lives.{Lives}
use Rattle.osb_orders.specs.IsLife.{IsLives}
use Rattle.osb_statements.specs.Steps.{HoldsLives}
use Rattle.osb_broker.specs.declared.fault.ServeFault.{ServeFault}
use Rattle.osb_broker.specs.Machine.{Machine}
use Rattle.osb_broker.specs.Served.{Served}
use Rattle.osb_broker.specs.Serving.{EndsAs, Past, replies_unmarked}

-- P holds of some lives, and whatever a crash leaves now holds well-formed lives of which P holds
pub record LeavesLives (now : State) (P : Lives → Type 0) : Type 0 where
  pub some : (lives : Lives) × P lives
  pub left : (db : Trees) → now.may_leave db →
      (lives : Lives) × IsLives lives × HoldsLives lives db × P lives

-- A request was carried out and its answer was lost: its client got the fixed 500, or the first bytes of it where a write
-- failed. The requests before it were answered, and all their texts went out. They lead from the state s to the state
-- before, and this one leads from there to the state after.
pub record LostAnswer {S : Type 0} (result : Result (Unit {0}) ServeFault) (machine : Machine S)
    (limits : Limits) (k : ℕ) (s : S) (got old new : List ℕ) (before after : S) : Type 0 where
  pub requests : List Message
  pub held : List ℕ
  pub past : Past limits requests got held
  pub fewer : length requests < k
  pub q : Message
  pub n : ℕ
  pub front : IsFront limits held (whole q n)
  pub takes_memory : machine.takes_memory q ≡ true
  pub count : ℕ
  pub whole : OnOk result (count ≡ length (reply_text refused))
  pub written : new ≡ old ++ (concat (map reply_text (replies_unmarked machine k s requests).0)
      ++ take count (reply_text refused))
  pub answered : before ≡ (replies_unmarked machine k s requests).1
  pub leaves : after ≡ (machine.step before q).1

-- Serving ended so, and left the state t: the one that the texts show, or the one after a last request whose answer was
-- lost.
pub record EndsAsOrLost {S : Type 0} (result : Result (Unit {0}) ServeFault) (machine : Machine S)
    (limits : Limits) (k : ℕ) (s : S) (calls : List Call) (met_fault : Bool) (old new : List ℕ)
    (t : S) : Type 0 where
  pub shown : S
  pub ends : EndsAs result machine limits k s calls met_fault old new shown
  pub is : (t ≡ shown) ⊎ LostAnswer result machine limits k s (all_bytes calls) old new shown t

-- The texts of the connection were written, and the state t is the one that they show, or the one after a last request
-- whose answer was lost.
pub record ServedOrLost {S : Type 0} (machine : Machine S) (limits : Limits) (k : ℕ) (s : S)
    (bytes old new : List ℕ) (t : S) : Type 0 where
  pub shown : S
  pub served : Served machine limits k s bytes old new shown
  pub is : (t ≡ shown) ⊎ LostAnswer (Ok tt) machine limits k s bytes old new shown t

-- connections were served so, one after another, each from the state that the one before left
abbrev pub RunOrLost : {S : Type 0} → Machine S → Limits → ℕ → S → List (List ℕ) → List (List ℕ) →
    S → Type 0
RunOrLost machine limits k s [] [] t = t ≡ s
RunOrLost {S} machine limits k s (bytes ∷ connections) (output ∷ outputs) t =
    (u : S) × ServedOrLost machine limits k s bytes [] output u
    × RunOrLost machine limits k u connections outputs t
RunOrLost machine limits k s _ _ t = ⊥
