-- What a crash leaves of a store with which one thing after another is done.
use Rattle.std.proofs.Common.{◌≡◌, ◌∙◌, inl, inr, Bool, true, false, sym, refl}
use Rattle.std.proofs.lemmas.Bool.{true≢false}
use Rattle.sqlite.specs.State.{State, HasCleanDisk}
use Rattle.osb_orders.specs.Lives.{Lives}
use Rattle.osb_orders.specs.IsLife.{IsLives}
use Rattle.osb_records.specs.CrashLeaves.{KeepsLives}
use Rattle.osb_statements.specs.Steps.{stored}
use Rattle.osb_broker.specs.BrokerState.{IsShut, Works}
use Rattle.osb_broker.specs.Crashes.{LeavesLives}
use Rattle.osb_broker.specs.Inside.{Worked}

-- a store with which nothing was done
pub leaves_stored : {now : State} {P : Lives → Type 0} → IsLives (stored now) → KeepsLives now (stored now) → P (stored now) → LeavesLives now P
leaves_stored {now} whole keeps holds = record {
  some = (stored now, holds);
  left = λ db may. (stored now, whole, keeps db may, holds);
}

pub leaves_weaker : {now : State} {P Q : Lives → Type 0} → ((lives : Lives) → P lives → Q lives) → LeavesLives now P → LeavesLives now Q
leaves_weaker weaker leaves = record {
  some = (leaves.some.0, weaker leaves.some.0 leaves.some.1);
  left = λ db may. let it = leaves.left db may in (it.0, it.1, it.2, weaker it.0 it.3);
}

-- So far P holds of the lives that the store has, if it works, and of those that a crash leaves. Then it goes one step
-- further, A, which leaves any lives where the store is shut.
pub leaves_next : {old mid new : State} {P Q : Lives → Type 0} (A : Lives → Lives → Type 0) → Worked old mid → Worked mid new
    → (Works old → HasCleanDisk mid → LeavesLives mid P) → (Works mid → P (stored mid))
    → (Works mid → HasCleanDisk new → LeavesLives new (A (stored mid))) → ((lives : Lives) → HasCleanDisk new → IsShut mid → A lives lives)
    → ((s t : Lives) → P s → A s t → Q t) → Works old → HasCleanDisk new → LeavesLives new Q
leaves_next {old} {mid} {new} {P} {Q} A first second so_far has leaves stays step works clean = by mid.is_open refl
  where
    was_clean : HasCleanDisk mid
    was_clean = second.clean clean

    by : (is_open : Bool) → mid.is_open ≡ is_open → LeavesLives new Q
    by true live =
        let worked : Works mid = record { clean = was_clean; live = live } in
        leaves_weaker (λ t. step (stored mid) t (has worked)) (leaves worked clean)
    by false shut =
        let before = so_far works was_clean in
        record {
          some = (before.some.0, step _ _ before.some.1 (stays _ clean shut));
          left = λ db may. elim (second.crash.crash clean db may) [
            | inl was ↦ let it = before.left db was in (it.0, it.1, it.2, step _ _ it.3 (stays _ clean shut))
            | inr live ↦ let both : true ≡ false = sym live ∙ shut in absurd (true≢false both)
          ];
        }
