-- What a crash leaves of a request, whose change is committed last.
use Rattle.std.proofs.Common.{◌≡◌, false, inl, inr, Result, Ok, Err, IfErr, IsTrue, sym, refl, ap, subst, ◌∙◌, arith}
use Rattle.sqlite.specs.Tree.{Trees}
use Rattle.sqlite.specs.Held.{Held, state}
use Rattle.sqlite.specs.State.{State, HasCleanDisk, Survives}
use Rattle.sqlite.proofs.StateLemmas.{survives_then}
use Rattle.sqlite.proofs.Callers.{memory_is_clean}
use Rattle.sqlite.specs.Steps.{over_memory}
use Rattle.sqlite_trees.specs.declared.store.Store.{Ghosts}
use Rattle.sqlite_trees.specs.declared.memory.MemStore.{MemStore}
use Rattle.osb_broker.specs.declared.broker.Broker.{Broker}
use Rattle.osb_catalog.specs.Rules.{Rules}
use Rattle.osb_asks.specs.declared.ask.Ask.{Ask}
use Rattle.osb_asks.specs.declared.ask_fault.AskFault.{AskFault}
use Rattle.osb_asks.specs.Asks.{is_early}
use Rattle.osb_orders.specs.Lives.{Lives}
use Rattle.osb_orders.specs.IsLife.{IsLives}
use Rattle.osb_records.specs.Commit.{Commits}
use Rattle.osb_records.specs.CrashLeaves.{KeepsLives}
use Rattle.osb_statements.specs.Steps.{HoldsLives, LeavesOnly, stored}
use Rattle.osb_broker.specs.declared.prepared.Prepared.{Prepared}
use Rattle.osb_broker.specs.Machine.{Answer}
use Rattle.osb_broker.specs.Prepared.{after_pending, PendingIsDurable, Prepares}
use Rattle.osb_broker.specs.Inside.{GivesPrepared, LivesStay}
use Rattle.osb_broker.specs.BrokerState.{Works, store_of}

pub survives_same : (s : State) (P : Trees → Type 0) → Survives s s P
survives_same s P = record { clean = omega arith; shield = λ x. x; counts = omega arith; limit = refl; closes = λ clean live. inl live; crash = λ clean db left. inl left }

-- where nothing was done with a store, for want of memory
pub lacks_memory : {S E : Type 0} (g : Ghosts S) (rules : Rules) (asked : Result Ask AskFault) (records : Held S) (e : E) → is_early asked ≡ false → GivesPrepared g rules asked records records (Err e)
lacks_memory g rules asked records e late = record {
  ok = λ works clean. tt;
  quiet = tt;
  late = late;
  was_open = λ clean needs. tt;
  plain = λ plain. tt;
  silent = λ plain. tt;
  alike = λ works clean. tt;
  names = tt;
  untouched = λ plain. refl;
  stays = record { works = λ works. works; same = λ works. refl; crash = survives_same (state g records) _ };
}

-- from the state before a request to that in which its answer is ready, and to that after its change
module _ (old mid new : State) (prepared : Prepared) (step : Answer × Lives) (stays : LivesStay old mid)
    (prepares : Works old → HasCleanDisk mid → Prepares (stored old) prepared step)
    (applies : Survives mid new (Commits mid (after_pending prepared.pending (stored mid)))) where
  leads : HasCleanDisk mid → IsTrue mid.is_open → after_pending prepared.pending (stored mid) ≡ step.1
  leads clean live =
      let both : Works mid = record { clean = clean; live = live } in
      ap (after_pending prepared.pending) (stays.same both) ∙ (prepares (stays.works both) clean).lives_are

  clean_mid : HasCleanDisk new → HasCleanDisk mid
  clean_mid clean = omega (arith, applies.clean)

  pub request_commits : Survives old new (Commits old step.1)
  request_commits = survives_then old mid new _ _ _ (λ _ db none. absurd none)
      (λ clean db commits.
      let is = leads (clean_mid clean) commits.was_open in
      let before = stays.works (record { clean = clean_mid clean; live = commits.was_open }) in
      record { was_open = before.live; whole = subst IsLives is commits.whole; holds = subst (λ l. HoldsLives l db) is commits.holds })
      stays.crash applies

  pub request_lasts : (Works old → KeepsLives old (stored old)) → ((db : Trees) → new.may_leave db → PendingIsDurable mid (stored mid) prepared.pending db) → Works old → HasCleanDisk new → LeavesOnly new step.1
  request_lasts kept lasts before clean db left = elim (lasts db left) [
    | inl stands ↦ stands.1 ∙ leads (clean_mid clean) stands.0
    | inr nothing ↦ elim (stays.crash.crash (clean_mid clean) db nothing.1) [
      | inl earlier ↦ (kept before db earlier).lives_are ∙ sym (nothing.0 (stored old)) ∙ (prepares before (clean_mid clean)).lives_are
      | inr none ↦ absurd none
    ]
  ]

pub memory_works : (broker : Broker MemStore) → Works (store_of over_memory broker)
memory_works broker = record { clean = memory_is_clean broker.records; live = refl }

pub if_err_weaker : {X Y : Type 0} (r : Result X Y) (P Q : Y → Type 0) → ((y : Y) → P y → Q y) → IfErr r P → IfErr r Q
if_err_weaker (Ok x) P Q f told = told
if_err_weaker (Err y) P Q f told = f y told
