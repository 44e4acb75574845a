-- Several changes in one transaction.
use Rattle.std.proofs.Common.{◌≡◌, ℕ, zero, ◌+◌, ◌<◌, suc, add-one, get_or, inl, inr, List, [], ◌∷◌, ◌++◌, take, length, Ok, Err, Result, OnOk, IsTrue, true, false, refl, sym, ap, subst, ◌∙◌, arith}
use Rattle.std.specs.List.{AllByRecursion}
use Rattle.std.proofs.Math.Seq.{take-length, take-suc}
use Rattle.sqlite.specs.Tree.{Trees}
use Rattle.sqlite.specs.Effect.{Database, IsDatabase}
use Rattle.sqlite.specs.State.{State, HasCleanDisk, KeepsCommit, Shows, Survives}
use Rattle.sqlite.specs.Steps.{FailsToCommit}
use Rattle.sqlite.specs.declared.error.Error.{Error}
use Rattle.sqlite.proofs.StateLemmas.{survives_then}
use Rattle.sqlite.proofs.InsideLemmas.{keeps_then}
use Rattle.osb_orders.specs.Lives.{Lives}
use Rattle.osb_orders.specs.Changed.{lives_changed}
use Rattle.osb_orders.specs.IsLife.{IsLives}
use Rattle.osb_joined.specs.Contexts.{contexts_of}
use Rattle.osb_contexts.specs.Contexts.{HoldsContexts}
use Rattle.osb_contexts.proofs.StepLemmas.{clean_before, within_then}
use Rattle.osb_bare.proofs.LivesLemmas.{is_lives-bare}
use Rattle.osb_statements.specs.Stored.{lives_stored}
use Rattle.osb_statements.specs.Steps.{HoldsLives, IsReady, stored}
use Rattle.osb_statements.specs.Queries.{HasLives}
use Rattle.osb_statements.specs.LivesWritten.{WritesLives}
use Rattle.osb_statements.proofs.StepLemmas.{IsKept, ready_of, tables_along, lives_along, standing_along, contexts_along}
use Rattle.osb_statements.proofs.ContextLemmas.{told_bare, ready_lives}
use Rattle.osb_records.specs.declared.change.LifeChange.{LifeChange}
use Rattle.osb_records.specs.Changes.{all_changed, AllCanBeMade, CanBeMade, ChangesSomething}
use Rattle.osb_records.specs.Commit.{Commits}
use Rattle.osb_records.specs.Transactions.{Goes, HasMade, IsInside}

-- ---- one change

pub lives_written : (old new : State) (lives : Lives) → WritesLives old new lives → IsLives lives → Goes old new lives
lives_written old new lives w whole =
    let own : IsLives (stored new) = subst IsLives (sym w.lives_are) whole in
    record {
      within = w.within;
      shows = record {
        records = record { tables = w.tables; lives = subst IsLives (sym (told_bare new.now.trees)) (is_lives-bare (stored new) own); standing = w.standing };
        lives = own;
        contexts = subst (λ (l : Lives). HoldsContexts (contexts_of l) new.now.trees) (sym w.lives_are) w.contexts;
      };
      lives_are = w.lives_are;
      sound = w.sound;
    }

pub written_goes : {X Y : Type 0} (r : Result X Y) (old new : State) (lives : Lives) → OnOk r (WritesLives old new lives) → IsLives lives → OnOk r (Goes old new lives)
written_goes (Ok x) old new lives w whole = lives_written old new lives w whole
written_goes (Err y) old new lives w whole = tt

-- ---- one after the other

pub taken_next : {X : Type 0} (xs : List X) (i : ℕ) (x : X) → i < length xs → x ≡ get_or xs i x → take (i + 1) xs ≡ take i xs ++ x ∷ []
taken_next xs i x low at = ap (λ n. take n xs) (add-one i) ∙ take-suc xs i x low ∙ ap (λ y. take i xs ++ y ∷ []) (sym at)

pub changed_more : (changes : List LifeChange) (one : LifeChange) (lives : Lives) → all_changed (changes ++ one ∷ []) lives ≡ lives_changed one.change one.instance (all_changed changes lives)
changed_more [] one lives = refl
changed_more (first ∷ changes) one lives = changed_more changes one (lives_changed first.change first.instance lives)

-- the lives after one change more
pub changed_next : (changes : List LifeChange) (i : ℕ) (one : LifeChange) (lives : Lives) → i < length changes → one ≡ get_or changes i one → all_changed (take (i + 1) changes) lives ≡ lives_changed one.change one.instance (all_changed (take i changes) lives)
changed_next changes i one lives low at = ap (λ l. all_changed l lives) (taken_next changes i one low at) ∙ changed_more (take i changes) one lives

-- one of the changes can be made once those before it are
pub can_be_made : (changes : List LifeChange) (i : ℕ) (one : LifeChange) (lives : Lives) → AllCanBeMade changes lives → i < length changes → one ≡ get_or changes i one → CanBeMade one (all_changed (take i changes) lives)
can_be_made [] i one lives all low at = absurd (omega (arith, low))
can_be_made (first ∷ changes) zero one lives all low at = subst (λ l. CanBeMade l lives) (sym at) all.0
can_be_made (first ∷ changes) (suc i) one lives all low at = can_be_made changes i one (lives_changed first.change first.instance lives) all.1 (omega (arith, low)) at

-- an item of a list of which all are such
pub all_at : {X : Type 0} (P : X → Type 0) (xs : List X) (i : ℕ) (x : X) → AllByRecursion P xs → i < length xs → x ≡ get_or xs i x → P x
all_at P [] i x all low is = absurd (omega (arith, low))
all_at P (y ∷ xs) zero x all low is = subst P (sym is) all.0
all_at P (y ∷ xs) (suc i) x all low is = all_at P xs i x all.1 (omega (arith, low)) is

survives_none : (s : State) → Survives s s (λ _. ⊥)
survives_none s = record { clean = omega arith; shield = λ shielded. shielded; counts = omega arith; limit = refl; closes = λ _ live. inl live; crash = λ _ db left. inl left }

survives_on : (old mid new : State) → Survives old mid (λ _. ⊥) → Survives mid new (λ _. ⊥) → Survives old new (λ _. ⊥)
survives_on old mid new one two = survives_then old mid new (λ _. ⊥) (λ _. ⊥) (λ _. ⊥) (λ _ db none. none) (λ _ db none. none) one two

pub none_made : (s : State) (changes : List LifeChange) → IsInside s → HasMade s s changes 0
none_made s changes inside = record {
  inside = inside;
  survives = survives_none s;
  kept = λ clean. record { was_open = λ live. live; committed = λ _. refl };
  found_open = λ clean some. absurd (omega (arith, some));
  goes = λ clean live. record {
    within = record { was_inside = inside.runs clean; inside = inside.runs clean; was_open = live; is_open = live; committed = refl };
    shows = inside.shows clean live;
    lives_are = refl;
    sound = inside.sound clean live;
  };
}

module _ (first now next : State) (changes : List LifeChange) (at : ℕ) (one : LifeChange) (so_far : HasMade first now changes at) (low : at < length changes) (is : one ≡ get_or changes at one)
    (whole : HasCleanDisk first → IsTrue first.is_open → AllCanBeMade changes (stored first)) where
  -- what the next one needs
  pub next_can_be_made : HasCleanDisk now → IsTrue now.is_open → CanBeMade one (stored now)
  next_can_be_made clean live =
      let found = (so_far.kept clean).was_open live in
      subst (CanBeMade one) (sym (so_far.goes clean found).lives_are)
      (can_be_made changes at one (stored first) (whole (clean_before first now _ so_far.survives clean) found) low is)

  clean_now : Survives now next (λ _. ⊥) → HasCleanDisk next → HasCleanDisk now
  clean_now survives clean = clean_before now next _ survives clean

  -- and it was made
  pub next_made : Survives now next (λ _. ⊥) → (HasCleanDisk next → IsTrue now.in_transaction → KeepsCommit now next) → (HasCleanDisk next → Goes now next (lives_changed one.change one.instance (stored now))) → HasMade first next changes (at + 1)
  next_made survives kept goes = record {
    inside = record { runs = λ clean. (goes clean).within.inside; shows = λ clean live. (goes clean).shows; sound = λ clean live. (goes clean).sound };
    survives = survives_on first now next so_far.survives survives;
    kept = λ clean. keeps_then first now next (so_far.kept (clean_now survives clean)) (kept clean (so_far.inside.runs (clean_now survives clean)));
    found_open = λ clean some. (so_far.kept (clean_now survives clean)).was_open (goes clean).within.was_open;
    goes = λ clean live.
        let before = so_far.goes (clean_now survives clean) live in
        record {
          within = within_then first now next before.within (goes clean).within;
          shows = (goes clean).shows;
          lives_are = (goes clean).lives_are ∙ ap (λ l. lives_changed one.change one.instance l) before.lives_are ∙ sym (changed_next changes at one (stored first) low is);
          sound = (goes clean).sound;
        };
  }

-- ---- the whole

-- what a transaction begins with
pub inside_begun : (old begun : State) → begun.now ≡ old.now → IsTrue begun.in_transaction → (HasCleanDisk begun → HasCleanDisk old) → (IsTrue begun.is_open → IsTrue old.is_open) → IsReady old → (IsTrue old.is_open → IsDatabase old.now) → IsInside begun
inside_begun old begun same runs clean_old live_old ready sound = record {
  runs = λ clean. runs;
  shows = λ clean live. subst HasLives (sym same) (ready_lives old ready (clean_old clean) (live_old live));
  sound = λ clean live. subst IsDatabase (sym same) (sound (live_old live));
}

-- the lives that a transaction begins with are those before it
pub stored_begun : (old begun : State) → begun.now ≡ old.now → stored begun ≡ stored old
stored_begun old begun same = ap (λ (db : Database). lives_stored db.trees) same

-- the same changes, of the lives that a transaction begins with
pub can_begin : (old begun : State) (changes : List LifeChange) → begun.now ≡ old.now → AllCanBeMade changes (stored old) → AllCanBeMade changes (stored begun)
can_begin old begun changes same all = subst (AllCanBeMade changes) (sym (stored_begun old begun same)) all

-- all of them were made
pub all_goes : (old begun mid : State) (changes : List LifeChange) → begun.now ≡ old.now → HasMade begun mid changes (length changes) → HasCleanDisk mid → IsTrue begun.is_open → Goes begun mid (all_changed changes (stored old))
all_goes old begun mid changes same made clean live =
    subst (λ l. Goes begun mid (all_changed changes l)) (stored_begun old begun same)
    (subst (λ l. Goes begun mid (all_changed l (stored begun))) (take-length changes) (made.goes clean live))

-- what was made is kept where it is committed
pub goes_kept : (old mid new : State) (lives : Lives) → Goes old mid lives → new.now ≡ mid.now → new.now ≡ new.committed → IsKept new
goes_kept old mid new lives goes is committed = (
  tables_along mid.now new.now is goes.shows.records.tables,
  lives_along mid.now new.now is goes.shows.lives,
  standing_along mid.now new.now is goes.shows.records.standing,
  contexts_along mid.now new.now is goes.shows.contexts,
  committed,
)

-- what a commit may leave
goes_commits : (old begun mid : State) (lives : Lives) (db : Trees) → IsTrue old.is_open → Goes begun mid lives → db ≡ mid.now.trees → Commits old lives db
goes_commits old begun mid lives db live goes is = record {
  was_open = live;
  whole = subst IsLives goes.lives_are goes.shows.lives;
  holds = subst (HoldsLives lives) (sym is) (record {
    sound = subst (λ s. IsDatabase (record { schema = s; trees = mid.now.trees })) goes.shows.records.tables.schema goes.sound;
    holds = goes.shows.records.tables.holds;
    lives_are = goes.lives_are;
    standing = goes.shows.records.standing;
    contexts = subst (λ (l : Lives). HoldsContexts (contexts_of l) mid.now.trees) goes.lives_are goes.shows.contexts;
  });
}

-- a crash of a commit leaves what it left before, or all
pub crash_through : (old begun mid new : State) (changes : List LifeChange) → Survives old begun (λ _. ⊥) → Survives begun mid (λ _. ⊥) → Survives mid new (λ db. db ≡ mid.now.trees) → begun.now ≡ old.now → (IsTrue begun.is_open → IsTrue old.is_open) → 0 < length changes
    → (HasCleanDisk mid → HasMade begun mid changes (length changes)) → Survives old new (Commits old (all_changed changes (stored old)))
crash_through old begun mid new changes first inside commit same live_old some made =
    survives_then old mid new (λ _. ⊥) (λ db. db ≡ mid.now.trees) (Commits old (all_changed changes (stored old))) (λ _ db none. absurd none)
    (λ clean db is.
    let clean_mid = clean_before mid new _ commit clean in
    let live = (made clean_mid).found_open clean_mid some in
    goes_commits old begun mid (all_changed changes (stored old)) db (live_old live) (all_goes old begun mid changes same (made clean_mid) clean_mid live) is)
    (survives_on old begun mid first inside) commit
