-- The contexts that go in one after another, and the migration.
use Rattle.std.proofs.Common.{append-nil, ◌≡◌, inl, IsTrue, ℕ, zero, suc, ◌+◌, ◌<◌, add-one, List, [], ◌∷◌, ◌++◌, length, take, get_or, filter, false, Less, Greater, is_eq, refl, sym, ap, subst, ◌∙◌, arith}
use Rattle.std.specs.List.{AllByRecursion}
use Rattle.std.specs.Ordering.{ordering_reverse}
use Rattle.sqlite.specs.State.{State, HasCleanDisk, KeepsCommit, Survives}
use Rattle.sqlite.proofs.InsideLemmas.{keeps_then}
use Rattle.sqlite.proofs.StateLemmas.{survives_then}
use Rattle.sqlite_keyed.specs.Lists.{insert_sorted}
use Rattle.osb_joined.specs.declared.entry.ContextEntry.{ContextEntry}
use Rattle.osb_joined.specs.Contexts.{AreRising, context_cmp, is_context}
use Rattle.osb_contexts.specs.Reads.{IsRunning}
use Rattle.osb_contexts.specs.Steps.{contexts, HasContexts, ShowsContexts, ContextSteps, VersionSteps, Migrates}
use Rattle.osb_contexts.proofs.SortLemmas.{context_total}
use Rattle.osb_contexts.proofs.StepLemmas.{clean_before, within_then}
use Rattle.osb_contexts.proofs.TestLemmas.{key_tells}

-- ---- lists in the order of their keys

abbrev Below : ContextEntry → List ContextEntry → Type 0
Below entry = AllByRecursion (λ other. context_cmp other entry ≡ Less)

item_of : (P : ContextEntry → Type 0) (entries : List ContextEntry) (at : ℕ) (entry : ContextEntry) → at < length entries → entry ≡ get_or entries at entry → AllByRecursion P entries → P entry
item_of P [] at entry low is all = absurd (omega (arith, low))
item_of P (first ∷ entries) zero entry low is all = subst P (sym is) all.0
item_of P (first ∷ entries) (suc at) entry low is all = item_of P entries at entry (omega (arith, low)) is all.1

-- those before an entry are below it
below : (entries : List ContextEntry) (at : ℕ) (entry : ContextEntry) → AreRising entries → at < length entries → entry ≡ get_or entries at entry → Below entry (take at entries)
below [] at entry up low is = absurd (omega (arith, low))
below (first ∷ entries) zero entry up low is = tt
below (first ∷ entries) (suc at) entry up low is = (item_of _ entries at entry (omega (arith, low)) is up.0, below entries at entry up.1 (omega (arith, low)) is)

-- and so are those before them all
module _ (entries : List ContextEntry) (at : ℕ) (entry : ContextEntry) (low : at < length entries) (is : entry ≡ get_or entries at entry) where
  item_behind : (P : ContextEntry → Type 0) (first : List ContextEntry) → AllByRecursion P (first ++ entries) → P entry
  item_behind P [] all = item_of P entries at entry low is all
  item_behind P (other ∷ first) all = item_behind P first all.1

  below_behind : (first : List ContextEntry) → AreRising (first ++ entries) → Below entry (first ++ take at entries)
  below_behind [] up = below entries at entry up low is
  below_behind (other ∷ first) up = (item_behind (λ item. context_cmp other item ≡ Less) first up.0, below_behind first up.1)

take_next : (entries : List ContextEntry) (at : ℕ) (entry : ContextEntry) → at < length entries → entry ≡ get_or entries at entry → take at entries ++ entry ∷ [] ≡ take (suc at) entries
take_next [] at entry low is = absurd (omega (arith, low))
take_next (first ∷ entries) zero entry low is = ap (λ e. e ∷ []) is
take_next (first ∷ entries) (suc at) entry low is = ap (λ rest. first ∷ rest) (take_next entries at entry (omega (arith, low)) is)

above : (entry other : ContextEntry) → context_cmp other entry ≡ Less → context_cmp entry other ≡ Greater
above entry other less = context_total.antisymm entry other ∙ ap ordering_reverse less

-- what is above all goes to the end
last_in : (entry : ContextEntry) (entries : List ContextEntry) → Below entry entries → insert_sorted context_cmp entry entries ≡ entries ++ entry ∷ []
last_in entry [] up = refl
last_in entry (other ∷ entries) up = rw (above entry other up.0) (ap (λ rest. other ∷ rest) (last_in entry entries up.1))

-- and has another key
none_keyed : (entry : ContextEntry) (entries : List ContextEntry) → Below entry entries → filter (is_context entry.instance entry.number) entries ≡ []
none_keyed entry [] up = refl
none_keyed entry (other ∷ entries) up =
    let misses : is_context entry.instance entry.number other ≡ false = sym (key_tells entry.instance entry.number entry.context other) ∙ ap is_eq (above entry other up.0) in
    rw misses (none_keyed entry entries up.1)

-- ---- one after another

-- so far these entries went in behind those that were there, and nothing else was changed
pub record HasInserted (old now : State) (entries : List ContextEntry) (count : ℕ) : Type 0 where
  pub shows : ShowsContexts now
  pub survives : Survives old now (λ _. ⊥)
  pub inside : HasCleanDisk now → IsTrue old.in_transaction → KeepsCommit old now × IsTrue now.in_transaction
  pub was_open : HasCleanDisk now → IsTrue now.is_open → IsTrue old.is_open
  pub are : HasCleanDisk now → IsTrue now.is_open → contexts now ≡ contexts old ++ take count entries
  pub steps : HasCleanDisk now → IsRunning old → ContextSteps old now (contexts old ++ take count entries)

pub none_inserted : (s : State) (entries : List ContextEntry) → ShowsContexts s → HasInserted s s entries 0
none_inserted s entries shows = record {
  shows = shows;
  survives = record { clean = omega arith; shield = λ shielded. shielded; counts = omega arith; limit = refl; closes = λ _ live. inl live; crash = λ _ db left. inl left };
  inside = λ _ inside. (record { was_open = λ live. live; committed = λ _. refl }, inside);
  was_open = λ _ live. live;
  are = λ _ _. sym (append-nil (contexts s));
  steps = λ clean running. record {
    within = record { was_inside = running.inside; inside = running.inside; was_open = running.is_open; is_open = running.is_open; committed = refl };
    tables = shows clean running.is_open;
    contexts_are = sym (append-nil (contexts s));
    kept = (refl, (refl, (refl, (refl, tt))));
    sound = running.sound;
  };
}

-- a clean connection that is open has contexts that rise before these
abbrev pub RiseBefore : State → List ContextEntry → Type 0
RiseBefore s entries = HasCleanDisk s → IsTrue s.is_open → AreRising (contexts s ++ entries)

-- the next entry is above those that are there
next_below : (old now : State) (entries : List ContextEntry) (at : ℕ) (entry : ContextEntry) → HasInserted old now entries at → RiseBefore old entries → at < length entries → entry ≡ get_or entries at entry
    → HasCleanDisk now → IsTrue now.is_open → Below entry (contexts old ++ take at entries)
next_below old now entries at entry so_far up low is clean live = below_behind entries at entry low is (contexts old) (up (clean_before old now _ so_far.survives clean) (so_far.was_open clean live))

-- and has no row yet
pub next_free : (old now : State) (entries : List ContextEntry) (at : ℕ) (entry : ContextEntry) → HasInserted old now entries at → RiseBefore old entries → at < length entries → entry ≡ get_or entries at entry
    → HasCleanDisk now → IsTrue now.is_open → filter (is_context entry.instance entry.number) (contexts now) ≡ []
next_free old now entries at entry so_far up low is clean live =
    ap (filter (is_context entry.instance entry.number)) (so_far.are clean live) ∙ none_keyed entry (contexts old ++ take at entries) (next_below old now entries at entry so_far up low is clean live)

pub steps_then : (old mid new : State) (first next : List ContextEntry) → ContextSteps old mid first → ContextSteps mid new next → ContextSteps old new next
steps_then old mid new first next one it = record {
  within = within_then old mid new one.within it.within;
  tables = it.tables;
  contexts_are = it.contexts_are;
  kept = (it.kept.0 ∙ one.kept.0, (it.kept.1.0 ∙ one.kept.1.0, (it.kept.1.1.0 ∙ one.kept.1.1.0, (it.kept.1.1.1.0 ∙ one.kept.1.1.1.0, tt))));
  sound = it.sound;
}

module _ (old now next : State) (entries : List ContextEntry) (at : ℕ) (so_far : HasInserted old now entries at) (survives : Survives now next (λ _. ⊥)) (kept : HasCleanDisk next → IsTrue now.in_transaction → KeepsCommit now next) where
  pub survives_on : Survives old next (λ _. ⊥)
  survives_on = survives_then old now next (λ _. ⊥) (λ _. ⊥) (λ _. ⊥) (λ _ db none. none) (λ _ db none. none) so_far.survives survives

  pub keeps_on : HasCleanDisk next → IsTrue old.in_transaction → KeepsCommit old next
  keeps_on clean inside =
      let before = so_far.inside (clean_before now next _ survives clean) inside in
      keeps_then old now next before.0 (kept clean before.1)

  pub next_inserted : (entry : ContextEntry) → RiseBefore old entries → at < length entries → entry ≡ get_or entries at entry → (HasCleanDisk next → ContextSteps now next (insert_sorted context_cmp entry (contexts now))) → HasInserted old next entries (at + 1)
  next_inserted entry up low is steps =
      let grown : (it : ContextSteps now next (insert_sorted context_cmp entry (contexts now))) → HasCleanDisk now → insert_sorted context_cmp entry (contexts now) ≡ contexts old ++ take (at + 1) entries = λ it clean.
      ap (insert_sorted context_cmp entry) (so_far.are clean it.within.was_open) ∙ last_in entry (contexts old ++ take at entries) (next_below old now entries at entry so_far up low is clean it.within.was_open)
      ∙ sym (joined (contexts old) (take at entries) (entry ∷ [])) ∙ ap (λ more. contexts old ++ more) (take_next entries at entry low is ∙ ap (λ n. take n entries) (sym (add-one at))) in
      let more : HasCleanDisk next → ContextSteps now next (contexts old ++ take (at + 1) entries) = λ clean. let it = steps clean in subst (ContextSteps now next) (grown it (clean_before now next _ survives clean)) it in
      record {
        shows = λ clean live. (more clean).tables;
        survives = survives_on;
        inside = λ clean inside. (keeps_on clean inside, (more clean).within.inside);
        was_open = λ clean live. so_far.was_open (clean_before now next _ survives clean) (more clean).within.was_open;
        are = λ clean live. (more clean).contexts_are;
        steps = λ clean running. steps_then old now next _ _ (so_far.steps (clean_before now next _ survives clean) running) (more clean);
      }
    where
      joined : (xs ys zs : List ContextEntry) → xs ++ (ys ++ zs) ≡ (xs ++ ys) ++ zs
      joined [] ys zs = refl
      joined (x ∷ xs) ys zs = ap (λ rest. x ∷ rest) (joined xs ys zs)

-- all of them went in
pub all_inserted : (old now : State) (entries : List ContextEntry) (count : ℕ) → HasInserted old now entries count → count ≡ length entries → HasCleanDisk now → IsRunning old → ContextSteps old now (contexts old ++ entries)
all_inserted old now entries count so_far whole clean running = subst (ContextSteps old now) (ap (λ items. contexts old ++ items) (ap (λ n. take n entries) whole ∙ take_whole entries)) (so_far.steps clean running)
  where
    take_whole : (items : List ContextEntry) → take (length items) items ≡ items
    take_whole [] = refl
    take_whole (item ∷ items) = ap (λ rest. item ∷ rest) (take_whole items)

-- ---- the migration

-- another version leaves the contexts
pub still_there : (mid next : State) → HasContexts mid.now → VersionSteps mid next → HasContexts next.now
still_there mid next tables it = record { schema = it.reshapes.schema_is; holds = rw (it.reshapes.kept.0) tables.holds }

pub still_none : (mid next : State) → contexts mid ≡ [] → VersionSteps mid next → contexts next ≡ []
still_none mid next none it = rw (it.reshapes.kept.0) none

pub still_running : (mid next : State) → VersionSteps mid next → IsRunning next
still_running mid next it = record { inside = it.reshapes.within.inside; is_open = it.reshapes.within.is_open; sound = it.reshapes.sound }

pub migrated : (old mid new : State) (entries : List ContextEntry) → VersionSteps old mid → ContextSteps mid new entries → Migrates old new entries
migrated old mid new entries one it =
    let first = one.reshapes.kept in let next = it.kept in record {
      within = within_then old mid new one.reshapes.within it.within;
      tables = it.tables;
      version = rw (next.0) one.version;
      contexts_are = it.contexts_are;
      kept = (next.1.0 ∙ first.1.0, (next.1.1.0 ∙ first.1.1.0, (next.1.1.1.0 ∙ first.1.1.1.0, tt)));
      sound = it.sound;
    }
