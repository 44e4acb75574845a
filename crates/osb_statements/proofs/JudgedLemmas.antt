-- Piece after piece is judged, and nothing is changed.
use Rattle.std.proofs.Common.{◌≡◌, inl, ℕ, List, [], true, false, true≢false, Bool, Less, refl, sym, ap, subst, ◌∙◌, IsTrue, arith}
use Rattle.std.specs.Prelude.{◌↔◌}
use Rattle.sqlite.specs.declared.types.Value.{Value}
use Rattle.sqlite.specs.declared.types.Value.TheVariants.{Text}
use Rattle.sqlite.specs.Effect.{Database}
use Rattle.sqlite.specs.State.{State, HasCleanDisk, IsUnchanged, Survives}
use Rattle.sqlite.proofs.Callers.{unchanged_then}
use Rattle.sqlite.proofs.StateLemmas.{unchanged, survives_then}
use Rattle.osb_audit.proofs.RunLemmas.{by_bytes}
use Rattle.osb_tables.specs.Tables.{second_schema}
use Rattle.osb_contexts.specs.Inside.{ShowsSchema}
use Rattle.osb_contexts.specs.Pieces.{piece, beyond}
use Rattle.osb_contexts.proofs.StepLemmas.{clean_before}
use Rattle.osb_statements.specs.Pieces.{MayBeCut}
use Rattle.osb_statements.specs.StoredLives.{StoreLives}
use Rattle.osb_statements.proofs.StoredPieceLemmas.{SoFar, none_so_far, next_so_far, stored_some}

-- a clean connection that is open has tables that may be cut
abbrev pub ShowsCut : State → Type 0
ShowsCut s = HasCleanDisk s → IsTrue s.is_open → MayBeCut s.now.trees

-- so far the pieces up to this id were judged, and nothing was changed
pub record HasJudged (old now : State) (after : List ℕ) : Type 0 where
  pub schema : ShowsSchema second_schema now
  pub survives : Survives old now (λ _. ⊥)
  pub was_open : HasCleanDisk now → IsTrue now.is_open → IsTrue old.is_open
  pub same : HasCleanDisk now → IsTrue old.is_open → IsUnchanged old now
  pub so_far : HasCleanDisk now → IsTrue old.is_open → SoFar old.now.trees after

pub none_judged : (s : State) (after : List ℕ) → after ≡ [] → ShowsSchema second_schema s → ShowsCut s → HasJudged s s after
none_judged s after none schema cut = record {
  schema = schema;
  survives = record { clean = omega arith; shield = λ shielded. shielded; counts = omega arith; limit = refl; closes = λ _ live. inl live; crash = λ _ db left. inl left };
  was_open = λ _ live. live;
  same = λ _ live. unchanged s live;
  so_far = λ clean live. subst (SoFar s.now.trees) (sym none) (none_so_far s.now.trees (cut clean live));
}

module _ (old now next : State) (after : List ℕ) (so_far : HasJudged old now after) (survives : Survives now next (λ _. ⊥)) (same : HasCleanDisk next → IsUnchanged now next) where
  -- after a query
  pub still_judged : HasJudged old next after
  still_judged = record {
    schema = λ clean live. let it = same clean in ap (λ (d : Database). d.schema) it.0.now_is ∙ so_far.schema (clean_before now next _ survives clean) it.0.was_open;
    survives = survives_then old now next (λ _. ⊥) (λ _. ⊥) (λ _. ⊥) (λ _ db none. none) (λ _ db none. none) so_far.survives survives;
    was_open = λ clean live. so_far.was_open (clean_before now next _ survives clean) (same clean).0.was_open;
    same = λ clean live. unchanged_then old now next (so_far.same (clean_before now next _ survives clean) live) (same clean);
    so_far = λ clean live. so_far.so_far (clean_before now next _ survives clean) live;
  }

-- a piece more was judged
pub one_judged : (old now next : State) (after to : List ℕ) (answer : Bool) → ShowsCut old → HasJudged old now after → Survives now next (λ _. ⊥) → (HasCleanDisk next → IsUnchanged now next)
    → (HasCleanDisk next → (by_bytes after to ≡ Less) × (MayBeCut now.now.trees → (answer ≡ true) ↔ StoreLives (piece after (Text to) now.now.trees))) → answer ≡ true → HasJudged old next to
one_judged old now next after to answer cut judged survives same says is =
    let still = still_judged old now next after judged survives same in record {
      schema = still.schema;
      survives = still.survives;
      was_open = still.was_open;
      same = still.same;
      so_far = λ clean live.
          let before = clean_before now next _ survives clean in
          let now_is = (judged.same before live).0.now_is in
          let may = cut (clean_before old now _ judged.survives before) live in
          let told = says clean in
          let one = (told.1 (subst (λ (d : Database). MayBeCut d.trees) (sym now_is) may)).0 is in
          next_so_far old.now.trees may after to told.0 (subst (λ (d : Database). StoreLives (piece after (Text to) d.trees)) now_is one) (judged.so_far before live);
    }

module _ (old now : State) (after : List ℕ) (cut : ShowsCut old) (judged : HasJudged old now after) (clean : HasCleanDisk now) (live : IsTrue old.is_open) where
  may_be_cut : MayBeCut now.now.trees
  may_be_cut = subst (λ (d : Database). MayBeCut d.trees) (sym (judged.same clean live).0.now_is) (cut (clean_before old now _ judged.survives clean) live)

  -- where lives are stored, those of a piece are
  pub piece_stored : (to : Value) → StoreLives old.now.trees → StoreLives (piece after to now.now.trees)
  piece_stored to stores = subst (λ (d : Database). StoreLives (piece after to d.trees)) (sym (judged.same clean live).0.now_is) (stored_some old.now.trees after to stores)

  -- a piece whose rows aren't those of lives
  pub none_stored : (to : Value) (answer : Bool) → (MayBeCut now.now.trees → (answer ≡ true) ↔ StoreLives (piece after to now.now.trees)) → answer ≡ false → (false ≡ true) ↔ StoreLives old.now.trees
  none_stored to answer says is = (λ never. absurd (true≢false (sym never)), λ stores. absurd (true≢false (sym ((says may_be_cut).1 (piece_stored to stores)) ∙ is)))

  -- the last piece says what all do
  pub all_judged : (answer : Bool) → (MayBeCut now.now.trees → (answer ≡ true) ↔ StoreLives (piece after beyond now.now.trees)) → (answer ≡ true) ↔ StoreLives old.now.trees
  all_judged answer says =
      let told = subst (λ (d : Database). (answer ≡ true) ↔ StoreLives (piece after beyond d.trees)) (judged.same clean live).0.now_is (says may_be_cut) in
      (λ is. judged.so_far clean live (told.0 is), λ stores. told.1 (stored_some old.now.trees after beyond stores))
