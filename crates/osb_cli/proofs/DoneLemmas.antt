-- What a command has done.
use Rattle.std.proofs.Common.{◌≡◌, ◌≢◌, ◌∙◌, ◌++◌, refl, sym, ap, subst, Bor, true, false, bytes_eq, ℕ, List, [], ◌∷◌, map, codes, Option, None, option_map, unwrap_or, Result, Ok, Err, IsOk, OnOk, IfErr}
use Rattle.std.proofs.lemmas.Bool.{false≢true}
use Rattle.std.proofs.lemmas.Slice.Eq.{bytes_eq-Decides}
use Rattle.clap.specs.Words.{subcommand_of, takes}
use Rattle.clap.proofs.OnLiterals.{clap_on_literals}
use Rattle.osb_cli.specs.Done.{AreChecked, AreConnections, IsBackedUp, IsDone, IsReplayedBy, IsTrimmed}
use Rattle.osb_listen.specs.Listen.{IsAddress, listening_line}
use Rattle.osb_cli.specs.Files.{AreBytesOfAll, Contents}
use Rattle.osb_cli.specs.Inside.{IsReplayedFor, AsksBackup, AsksCheck, AsksReady, AsksReplay, AsksServe, AsksTrim}
use Rattle.osb_cli.specs.Grammar.{osb_broker}
use Rattle.osb_cli.specs.Words.{FoundCommand, Names}
use Rattle.osb_cli.specs.declared.words.Backup.{Backup}
use Rattle.osb_cli.specs.declared.words.Check.{Check}
use Rattle.osb_cli.specs.declared.words.Listen.{Listen}
use Rattle.osb_cli.specs.declared.words.Ready.{Ready}
use Rattle.osb_cli.specs.declared.words.Replay.{Replay}
use Rattle.osb_cli.specs.declared.words.Trim.{Trim}

-- without words there is no command
pub nothing_named : subcommand_of osb_broker [] ≡ None
unfolding clap_on_literals
nothing_named = refl

pub nothing_taken : takes osb_broker [] ≡ true
unfolding clap_on_literals
nothing_taken = refl

-- each file is one where some are
pub of_files : (contents : Contents) (names : List (Bor (List ℕ))) (input : Option (List ℕ)) (files : List (List ℕ)) → names ≢ []
    → AreBytesOfAll contents (map (λ it. it.now) names) files → AreConnections contents (map (λ it. it.now) names) input files
of_files contents [] input files some are = absurd (some refl)
of_files contents (name ∷ names) input files some are = are

-- no words name two commands
pub not_both : (found : FoundCommand) (one other : List ℕ) → bytes_eq one other ≡ false → Names one found → Names other found → ⊥
not_both found one other apart first second =
    let same : one ≡ other = ap (λ (name : Option (List ℕ)). unwrap_or name []) (sym first ∙ second) in
    false≢true (sym apart ∙ (bytes_eq-Decides one other).1 same)

-- what was done well without a file was done well
pub done_well : {A B E F : Type 0} (done : Result A E) (told : Result B F) (P : Type 0) → OnOk told (IsOk done) → OnOk done P → OnOk told P
done_well (Ok x) (Ok y) P well known = known
done_well (Err fault) (Ok y) P well known = cc
done_well done (Err other) P well known = tt

pub if_done : {A E : Type 0} (done : Result A E) (P : Type 0) → P → OnOk done P
if_done (Ok x) P known = known
if_done (Err fault) P known = tt

pub if_failed : {A E : Type 0} (done : Result A E) (P : E → Type 0) → ((fault : E) → P fault) → IfErr done P
if_failed (Ok x) P known = tt
if_failed (Err fault) P known = known fault

module _ (contents : Contents) (IsMade : List ℕ → List ℕ → Type 0) (found : FoundCommand) (input : Option (List ℕ)) (old new : List ℕ) where
  pub is_backed_up : (asked : Backup) → AsksBackup found asked → IsBackedUp contents IsMade asked.database.now asked.to.now old new
      → IsDone contents IsMade found input old new
  is_backed_up asked asks done = record {
    backup = λ _. rw (asks.database, asks.to) at done;
    check = λ is. absurd (not_both found (codes "backup") (codes "check") refl asks.named is);
    ready = λ is. absurd (not_both found (codes "backup") (codes "ready") refl asks.named is);
    serve = λ is. absurd (not_both found (codes "backup") (codes "serve") refl asks.named is);
    trim = λ is. absurd (not_both found (codes "backup") (codes "trim") refl asks.named is);
    replay = λ other _ _ _ _. absurd (other asks.named);
  }

  pub is_checked : (asked : Check) → AsksCheck found asked
      → AreChecked contents asked.explain (option_map (λ it. it.now) asked.settings) (option_map (λ it. it.now) asked.database) old new
      → IsDone contents IsMade found input old new
  is_checked asked asks checked = record {
    backup = λ is. absurd (not_both found (codes "check") (codes "backup") refl asks.named is);
    check = λ _. (asked.explain, asks.explain, rw (asks.settings, asks.database) at checked);
    ready = λ is. absurd (not_both found (codes "check") (codes "ready") refl asks.named is);
    serve = λ is. absurd (not_both found (codes "check") (codes "serve") refl asks.named is);
    trim = λ is. absurd (not_both found (codes "check") (codes "trim") refl asks.named is);
    replay = λ _ other _ _ _. absurd (other asks.named);
  }

  pub is_replayed : (asked : Replay) → AsksReplay found asked
      → IsReplayedFor contents asked input old new
      → IsDone contents IsMade found input old new
  is_replayed asked asks replayed = record {
    backup = λ is. absurd (asks.no_backup is);
    check = λ is. absurd (asks.no_check is);
    ready = λ is. absurd (asks.no_ready is);
    serve = λ is. absurd (asks.no_serve is);
    trim = λ is. absurd (asks.no_trim is);
    replay = λ _ _ _ _ _. (asked.per_connection.number, asks.per_connection, rw (asks.settings, asks.connections) at replayed);
  }

  pub is_listened : (asked : Listen) → AsksServe found asked → new ≡ old ++ listening_line asked.place.address.now
      → IsDone contents IsMade found input old new
  is_listened asked asks told = record {
    backup = λ is. absurd (not_both found (codes "serve") (codes "backup") refl asks.named is);
    check = λ is. absurd (not_both found (codes "serve") (codes "check") refl asks.named is);
    ready = λ is. absurd (not_both found (codes "serve") (codes "ready") refl asks.named is);
    serve = λ _. rw asks.address at told;
    trim = λ is. absurd (not_both found (codes "serve") (codes "trim") refl asks.named is);
    replay = λ _ _ _ other _. absurd (other asks.named);
  }

  pub is_answered : (asked : Ready) → AsksReady found asked → IsAddress asked.address.now → new ≡ old → IsDone contents IsMade found input old new
  is_answered asked asks at same = record {
    backup = λ is. absurd (not_both found (codes "ready") (codes "backup") refl asks.named is);
    check = λ is. absurd (not_both found (codes "ready") (codes "check") refl asks.named is);
    ready = λ _. (rw asks.address at at, same);
    serve = λ is. absurd (not_both found (codes "ready") (codes "serve") refl asks.named is);
    trim = λ is. absurd (not_both found (codes "ready") (codes "trim") refl asks.named is);
    replay = λ _ _ other _ _. absurd (other asks.named);
  }

  pub is_trimmed : (asked : Trim) → AsksTrim found asked → IsTrimmed contents IsMade asked.database.now old new
      → IsDone contents IsMade found input old new
  is_trimmed asked asks done = record {
    backup = λ is. absurd (not_both found (codes "trim") (codes "backup") refl asks.named is);
    check = λ is. absurd (not_both found (codes "trim") (codes "check") refl asks.named is);
    ready = λ is. absurd (not_both found (codes "trim") (codes "ready") refl asks.named is);
    serve = λ is. absurd (not_both found (codes "trim") (codes "serve") refl asks.named is);
    trim = λ _. rw asks.database at done;
    replay = λ _ _ _ _ other. absurd (other asks.named);
  }

  -- without words the input is replayed
  pub is_plain : found ≡ None → IsDone contents IsMade found input old new → IsReplayedBy contents None 1 [] input old new
  is_plain none done = plain (subst (λ it. IsDone contents IsMade it input old new) none done)
    where
      plain : IsDone contents IsMade None input old new → IsReplayedBy contents None 1 [] input old new
      plain it =
          let replay = it.replay (λ is. cc) (λ is. cc) (λ is. cc) (λ is. cc) (λ is. cc) in
          subst (λ most. IsReplayedBy contents None most [] input old new) replay.1 replay.2
