-- What `check` finds in a settings file and a database.
use Rattle.std.proofs.Common.{◌≡◌, ◌∙◌, ◌++◌, refl, sym, ap, subst, false, Bool, ℕ, List, [], length, Option, None, Some, Result, Ok, Err, IfOk, OnOk}
use Rattle.std.proofs.lemmas.List.{append-nil}
use Rattle.sqlite.specs.Tree.{Trees}
use Rattle.osb_catalog.specs.Rules.{Rules, rules_of}
use Rattle.osb_catalog.specs.SettingsData.{SettingsData}
use Rattle.osb_audit.specs.Plans.{Pair}
use Rattle.osb_broker.specs.Plans.{first_lacking}
use Rattle.osb_file.specs.File.{HasTrees}
use Rattle.osb_file.specs.Looked.{image_in}
use Rattle.osb_file.specs.declared.seen.Seen.{Seen}
use Rattle.osb_file.specs.declared.seen.Seen.TheVariants.{New, Counted}
use Rattle.osb_cli.specs.declared.fault.Unserved.{Unserved}
use Rattle.osb_cli.specs.declared.fault.Unserved.TheVariants.{Fault, PlanInUse}
use Rattle.osb_cli.specs.Done.{AreChecked, HasItsPlans, IsChecked, IsLookedAt, counts_line}
use Rattle.osb_cli.specs.Files.{Contents}
use Rattle.osb_cli.specs.Inside.{FindsInUse, IsOfCopy, LacksSeen, OffersSeen}
use Rattle.osb_cli.specs.Reported.{IsUnservedOf}
use Rattle.osb_cli.specs.Settings.{AreOfFile}

-- settings of which nothing more is said were checked
pub unexplained : {E : Type 0} (contents : Contents) (name old new : List ℕ) (result : Result SettingsData E) → IfOk result (AreOfFile contents name)
    → IfOk result (λ settings. new ≡ old ++ counts_line (length settings.services) (length settings.plans)) → OnOk result (IsChecked contents name false old new)
unexplained contents name old new (Ok settings) are written = record {
  settings = settings;
  are = are;
  remarks = [];
  explained = refl;
  written = written ∙ ap (λ lines. old ++ lines) (sym (append-nil (counts_line (length settings.services) (length settings.plans))));
}
unexplained contents name old new (Err fault) are written = tt

-- a plan that was seen is lacking has nothing to do with a fault of settings
pub no_settings : (IsText : List ℕ → Type 0) (rules : Rules) (seen : Seen) (fault : Unserved) → LacksSeen rules seen fault → IsUnservedOf IsText fault
no_settings IsText rules seen (PlanInUse service plan) lacks = tt
no_settings IsText rules New (Fault fault) lacks = absurd lacks
no_settings IsText rules (Counted counts plans) (Fault fault) lacks = absurd lacks

module _ (contents : Contents) (name database : List ℕ) (settings : SettingsData) (are : AreOfFile contents name settings) where
  has_plans : (seen : Seen) → IsOfCopy contents database seen → OffersSeen (rules_of settings) seen → HasItsPlans contents name database
  has_plans New copy offers = record {
    settings = settings;
    are = are;
    files = copy.0;
    copy = copy.1;
    has = λ db holds some. absurd (some (copy.2 db holds));
  }
  has_plans (Counted counts plans) copy offers = record {
    settings = settings;
    are = are;
    files = copy.0;
    copy = copy.1;
    has = λ db holds some.
        let found = (copy.2 db holds).1 in
        (found.0, found.1, subst (λ (pairs : List Pair). first_lacking (rules_of settings) pairs ≡ None) found.3 offers);
  }

  -- both were checked, and no plan is lacking
  pub accepts : (explain : Bool) (old between new : List ℕ) (seen : Seen) → IsChecked contents name explain old between → IsLookedAt contents database explain between new
      → IsOfCopy contents database seen → OffersSeen (rules_of settings) seen → AreChecked contents explain (Some name) (Some database) old new
  accepts explain old between new seen checked looked copy offers = record {
    between = between;
    settings_checked = checked;
    database_checked = looked;
    accepted = has_plans seen copy offers;
  }

  -- a plan that was seen is lacking
  pub finds : (seen : Seen) (fault : Unserved) → IsOfCopy contents database seen → LacksSeen (rules_of settings) seen fault → FindsInUse contents (Some name) (Some database) fault
  finds New fault copy lacks = absurd lacks
  finds (Counted counts plans) (Fault fault) copy lacks = absurd lacks
  finds (Counted counts plans) (PlanInUse service plan) copy lacks = record {
    files = copy.0;
    copy = copy.1;
    lacks = λ db holds.
        let found = (copy.2 db holds).1 in record {
          settings = settings;
          are = are;
          lacks = record {
            lives = found.0;
            stand = found.1;
            first = subst (λ (pairs : List Pair). first_lacking (rules_of settings) pairs ≡ Some (service, plan)) found.3 lacks;
          };
        };
  }
