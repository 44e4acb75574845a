-- What `serve` leaves of a database file.
use Rattle.std.proofs.Common.{◌≡◌, ◌≤◌, ◌∙◌, refl, codes, ℕ, Bool, List, sym, subst, arith, Option, None, Some, IfNone, IfSome, IsSome, Result, Ok, Err, IsErr, IsErrAnd, IsOk, OnOk, OnErr, IfErr}
use Rattle.std.proofs.lemmas.Option.{IfSome_then}
use Rattle.sqlite.specs.Tree.{Trees}
use Rattle.sqlite.specs.State.{State}
use Rattle.osb_catalog.specs.Rules.{rules_of}
use Rattle.osb_catalog.specs.SettingsData.{SettingsData}
use Rattle.osb_orders.specs.Lives.{Lives}
use Rattle.osb_listen.specs.declared.fault.ListenFault.{ListenFault}
use Rattle.osb_listen.specs.declared.fault.ListenFault.TheVariants as listen
use Rattle.osb_broker.specs.Exchanges.{Exchange}
use Rattle.osb_listen.specs.Held.{HasServed, IsInUse, LeavesFile, LeavesOf, LeavesWith, Serving}
use Rattle.osb_cli.specs.declared.fault.Unserved.{Unserved}
use Rattle.osb_cli.specs.declared.fault.Unserved.TheVariants.{Fault, PlanInUse}
use Rattle.osb_cli.specs.Files.{Contents}
use Rattle.osb_cli.specs.Settings.{AreOfFile}
use Rattle.osb_cli.specs.Words.{FoundCommand, text_in}
use Rattle.osb_cli.specs.declared.words.Listen.{Listen}
use Rattle.osb_cli.specs.Serve.{FindsSome, LacksPlan, Leaves, LeavesAs, NamesSome, settings_name}
use Rattle.osb_cli.specs.Inside.{FindsInUse, IsPlan, NameOne, NamesInUse, AsksServe}

pub served_by : (all k most : ℕ) (serving : Serving) (journal_old journal_new : List Exchange) (said_old said_new : List ℕ) (failed_old failed_new : ℕ) → k ≡ most
    → HasServed all k serving journal_old journal_new said_old said_new failed_old failed_new → HasServed all most serving journal_old journal_new said_old said_new failed_old failed_new
served_by all k most serving journal_old journal_new said_old said_new failed_old failed_new is served =
    subst (λ n. HasServed all n serving journal_old journal_new said_old said_new failed_old failed_new) is served

pub is_left : (contents : Contents) (name : List ℕ) (settings : SettingsData) → AreOfFile contents name settings → (k : ℕ) (existing : Bool) (db : Trees) (serving : Serving) (now : State)
    → LeavesFile (rules_of settings) k existing db serving now → Leaves contents name k existing db serving now
is_left contents name settings are k existing db serving now leaves = record { settings = settings; are = are; leaves = leaves }

module _ (contents : Contents) (name : List ℕ) (settings : SettingsData) (are : AreOfFile contents name settings) (k : ℕ) (existing : Bool) (db : Trees) (serving : Serving) (new : Lives) where
  lacking : (service plan found named : List ℕ) → found ≡ service → named ≡ plan → IsInUse (rules_of settings) db service plan → LacksPlan contents name db found named
  lacking service plan found named is_service is_plan lacks = record {
    settings = settings;
    are = are;
    lacks = subst (λ (text : List ℕ). IsInUse (rules_of settings) db text named) (sym is_service)
        (subst (λ (text : List ℕ). IsInUse (rules_of settings) db service text) (sym is_plan) lacks);
  }

  names_it : (fault : ListenFault) (told : Unserved) → NameOne fault told → LeavesWith (rules_of settings) k existing db serving new (Err fault) → NamesInUse contents name db told
  names_it fault (Fault other) one leaves = tt
  names_it (listen.PlanInUse service plan) (PlanInUse found named) one leaves = lacking service plan found named one.0 one.1 leaves
  names_it (listen.Database fault) (PlanInUse found named) one leaves = absurd one
  names_it listen.Memory (PlanInUse found named) one leaves = absurd one
  names_it listen.CannotListen (PlanInUse found named) one leaves = absurd one
  names_it listen.CannotWrite (PlanInUse found named) one leaves = absurd one
  names_it listen.CannotAccept (PlanInUse found named) one leaves = absurd one
  names_it listen.FileTaken (PlanInUse found named) one leaves = absurd one

  pub names_in_use : (result : Result (Unit {0}) ListenFault) (fault : ListenFault) (told : Unserved) → serving.ended ≡ result → result ≡ Err fault → NameOne fault told → LeavesOf (rules_of settings) k existing db serving new
      → NamesInUse contents name db told
  names_in_use result fault told is failed one leaves =
      names_it fault told one (subst (λ (ended : Result (Unit {0}) ListenFault). LeavesWith (rules_of settings) k existing db serving new ended) (is ∙ failed) leaves)

-- where all went well, serving did
pub ended_well : (ended result : Result (Unit {0}) ListenFault) (x : Unit {0}) → ended ≡ result → result ≡ Ok x → IsOk ended
ended_well ended result x is well = subst (λ (r : Result (Unit {0}) ListenFault). IsOk r) (sym (is ∙ well)) refl

-- as the words say
pub left_as : (contents : Contents) (found : FoundCommand) (asked : Listen) (db : Trees) (serving : Serving) (now : State) → AsksServe found asked
    → Leaves contents asked.settings.now asked.per_connection.number asked.place.existing db serving now → LeavesAs contents found db serving now
left_as contents found asked db serving now asks left = record {
  per_connection = asked.per_connection.number;
  of_each = asks.per_connection;
  existing = asked.place.existing;
  of_file = asks.existing;
  left = subst (λ name. Leaves contents name asked.per_connection.number asked.place.existing db serving now) asks.settings left;
}

-- a fault that names a plan names one that is lacking
pub names_some : (contents : Contents) (found : FoundCommand) (db : Trees) (fault : Unserved) → IsPlan fault → NamesInUse contents (settings_name found) db fault → NamesSome contents found db
names_some contents found db (PlanInUse service plan) is lacks = (service, plan, lacks)
names_some contents found db (Fault fault) is lacks = absurd is

-- so does one that `check` finds
pub finds_some : (contents : Contents) (found : FoundCommand) (fault : Unserved) → IsPlan fault
    → FindsInUse contents (text_in (codes "settings") found) (text_in (codes "database") found) fault → FindsSome contents found
finds_some contents found (PlanInUse service plan) is lacks = (service, plan, lacks)
finds_some contents found (Fault fault) is lacks = absurd is

-- nothing is said of a fault that names no plan
pub finds_unless_plan : (contents : Contents) (name database : Option (List ℕ)) (fault : Unserved) → ¬ IsPlan fault → FindsInUse contents name database fault
finds_unless_plan contents name database (PlanInUse service plan) other = absurd (other tt)
finds_unless_plan contents name database (Fault fault) other = tt

-- a fault of status 4 says what it says of the connection
pub fault_if_4 : {A C : Type 0} (done : Result A Unserved) (status : ℕ) (conn : Option C) (P : Unserved → C → Type 0) (Q : C → Type 0)
    → OnOk done (status ≡ 0) → status ≡ 4 → IfErr done IsPlan → IfErr done (λ fault. IfSome conn (P fault))
    → ((fault : Unserved) → IsPlan fault → (c : C) → P fault c → Q c) → IfSome conn Q
fault_if_4 (Ok x) status conn P Q zero is plan known f = absurd (omega (arith, is, zero))
fault_if_4 (Err fault) status conn P Q zero is plan known f = IfSome_then conn known (f fault plan)

-- status 4 is of a fault that names a plan
pub serves_if_4 : {A : Type 0} (done : Result A Unserved) (status : ℕ) {P : Type 0} → OnOk done (status ≡ 0) → status ≡ 4 → IfErr done IsPlan → IfErr done (λ fault. IsPlan fault → P) → P
serves_if_4 (Ok x) status zero is plan serves = absurd (omega (arith, is, zero))
serves_if_4 (Err fault) status zero is plan serves = serves plan

pub finds_if_4 : {A : Type 0} (done : Result A Unserved) (status : ℕ) {P : Unserved → Type 0} {Q : Type 0} → OnOk done (status ≡ 0) → status ≡ 4 → IfErr done IsPlan → IfErr done P
    → ((fault : Unserved) → IsPlan fault → P fault → Q) → Q
finds_if_4 (Ok x) status zero is plan known f = absurd (omega (arith, is, zero))
finds_if_4 (Err fault) status zero is plan known f = f fault plan known

-- what was done well opened the file, where only a fault leaves it
pub is_opened : {A E C : Type 0} (done : Result A E) (conn : Option C) (P : E → Type 0) (x : A) → done ≡ Ok x → IfNone conn (IsErrAnd done P) → IsSome conn
is_opened (Ok y) None P x is leaves = absurd leaves
is_opened (Err fault) None P x is leaves = cc
is_opened done (Some c) P x is leaves = refl

-- nothing is asked of what was done in vain
pub in_vain : {A E : Type 0} (done : Result A E) (P : Type 0) → IsErr done → OnOk done P
in_vain (Ok x) P is = cc
in_vain (Err fault) P is = tt

-- a fault is what a status other than 0 comes of
pub fault_if_some : {A E C : Type 0} (done : Result A E) (status : ℕ) (conn : Option C) (P Q : C → Type 0) → OnOk done (status ≡ 0) → 1 ≤ status
    → OnErr done (IfSome conn P) → ((c : C) → P c → Q c) → IfSome conn Q
fault_if_some (Ok x) status conn P Q zero some known f = absurd (omega (arith, some, zero))
fault_if_some (Err fault) status conn P Q zero some known f = IfSome_then conn known f

pub if_none_then : {C Q R : Type 0} (conn : Option C) → IfNone conn Q → (Q → R) → IfNone conn R
if_none_then None known f = f known
if_none_then (Some c) known f = tt
