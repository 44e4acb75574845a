-- Serving from a database file, of which is supposed what it held.
use Rattle.std.proofs.Common.{◌≡◌, ◌≢◌, ◌⊎◌, ◌∙◌, inl, inr, refl, sym, subst, arith, ℕ, Bool, true, false, IsTrue, List, [], ◌∷◌, Option, Some, None, IfSome, Result, Ok, Err, IfErr, append-nil}
use Rattle.std.proofs.lemmas.Bool.{true≢false}
use Rattle.sqlite.specs.Tree.{Trees}
use Rattle.sqlite.specs.State.{State, HasCleanDisk, Survives}
use Rattle.osb_frames.specs.declared.limits.Limits.{Limits}
use Rattle.osb_catalog.specs.Rules.{Rules}
use Rattle.osb_orders.specs.Lives.{Lives}
use Rattle.osb_audit.specs.Plans.{plans_in_use}
use Rattle.osb_file.specs.declared.fault.FileFault.{FileFault}
use Rattle.osb_file.specs.declared.fault.FileFault.TheVariants.{Refused, NotOurs, Missing}
use Rattle.osb_file.specs.declared.origin.Origin.{Origin}
use Rattle.osb_file.specs.File.{AreLivesOf, HasNoTables, KeepsLivesOf}
use Rattle.osb_file.proofs.FileLemmas.{held_are, only_lives_of}
use Rattle.osb_statements.specs.Steps.{stored}
use Rattle.osb_broker.specs.BrokerState.{Works}
use Rattle.osb_broker.specs.Served.{AreStandard}
use Rattle.osb_broker.specs.Exchanges.{Exchange, AreExchanges}
use Rattle.osb_broker.specs.Plans.{first_lacking, ReportsLacking}
use Rattle.osb_broker.specs.declared.fault.NewFault.{NewFault}
use Rattle.osb_broker.specs.declared.fault.NewFault.TheVariants as new
use Rattle.osb_listen.specs.declared.fault.ListenFault.{ListenFault}
use Rattle.osb_listen.specs.declared.fault.ListenFault.TheVariants.{Database, PlanInUse, Memory, CannotListen, CannotWrite, CannotAccept, FileTaken}
use Rattle.osb_listen.specs.Exchanges.{AreAsMany, LeadTo, MissesFile}
use Rattle.osb_listen.specs.Held.{AreBefore, HasServed, LeadInto, ServesFrom, Serving, NoBroker, LeavesOf, LeavesWith, IsOfFile, origin_line}
use Rattle.osb_listen.specs.Listen.{NamesLackingPlan, listen_fault_of}
use Rattle.osb_listen.specs.Inside.{IsOfAddress, IsOfDatabase}
use Rattle.osb_listen.proofs.ExchangeLemmas.{standard}
use Rattle.osb_listen.proofs.RefusedLemmas.{says_none_of_refused}

pub if_some_both : {A : Type 0} (o : Option A) (N M : Type 0) (P R Q : A → Type 0) → (N → IfSome o P) → (M → IfSome o R) → ((a : A) → (N → P a) → (M → R a) → Q a) → IfSome o Q
if_some_both None N M P R Q one other f = tt
if_some_both (Some a) N M P R Q one other f = f a one other

pub if_some_and : {A : Type 0} (o : Option A) {P R Q : A → Type 0} → IfSome o P → IfSome o R → ((a : A) → P a → R a → Q a) → IfSome o Q
if_some_and None one other f = tt
if_some_and (Some a) one other f = f a one other

-- a database that is refused, in which no lives stand, or that has no tables
pub not_taken : (rules : Rules) (db : Trees) (fault : FileFault) → (fault ≡ NotOurs → (lives : Lives) → ¬ AreLivesOf db lives) → (fault ≡ Missing → HasNoTables db) → NoBroker rules db (Database fault)
not_taken rules db Refused not_ours missing = tt
not_taken rules db NotOurs not_ours missing = not_ours refl
not_taken rules db Missing not_ours missing = missing refl

-- a file that can't be opened is refused or lacks
pub of_file : (existing : Bool) (fault : FileFault) → fault ≢ NotOurs → (fault ≡ Missing → existing ≡ true) → IsOfFile existing (Database fault)
of_file existing Refused ours missing = inl refl
of_file existing NotOurs ours missing = absurd (ours refl)
of_file existing Missing ours missing = inr (missing refl, refl)

lacking : (rules : Rules) (db : Trees) (lives : Lives) (fault : NewFault) → AreLivesOf db lives → ReportsLacking fault (first_lacking rules (plans_in_use lives)) → NoBroker rules db (listen_fault_of fault)
lacking rules db lives (new.PlanInUse service plan) stand tells = record { lives = lives; stand = stand; first = tells }
lacking rules db lives new.Refused stand tells = tt

-- a broker that can't be made over the lives that were found
pub not_made : (rules : Rules) (db : Trees) (lives : Lives) (fault : NewFault) (told : ListenFault) → told ≡ listen_fault_of fault → AreLivesOf db lives → ReportsLacking fault (first_lacking rules (plans_in_use lives)) → NoBroker rules db told
not_made rules db lives fault told is stand tells =
    subst (λ (found : ListenFault). NoBroker rules db found) (sym is) (lacking rules db lives fault stand tells)

-- where there is no broker, nothing was served
abbrev pub nothing_served : ListenFault → Serving
nothing_served fault = record { ended = Err fault; exchanges = []; before = [] }

pub without_broker : (rules : Rules) (k : ℕ) (existing : Bool) (db : Trees) (left : Lives) (fault : ListenFault) → NoBroker rules db fault → LeavesOf rules k existing db (nothing_served fault) left
without_broker rules k existing db left (Database fault) why = why
without_broker rules k existing db left (PlanInUse service plan) why = why
without_broker rules k existing db left Memory why = absurd why
without_broker rules k existing db left CannotListen why = absurd why
without_broker rules k existing db left CannotWrite why = absurd why
without_broker rules k existing db left CannotAccept why = absurd why
without_broker rules k existing db left FileTaken why = absurd why

pub none_before : (rules : Rules) (fault : ListenFault) → IsOfDatabase rules fault → AreBefore (Err fault) []
none_before rules (Database fault) is = refl
none_before rules (PlanInUse service plan) is = refl
none_before rules Memory is = absurd is
none_before rules CannotListen is = absurd is
none_before rules CannotWrite is = absurd is
none_before rules CannotAccept is = absurd is
none_before rules FileTaken is = absurd is

pub none_many : (rules : Rules) (all k : ℕ) (fault : ListenFault) → IsOfDatabase rules fault → AreAsMany (Err fault) all k []
none_many rules all k (Database fault) is = refl
none_many rules all k (PlanInUse service plan) is = refl
none_many rules all k Memory is = absurd is
none_many rules all k CannotListen is = absurd is
none_many rules all k CannotWrite is = absurd is
none_many rules all k CannotAccept is = absurd is
none_many rules all k FileTaken is = absurd is

pub none_missed : (rules : Rules) (missed : ℕ) (fault : ListenFault) → IsOfDatabase rules fault → MissesFile {T = Unit {0}} (Err fault) missed missed
none_missed rules missed (Database fault) is = refl
none_missed rules missed (PlanInUse service plan) is = refl
none_missed rules missed Memory is = absurd is
none_missed rules missed CannotListen is = absurd is
none_missed rules missed CannotWrite is = absurd is
none_missed rules missed CannotAccept is = absurd is
none_missed rules missed FileTaken is = absurd is

pub has_nothing : (rules : Rules) (all k : ℕ) (fault : ListenFault) (journal : List Exchange) (said : List ℕ) (failed : ℕ) → IsOfDatabase rules fault → HasServed all k (nothing_served fault) journal journal said said failed failed
has_nothing rules all k fault journal said failed is =
    record { journal = sym (append-nil journal); many = none_many rules all k fault is; first = none_before rules fault is; lines = says_none_of_refused said failed }

-- what comes before there is a file is of a database
pub of_no_file : (rules : Rules) (existing : Bool) (fault : ListenFault) → IsOfFile existing fault → IsOfDatabase rules fault
of_no_file rules existing fault (inl is) = subst (λ (found : ListenFault). IsOfDatabase rules found) (sym is) tt
of_no_file rules existing fault (inr (asked, is)) = subst (λ (found : ListenFault). IsOfDatabase rules found) (sym is) tt

-- the records lack no database, and neither does what comes once there is a broker
pub new_not_missing : (fault : NewFault) (told : ListenFault) → told ≡ listen_fault_of fault → told ≡ Database Missing → ⊥
new_not_missing (new.PlanInUse service plan) told is missing = cc
new_not_missing new.Refused told is missing = cc

pub address_not_missing : (fault : ListenFault) → IsOfAddress fault → fault ≡ Database Missing → ⊥
address_not_missing fault is missing = subst (λ (found : ListenFault). IsOfAddress found) missing is

-- once there is a broker, no plan is named as lacking
pub names_none : (rules : Rules) (fault : ListenFault) → IsOfAddress fault → NamesLackingPlan rules fault
names_none rules (Database fault) is = tt
names_none rules (PlanInUse service plan) is = absurd is
names_none rules Memory is = tt
names_none rules CannotListen is = tt
names_none rules CannotWrite is = tt
names_none rules CannotAccept is = tt
names_none rules FileTaken is = tt

-- the lines before those of exchanges, once there is a broker
pub before_at : (result : Result (Unit {0}) ListenFault) (origin : Origin) → IfErr result IsOfAddress → AreBefore result (origin_line origin ∷ [])
before_at (Ok x) origin is = (origin, refl)
before_at (Err (Database fault)) origin is = absurd is
before_at (Err (PlanInUse service plan)) origin is = absurd is
before_at (Err Memory) origin is = (origin, refl)
before_at (Err CannotListen) origin is = (origin, refl)
before_at (Err CannotWrite) origin is = (origin, refl)
before_at (Err CannotAccept) origin is = (origin, refl)
before_at (Err FileTaken) origin is = (origin, refl)

-- what was served is left
pub left_at : (rules : Rules) (k : ℕ) (existing : Bool) (db : Trees) (serving : Serving) (new : Lives) (result : Result (Unit {0}) ListenFault) → IfErr result IsOfAddress
    → ServesFrom rules k existing db serving new → LeavesWith rules k existing db serving new result
left_at rules k existing db serving new (Ok x) is served = served
left_at rules k existing db serving new (Err (Database fault)) is served = absurd is
left_at rules k existing db serving new (Err (PlanInUse service plan)) is served = absurd is
left_at rules k existing db serving new (Err Memory) is served = served
left_at rules k existing db serving new (Err CannotListen) is served = served
left_at rules k existing db serving new (Err CannotWrite) is served = served
left_at rules k existing db serving new (Err CannotAccept) is served = served
left_at rules k existing db serving new (Err FileTaken) is served = served

-- of the settings, the number of requests and the lives that a caller knows
pub known : (given rules : Rules) (limits : Limits) (most k : ℕ) (exchanges : List Exchange) (old left new : Lives) → given ≡ rules → most ≡ k → left ≡ new
    → AreExchanges given limits most old exchanges left → AreExchanges rules limits k old exchanges new
known given rules limits most k exchanges old left new is_rules is_most is_new lead =
    subst (λ (lives : Lives). AreExchanges rules limits k old exchanges lives) is_new
    (subst (λ (number : ℕ). AreExchanges rules limits number old exchanges left) is_most
    (subst (λ (found : Rules). AreExchanges found limits most old exchanges left) is_rules lead))

-- a crash leaves what it left before
pub keeps_on : (db : Trees) (old new : State) → KeepsLivesOf db old → ((left : Trees) → new.may_leave left → old.may_leave left ⊎ ⊥) → KeepsLivesOf db new
keeps_on db old new keeps only lives are left may = elim (only left may) [
  | inl was ↦ keeps lives are left was
  | inr never ↦ absurd never
]

-- where nothing was said, the lives stay
pub leads_nowhere : (rules : Rules) (k : ℕ) (db : Trees) (now : State) → KeepsLivesOf db now → (old : Lives) → AreLivesOf db old → (left : Trees) → now.may_leave left → LeadInto rules k old [] left
leads_nowhere rules k db now keeps old are left may =
    record { lives = old; are_in = keeps old are left may; limits = standard.0; standard = standard.1; lead = refl }

-- of the settings and the number of requests that a caller knows
pub led : (given rules : Rules) (most k : ℕ) → given ≡ rules → most ≡ k → {old : Lives} {exchanges : List Exchange} {left : Trees} → LeadInto given most old exchanges left → LeadInto rules k old exchanges left
led given rules most k is_rules is_most {old} {exchanges} {left} lead =
    subst (λ (number : ℕ). LeadInto rules number old exchanges left) is_most
    (subst (λ (found : Rules). LeadInto found most old exchanges left) is_rules lead)

module _ (rules : Rules) (limits : Limits) (k : ℕ) (exchanges : List Exchange) (db : Trees) (old new : State) where
  -- what a crash leaves of a store with which exchanges were had
  pub leads_into : AreStandard limits → (Works old → AreLivesOf db (stored old)) → (HasCleanDisk old → KeepsLivesOf db old) → LeadTo rules limits k old new exchanges → Survives old new (λ _. IsTrue old.is_open)
      → HasCleanDisk new → (lives : Lives) → AreLivesOf db lives → (left : Trees) → new.may_leave left → LeadInto rules k lives exchanges left
  leads_into standard found keeps lead survives clean lives are left may = by old.is_open refl
    where
      was_clean : HasCleanDisk old
      was_clean = omega (arith, clean, survives.clean)

      by : (is_open : Bool) → old.is_open ≡ is_open → LeadInto rules k lives exchanges left
      by true live =
          let works : Works old = record { clean = was_clean; live = live } in
          let leaves = (lead.left works clean).left left may in
          let same : stored old ≡ lives = only_lives_of db (stored old) lives (found works) are in
          record {
            lives = leaves.0;
            are_in = held_are left leaves.0 leaves.1 leaves.2;
            limits = limits;
            standard = standard;
            lead = subst (λ (l : Lives). AreExchanges rules limits k l exchanges leaves.0) same leaves.3;
          }
      by false shut = elim (survives.crash clean left may) [
        | inl was ↦ record {
          lives = lives;
          are_in = keeps was_clean lives are left was;
          limits = limits;
          standard = standard;
          lead = lead.lives lives lives (inr (clean, shut, refl));
        }
        | inr live ↦ let both : true ≡ false = sym live ∙ shut in absurd (true≢false both)
      ]
