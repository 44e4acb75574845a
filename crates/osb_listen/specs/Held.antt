-- Serving from a database file, of which is supposed what it held.
use Rattle.std.specs.Prelude.{◌≡◌, ◌⊎◌, ◌++◌, ℕ, Bool, true, List, [], ◌∷◌, codes, Some, Result, Err, ⊤}
use Rattle.sqlite.specs.Tree.{Trees}
use Rattle.sqlite.specs.State.{State, HasCleanDisk}
use Rattle.osb_frames.specs.declared.limits.Limits.{Limits}
use Rattle.osb_catalog.specs.Rules.{Rules}
use Rattle.osb_orders.specs.Lives.{Lives}
use Rattle.osb_audit.specs.Plans.{plans_in_use}
use Rattle.osb_file.specs.declared.fault.FileFault.TheVariants.{Refused, NotOurs, Missing}
use Rattle.osb_file.specs.declared.origin.Origin.{Origin}
use Rattle.osb_file.specs.declared.origin.Origin.TheVariants.{New, Kept}
use Rattle.osb_file.specs.File.{AreLivesOf, HasNoTables, IsOriginOf}
use Rattle.osb_statements.specs.Steps.{stored}
use Rattle.osb_broker.specs.BrokerState.{Works}
use Rattle.osb_broker.specs.Exchanges.{Exchange, AreExchanges}
use Rattle.osb_broker.specs.Plans.{first_lacking}
use Rattle.osb_broker.specs.Served.{AreStandard}
use Rattle.osb_listen.specs.declared.fault.ListenFault.{ListenFault}
use Rattle.osb_listen.specs.declared.fault.ListenFault.TheVariants.{Database, PlanInUse}
use Rattle.osb_listen.specs.Exchanges.{AreAsMany, lines_of}
use Rattle.osb_listen.specs.Lines.{SaysWithRefused}

-- the line that reports that a database is begun
abbrev pub origin_line : Origin → List ℕ
origin_line New = codes "database: new\n"
origin_line Kept = []

-- What serving did: how it ended, the exchanges, and the lines that were written before theirs.
pub record Serving : Type 0 where
  pub ended : Result (Unit {0}) ListenFault
  pub exchanges : List Exchange
  pub before : List (List ℕ)

-- before the lines of exchanges: none without a broker, else at most that the database is begun
abbrev pub AreBefore : Result (Unit {0}) ListenFault → List (List ℕ) → Type 0
AreBefore (Err (Database fault)) lines = lines ≡ []
AreBefore (Err (PlanInUse service plan)) lines = lines ≡ []
AreBefore _ lines = (origin : Origin) × (lines ≡ origin_line origin ∷ [])

-- The exchanges are the journal's last, of as many clients as asked for or fewer, with their lines.
pub record HasServed (all k : ℕ) (serving : Serving) (journal_old journal_new : List Exchange)
    (said_old said_new : List ℕ) (failed_old failed_new : ℕ) : Type 0 where
  pub journal : journal_new ≡ journal_old ++ serving.exchanges
  pub many : AreAsMany serving.ended all k serving.exchanges
  pub first : AreBefore serving.ended serving.before
  pub lines : SaysWithRefused (serving.before ++ lines_of serving.exchanges) said_old said_new
      failed_old failed_new

-- The exchanges lead, within the standard limits, from the lives in these trees, which hold no
-- others, to new ones. A database without tables is begun, any other is served on, as the line
-- before says; where an existing one was asked for, none is begun.
pub record ServesFrom (rules : Rules) (k : ℕ) (existing : Bool) (db : Trees) (serving : Serving)
    (new : Lives) : Type 0 where
  pub old : Lives
  pub are_in : AreLivesOf db old
  pub origin : Origin
  pub is : IsOriginOf db origin
  pub line : serving.before ≡ origin_line origin ∷ []
  pub asked : existing ≡ true → origin ≡ Kept
  pub limits : Limits
  pub standard : AreStandard limits
  pub lead : AreExchanges rules limits k old serving.exchanges new

-- the lives in these trees have the plan in use, and it is the first that the catalog lacks
pub record IsInUse (rules : Rules) (db : Trees) (service plan : List ℕ) : Type 0 where
  pub lives : Lives
  pub stand : AreLivesOf db lives
  pub first : first_lacking rules (plans_in_use lives) ≡ Some (service, plan)

-- why there is no broker over a file that held these trees
abbrev pub NoBroker : Rules → Trees → ListenFault → Type 0
NoBroker rules db (Database Refused) = ⊤
NoBroker rules db (Database NotOurs) = (lives : Lives) → ¬ AreLivesOf db lives
NoBroker rules db (Database Missing) = HasNoTables db
NoBroker rules db (PlanInUse service plan) = IsInUse rules db service plan
NoBroker rules db _ = ⊥

-- what serving leaves of a file that held these trees, by how it ended: it isn't served from, or
-- the exchanges lead to its lives
abbrev pub LeavesWith : Rules → ℕ → Bool → Trees → Serving → Lives → Result (Unit {0}) ListenFault →
    Type 0
LeavesWith rules k existing db serving new (Err (Database fault)) =
    NoBroker rules db (Database fault)
LeavesWith rules k existing db serving new (Err (PlanInUse service plan)) =
    IsInUse rules db service plan
LeavesWith rules k existing db serving new _ = ServesFrom rules k existing db serving new

abbrev pub LeavesOf : Rules → ℕ → Bool → Trees → Serving → Lives → Type 0
LeavesOf rules k existing db serving new = LeavesWith rules k existing db serving new serving.ended

-- the exchanges lead, within the standard limits, from the lives old to those in these trees
pub record LeadInto (rules : Rules) (k : ℕ) (old : Lives) (exchanges : List Exchange)
    (left : Trees) : Type 0 where
  pub lives : Lives
  pub are_in : AreLivesOf left lives
  pub limits : Limits
  pub standard : AreStandard limits
  pub lead : AreExchanges rules limits k old exchanges lives

-- What serving leaves of a file that held these trees: the lives that the store has, where it works, and those in whatever
-- a crash leaves now.
pub record LeavesFile (rules : Rules) (k : ℕ) (existing : Bool) (db : Trees) (serving : Serving)
    (now : State) : Type 0 where
  pub works : Works now → LeavesOf rules k existing db serving (stored now)
  pub crash : HasCleanDisk now → (old : Lives) → AreLivesOf db old → (left : Trees) →
      now.may_leave left → LeadInto rules k old serving.exchanges left

-- why there is no file to open: it is refused, or lacks where an existing one was asked for
abbrev pub IsOfFile : Bool → ListenFault → Type 0
IsOfFile existing fault =
    (fault ≡ Database Refused) ⊎ ((existing ≡ true) × (fault ≡ Database Missing))
