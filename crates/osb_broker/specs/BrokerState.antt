-- The store, the lives and the settings of a broker, and whether its store works.
use Rattle.std.specs.Prelude.{◌≡◌, ◌⊎◌, ℕ, false, IsTrue}
use Rattle.osb_broker.specs.declared.broker.Broker.{Broker}
use Rattle.osb_catalog.specs.Rules as catalog
use Rattle.osb_orders.specs.Lives.{Lives}
use Rattle.sqlite_trees.specs.declared.store.Store.{Ghosts}
use Rattle.sqlite.specs.Held.{Held, state}
use Rattle.sqlite.specs.State.{State, HasCleanDisk}
use Rattle.osb_statements.specs.Steps.{stored}

-- the store behind its records, as a database connection shows it
abbrev pub store_of : {S : Type 0} → Ghosts S → Broker S → State
store_of store broker = state store broker.records

-- its records
abbrev pub records_of : {S : Type 0} → Broker S → Held S
records_of broker = broker.records

-- the store works: its disk has returned what was written, and it is open
pub record Works (s : State) : Type 0 where
  pub clean : HasCleanDisk s
  pub live : IsTrue s.is_open

-- a fault of its disk has shut the store
abbrev pub IsShut : State → Type 0
IsShut s = s.is_open ≡ false

-- These may be the lives before and after something was done with a store: those that it stores, where it works still;
-- any lives that stay, where a fault had shut it.
abbrev pub LivesGo : State → State → Lives → Lives → Type 0
LivesGo old new before after =
    (Works new × (before ≡ stored old) × (after ≡ stored new))
    ⊎ (HasCleanDisk new × IsShut old × (after ≡ before))

-- the lives of all instances, as its records store them
unfoldable pub lives_of : {S : Type 0} → Ghosts S → Broker S → Lives
lives_of store broker = stored (store_of store broker)

-- how many requests of a connection it takes
abbrev pub most_of : {S : Type 0} → Broker S → ℕ
most_of broker = broker.setup.per_connection.number

-- the settings that it decides by
abbrev pub rules_in : {S : Type 0} → Broker S → catalog.Rules
rules_in broker = catalog.rules_of broker.setup.settings.now
