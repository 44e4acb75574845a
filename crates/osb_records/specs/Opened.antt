-- Which lives are in a database that is opened.
use Rattle.std.specs.Prelude.{◌≡◌, ◌⊎◌}
use Rattle.std.specs.FinMap.{empty}
use Rattle.sqlite.specs.Tree.{Trees}
use Rattle.sqlite.specs.Schema.{Schema}
use Rattle.sqlite.specs.Effect.{Database}
use Rattle.osb_orders.specs.Lives.{Lives}
use Rattle.osb_tables.specs.declared.schema.Indexes.{Indexes}
use Rattle.osb_tables.specs.Tables.{no_schema, tables_schema, five_tables, made}
use Rattle.osb_statements.specs.Stored.{bare_lives_in, lives_stored}
use Rattle.osb_statements.specs.StoredLives.{StoreFirst, StoreLives}
use Rattle.osb_statements.specs.Steps.{HoldsLives}

-- the four tables of version 1: by themselves, with the index of the listing, or with both indexes
abbrev pub IsFirst : Schema → Type 0
IsFirst schema = (indexes : Indexes) × (schema ≡ made tables_schema indexes)

-- the five of version 2, in the same three forms
abbrev pub IsSecond : Schema → Type 0
IsSecond schema = (indexes : Indexes) × (schema ≡ made five_tables indexes)

-- these are its lives: none where it has no tables, else those that the tables of its version store
abbrev pub AreLivesOfDatabase : Database → Lives → Type 0
AreLivesOfDatabase db lives =
    ((db.schema ≡ no_schema) × (lives ≡ empty))
    ⊎ (IsFirst db.schema × StoreFirst db.trees × (lives ≡ bare_lives_in db.trees))
    ⊎ (IsSecond db.schema × StoreLives db.trees × (lives ≡ lives_stored db.trees))

-- the trees are a database of the same lives
abbrev pub HoldsSame : Database → Trees → Type 0
HoldsSame db left = (lives : Lives) × AreLivesOfDatabase db lives × HoldsLives lives left
