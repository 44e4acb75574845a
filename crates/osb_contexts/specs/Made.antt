-- What single statements make of the tables. For contracts inside the crate.
use Rattle.std.specs.Prelude.{◌≡◌, [], ◌∷◌}
use Rattle.sqlite.specs.State.{State}
use Rattle.osb_tables.specs.Tables.{tables_schema, five_tables, second_schema, contexts_table}
use Rattle.osb_contexts.specs.Inside.{Reshapes, lasting_tables}

-- Inside a transaction the table of the format lost its rows, and those of the other tables stay. Nothing is committed.
pub record ClearsFormat (old new : State) : Type 0 where
  pub reshapes : Reshapes second_schema (contexts_table ∷ lasting_tables) old new
  pub blank : new.now.trees 0 ≡ []

-- Inside a transaction the table of contexts was made behind the four tables, with no row. Nothing is committed.
pub record MakesContexts (old new : State) : Type 0 where
  pub reshapes : Reshapes five_tables (tables_schema).tables old new
  pub blank : new.now.trees 7 ≡ []
