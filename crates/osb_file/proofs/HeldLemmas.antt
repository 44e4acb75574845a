-- The lives that trees hold are those that an opening finds in them.
use Rattle.std.proofs.Common.{◌≡◌, ◌∙◌, sym, inl, inr}
use Rattle.sqlite.specs.Tree.{Trees}
use Rattle.sqlite_catalog.proofs.ReadLemmas.{lists_once}
use Rattle.osb_tables.specs.Tables.{second_schema}
use Rattle.osb_tables.specs.declared.schema.Indexes.TheVariants.{Both}
use Rattle.osb_tables.proofs.SchemaLemmas.{versions_apart, second_is_something}
use Rattle.osb_orders.specs.Lives.{Lives}
use Rattle.osb_statements.specs.Stored.{lives_stored}
use Rattle.osb_statements.specs.Steps.{HoldsLives}
use Rattle.osb_records.specs.Opened.{AreLivesOfDatabase}
use Rattle.osb_file.specs.File.{AreLivesOf}

-- trees are a database of one schema, so where they hold lives they have no others
pub stored_are_found : (db : Trees) (lives found : Lives) → HoldsLives lives db → AreLivesOf db found → found ≡ lives_stored db
stored_are_found db lives found holds are = go are.2
  where
    schema : are.0 ≡ second_schema
    schema = lists_once _ _ _ are.1.lists holds.sound.lists

    go : AreLivesOfDatabase (record { schema = are.0; trees = db }) found → found ≡ lives_stored db
    go (inl none) = absurd (second_is_something Both (sym schema ∙ none.0))
    go (inr (inl first)) = absurd (versions_apart first.0.0 Both (sym first.0.1 ∙ schema))
    go (inr (inr second)) = second.2

pub held_are_found : (db : Trees) (lives found : Lives) → HoldsLives lives db → AreLivesOf db found → found ≡ lives
held_are_found db lives found holds are = stored_are_found db lives found holds are ∙ holds.lives_are
