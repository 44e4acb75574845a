-- What the queries answer of the entries.
use Rattle.std.proofs.Common.{◌≡◌, ℕ, pos, List, [], ◌∷◌, map, filter, nat_cmp, refl, ◌∙◌}
use Rattle.sqlite.specs.declared.types.Value.TheVariants.{Null, Int, Text}
use Rattle.sqlite.specs.Order.{Row}
use Rattle.sqlite.specs.Program.{overlay}
use Rattle.sqlite.specs.Query.{key_cmp}
use Rattle.sqlite_value.specs.Keys.{ascending}
use Rattle.sqlite_value.specs.declared.keys.Collation.TheVariants.{Binary}
use Rattle.sqlite_value.proofs.OrderLemmas.{value_cmp-Text}
use Rattle.sqlite.specs.State.{State, Shown}
use Rattle.sqlite.proofs.Callers.{reads_as}
use Rattle.osb_tables.specs.Tables.{second_schema}
use Rattle.osb_audit.specs.Orders.{Entry, entry_cmp, is_of}
use Rattle.osb_statements.specs.Stored.{entry_row, order_cells, entries_in}
use Rattle.osb_statements.specs.Steps.{HasTables}
use Rattle.osb_statements.proofs.TestLemmas.{at_instance}
use Rattle.osb_rows.proofs.AnswerLemmas.{one_answer}
use Rattle.osb_statements.proofs.Texts.{select_life, select_life_is, all_cells}
use Rattle.osb_contexts.proofs.TestLemmas.{then_equal, number_cmp}
use Rattle.osb_audit.proofs.RisingLemmas.{entries_total as entry_total}
use Rattle.osb_contexts.proofs.Texts.{by_key, every, is_at}

-- ORDER BY the whole key is the order of entries
pub by_both : (a b : Entry) → key_cmp 0 (ascending Binary ∷ ascending Binary ∷ []) (Text a.0 ∷ Int (pos a.1.number) ∷ []) (Text b.0 ∷ Int (pos b.1.number) ∷ []) ≡ entry_cmp a b
by_both a b = rw (value_cmp-Text a.0 b.0, number_cmp a.1.number b.1.number, then_equal (nat_cmp a.1.number b.1.number)) refl

module _ (old new : State) (tables : HasTables old.now) where
  abbrev entries : List Entry
  entries = entries_in old.now.trees

  -- the orders of one instance
  pub shows_life : (id : List ℕ) (rows : List Row) → Shown select_life (Text id ∷ []) old new rows → rows ≡ map entry_row (filter (is_of id) entries)
  shows_life id rows h =
      let params = Text id ∷ [] in
      let read = reads_as select_life params old new second_schema tables.schema _ select_life_is.0 select_life_is.2 select_life_is.1 rows h in
      one_answer 1 (is_at 1 0 ∷ []) all_cells by_key every (overlay old.now.trees []) params order_cells entry_row entry_cmp entry_total (is_of id)
      (λ _. refl) (λ _. refl) (at_instance id []) (λ a b less. by_both a b ∙ less) entries rows tables.holds.orders (read.answer Null)
