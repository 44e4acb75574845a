-- What the queries for one order answer of a life.
use Rattle.std.proofs.Common.{◌≡◌, ℕ, ◌==◌, pos, List, [], ◌∷◌, map, filter, take, Bool, true, false, cond, ◌&&◌, Some, option_map, slice_get, refl, sym, ap, ◌∙◌}
use Rattle.std.specs.List.{list_all}
use Rattle.std.specs.Ordering.{flip_args}
use Rattle.std.proofs.lemmas.Cmp.{back_total}
use Rattle.sqlite.specs.declared.types.Value.TheVariants.{Null, Int, Text}
use Rattle.sqlite.specs.Order.{Row}
use Rattle.sqlite.specs.Program.{overlay}
use Rattle.sqlite.specs.Term.{holds}
use Rattle.sqlite.specs.State.{State, Shown}
use Rattle.sqlite.proofs.Callers.{reads_as}
use Rattle.osb_orders.specs.declared.order.OrderKind.{OrderKind}
use Rattle.osb_orders.specs.declared.order.Order.{Order}
use Rattle.osb_orders.specs.Lists.{last_of}
use Rattle.osb_orders.specs.Orders.{kind_number}
use Rattle.osb_orders.specs.Lives.{life_of}
use Rattle.osb_orders.specs.Named.{order_numbered}
use Rattle.osb_tables.specs.Tables.{second_schema}
use Rattle.osb_audit.specs.Orders.{Entry, entry_cmp, is_of}
use Rattle.osb_statements.specs.Stored.{AreBare, entry_row, order_cells, entries_in}
use Rattle.osb_statements.specs.Steps.{HasTables, bare_in}
use Rattle.osb_statements.specs.Asked.{first_order, is_kind_of}
use Rattle.osb_statements.proofs.TestLemmas.{is_keyed, at_key}
use Rattle.osb_statements.proofs.SortLemmas.{entry_told_back}
use Rattle.osb_statements.proofs.BareLemmas.{all_filtered, stored_bare}
use Rattle.osb_rows.proofs.AnswerLemmas.{one_answer}
use Rattle.osb_statements.proofs.SelectLemmas.{by_both}
use Rattle.osb_statements.proofs.LivesLemmas.{life_in, life_of_lives}
use Rattle.osb_statements.proofs.BackLemmas.{back, all_back, stores_back, filter_back, first_back, last_map}
use Rattle.osb_statements.proofs.Texts.{all_cells}
use Rattle.osb_statements.proofs.OrderTexts.{by_key_back, one, select_order, order_tests, select_order_is, select_last, last_tests, select_last_is}
use Rattle.osb_contexts.proofs.TestLemmas.{same_text, same_number, and_true}
use Rattle.osb_audit.proofs.RisingLemmas.{entries_total as entry_total}
use Rattle.osb_contexts.proofs.Texts.{by_key, every}

-- ---- the first row

told_first : (es : List Entry) → AreBare es → first_order (map entry_row es) ≡ option_map (λ (e : Entry). e.1) (slice_get es 0)
told_first [] bare = refl
told_first (e ∷ es) bare = ap (λ (entry : Entry). Some entry.1) (entry_told_back e bare.0)

take_first : (rows : List Row) → first_order (take 1 rows) ≡ first_order rows
take_first [] = refl
take_first (row ∷ rows) = refl

found_first : (id : List ℕ) (number : ℕ) (es : List Entry) → AreBare es → first_order (map entry_row (filter (is_keyed id number) es)) ≡ order_numbered number (life_in id es)
found_first id number [] bare = refl
found_first id number (e ∷ es) bare = go (is_of id e) (e.1.number == number) refl (found_first id number es bare.1)
  where
    rest : List Entry
    rest = filter (is_keyed id number) es

    go : (b c : Bool) → (e.1.number == number) ≡ c → first_order (map entry_row rest) ≡ order_numbered number (life_in id es)
        → first_order (map entry_row (cond (b && c) (e ∷ rest) rest)) ≡ order_numbered number (map (λ (entry : Entry). entry.1) (cond b (e ∷ filter (is_of id) es) (filter (is_of id) es)))
    go true true is more = rw is (ap (λ (entry : Entry). Some entry.1) (entry_told_back e bare.0))
    go true false is more = rw is more
    go false c is more = more

-- the entry is of the instance, and its order passes
abbrev pub is_of_with : List ℕ → (Order → Bool) → Entry → Bool
is_of_with id passes entry = is_of id entry && passes entry.1

passing : (id : List ℕ) (passes : Order → Bool) (es : List Entry) → filter passes (life_in id es) ≡ map (λ (entry : Entry). entry.1) (filter (is_of_with id passes) es)
passing id passes [] = refl
passing id passes (e ∷ es) = go (is_of id e) (passing id passes es)
  where
    rest : List Entry
    rest = filter (is_of_with id passes) es

    passed : (c : Bool) → filter passes (life_in id es) ≡ map (λ (entry : Entry). entry.1) rest → cond c (e.1 ∷ filter passes (life_in id es)) (filter passes (life_in id es)) ≡ map (λ (entry : Entry). entry.1) (cond c (e ∷ rest) rest)
    passed true more = ap (λ orders. e.1 ∷ orders) more
    passed false more = more

    go : (b : Bool) → filter passes (life_in id es) ≡ map (λ (entry : Entry). entry.1) rest → filter passes (map (λ (entry : Entry). entry.1) (cond b (e ∷ filter (is_of id) es) (filter (is_of id) es))) ≡ map (λ (entry : Entry). entry.1) (cond (b && passes e.1) (e ∷ rest) rest)
    go true more = passed (passes e.1) more
    go false more = more

-- the first from the end is the last
last_of_those : (id : List ℕ) (passes : Order → Bool) (es : List Entry) → AreBare es → first_order (take 1 (map entry_row (filter (is_of_with id passes) (back es)))) ≡ last_of (filter passes (life_in id es))
last_of_those id passes es bare =
    let those = filter (is_of_with id passes) es in
    take_first _
    ∙ ap (λ entries. first_order (map entry_row entries)) (filter_back (is_of_with id passes) es)
    ∙ told_first (back those) (all_back _ those (all_filtered _ (is_of_with id passes) es bare))
    ∙ ap (option_map (λ (entry : Entry). entry.1)) (first_back those)
    ∙ sym (last_map (λ (entry : Entry). entry.1) those)
    ∙ sym (ap last_of (passing id passes es))

-- ---- the tests of WHERE

at_last : (id binding : List ℕ) (kind : OrderKind) (entry : Entry) → list_all (holds ((Text id ∷ Text binding ∷ Int (pos (kind_number kind)) ∷ []) ∷ (Null ∷ entry_row entry) ∷ [])) last_tests ≡ is_of_with id (is_kind_of binding kind) entry
at_last id binding kind entry = rw (same_text entry.0 id, same_text entry.1.binding binding, same_number (kind_number entry.1.kind) (kind_number kind), and_true (kind_number entry.1.kind == kind_number kind)) refl

-- ---- the queries

module _ (old new : State) (tables : HasTables old.now) where
  abbrev entries : List Entry
  entries = entries_in old.now.trees

  -- the last order of a kind about a binding, or about the instance
  pub shows_last : (id binding : List ℕ) (kind : OrderKind) (rows : List Row) → Shown select_last (Text id ∷ Text binding ∷ Int (pos (kind_number kind)) ∷ []) old new rows → first_order rows ≡ last_of (filter (is_kind_of binding kind) (life_of (bare_in old) id))
  shows_last id binding kind rows h =
      let params = Text id ∷ Text binding ∷ Int (pos (kind_number kind)) ∷ [] in
      let passes = is_kind_of binding kind in
      let read = reads_as select_last params old new second_schema tables.schema _ select_last_is.0 select_last_is.2 select_last_is.1 rows h in
      ap first_order (one_answer 1 last_tests all_cells by_key_back one (overlay old.now.trees []) params order_cells entry_row (flip_args entry_cmp) (back_total entry_total) (is_of_with id passes)
      (λ _. refl) (λ _. refl) (at_last id binding kind) (λ a b less. by_both b a ∙ less) (back entries) rows (stores_back order_cells entry_row entry_cmp _ entries tables.holds.orders) (read.answer Null))
      ∙ last_of_those id passes entries (stored_bare old.now.trees)
      ∙ ap (λ life. last_of (filter passes life)) (sym (life_of_lives id entries))

  pub shows_order : (id : List ℕ) (number : ℕ) (rows : List Row) → Shown select_order (Text id ∷ Int (pos number) ∷ []) old new rows → first_order rows ≡ order_numbered number (life_of (bare_in old) id)
  shows_order id number rows h =
      let params = Text id ∷ Int (pos number) ∷ [] in
      let read = reads_as select_order params old new second_schema tables.schema _ select_order_is.0 select_order_is.2 select_order_is.1 rows h in
      ap first_order (one_answer 1 order_tests all_cells by_key every (overlay old.now.trees []) params order_cells entry_row entry_cmp entry_total (is_keyed id number)
      (λ _. refl) (λ _. refl) (at_key id number []) (λ a b less. by_both a b ∙ less) entries rows tables.holds.orders (read.answer Null))
      ∙ found_first id number entries (stored_bare old.now.trees)
      ∙ ap (order_numbered number) (sym (life_of_lives id entries))
