-- What is read of a whole table.
use Rattle.std.proofs.Common.{◌≡◌, ℕ, List, [], ◌∷◌, map, true, Ordering, Less, refl, sym, ap, subst, subst₂, ◌∙◌, IsPermutation}
use Rattle.std.specs.Cmp.{IsTotalOrder}
use Rattle.std.proofs.lemmas.List.Sorted.{IsPermutation-map}
use Rattle.sqlite.specs.declared.types.Value.TheVariants.{Null}
use Rattle.sqlite.specs.Order.{Row}
use Rattle.sqlite.specs.Program.{overlay}
use Rattle.sqlite.specs.Query.{IsAnswer, output_cmp}
use Rattle.sqlite.specs.Term.{Term}
use Rattle.sqlite.specs.Tree.{Trees}
use Rattle.sqlite_value.specs.declared.keys.Key.{Key}
use Rattle.sqlite_keyed.proofs.ListLemmas.{map-map, map_same}
use Rattle.osb_rows.specs.Rows.{Stores, AreInUtf8}
use Rattle.osb_statements.specs.Read.{IsListOf}
use Rattle.osb_rows.proofs.AnswerLemmas.{over, out, one_answer}
use Rattle.osb_contexts.proofs.FormatLemmas.{all_in as none_left}
use Rattle.osb_contexts.specs.Read.{HaveRowids}
use Rattle.osb_contexts.proofs.WholeLemmas.{all_shown}
use Rattle.osb_contexts.proofs.Texts.{every}

-- ---- one table

module _ (tree : ℕ) (db : Trees) where
  abbrev seen : Trees
  seen = overlay db []

  module _ (sees : seen tree ≡ db tree) where
    module _ {E : Type 0} (cells : Row → Row) (shown : E → Row) (cmp : E → E → Ordering) (total : IsTotalOrder cmp) (project : List Term) (order : List (Term × Key))
        (out_shows : (row : Row) → (out tree [] project order every seen [] row).1 ≡ cells row) (out_cells : (row : Row) → out tree [] project order every seen [] row ≡ out tree [] project order every seen [] (Null ∷ cells row))
        (shows : (e : E) → (out tree [] project order every seen [] (Null ∷ shown e)).1 ≡ shown e)
        (ordered : (a b : E) → cmp a b ≡ Less → output_cmp (over tree [] project order every) (out tree [] project order every seen [] (Null ∷ shown a)) (out tree [] project order every seen [] (Null ∷ shown b)) ≡ Less)
        (columns : Row → Row) (columns_cells : (row : Row) → columns (cells row) ≡ cells row) (columns_shown : (e : E) → columns (shown e) ≡ shown e) where
      -- where the table stores entries, the rows that were read show them
      pub are_shown : (rows : List Row) (others : List E) → IsAnswer (over tree [] project order every) seen [] rows → Stores cells shown cmp (db tree) others → rows ≡ map shown others
      are_shown rows others a stores =
          let stored = subst (λ own. Stores cells shown cmp own others) (sym sees) stores in
          one_answer tree [] project order every seen [] cells shown cmp total (λ _. true) (λ _. refl) out_cells (λ _. refl) ordered others rows stored a
          ∙ ap (map _) (none_left others) ∙ map_same _ shown shows others

      pub is_list : (rows : List Row) (entries : List E) → IsAnswer (over tree [] project order every) seen [] rows → HaveRowids (db tree) → map shown entries ≡ map columns rows → AreInUtf8 shown entries → IsListOf cells shown cmp (db tree) entries
      is_list rows entries a have is texts = record {
        texts = texts;
        held = record {
          apart = have.apart;
          keyed = have.keyed;
          same =
              let all = subst (λ list. IsPermutation list rows) (map_same _ cells out_shows (db tree)) (all_shown tree db sees project order rows a) in
              subst₂ IsPermutation (map-map columns cells (db tree) ∙ map_same _ cells columns_cells (db tree)) (sym is) (IsPermutation-map columns _ _ all);
        };
        only = λ others stores. sym (is ∙ ap (map columns) (are_shown rows others a stores) ∙ map-map columns shown others ∙ map_same _ shown columns_shown others);
      }
