-- The plans that trimmed lives have in use.
use Rattle.std.proofs.Common.{◌≡◌, ℕ, false, cond, ◌&&◌, List, [], ◌∷◌, ◌++◌, map, filter, flat_map, Option, Some, option_to_list, sym, ◌∙◌, ap, inl, inr}
use Rattle.std.proofs.Math.Bool.{and-false}
use Rattle.std.proofs.lemmas.List.Folds.{flat_map-map}
use Rattle.std.specs.FinMap.{entries}
use Rattle.osb_orders.specs.declared.order.OrderKind.TheVariants.{Update}
use Rattle.osb_orders.specs.declared.order.OrderState.TheVariants.{Running}
use Rattle.osb_orders.specs.declared.order.Order.{Order}
use Rattle.osb_orders.specs.declared.view.Standing.{Standing}
use Rattle.osb_orders.specs.Lists.{last_of}
use Rattle.osb_orders.specs.Orders.{is_a, is_now}
use Rattle.osb_orders.specs.Life.{Life, standing_since}
use Rattle.osb_audit.specs.Plans.{Pair, pair_in, is_running_update, pairs_of, in_order, plans_in_use}
use Rattle.osb_trim.specs.Trimmed.{erased, trimmed, trimmed_instance, trimmed_lives}
use Rattle.osb_orders.specs.Lives.{Lives}
use Rattle.osb_trim.proofs.LifeLemmas.{birth-trimmed}
use Rattle.osb_trim.proofs.LivesLemmas.{entries-trimmed}
use Rattle.osb_trim.proofs.ViewLemmas.{LastOrGone, last_or_gone, not_running}

-- that of an update that runs
abbrev updating : Option Order → List Pair
updating last = map (λ (order : Order). pair_in order.attributes) (filter is_running_update (option_to_list last))

ended : (order : Order) → is_now Running order ≡ false → updating (Some order) ≡ []
ended order e = ap (λ runs. map (λ (order : Order). pair_in order.attributes) (cond (is_a Update order && runs) (order ∷ []) [])) e ∙ ap (λ here. map (λ (order : Order). pair_in order.attributes) (cond here (order ∷ []) [])) (and-false (is_a Update order))

updating-trimmed : (life : Life) → LastOrGone life → updating (last_of (trimmed life)) ≡ updating (last_of life)
updating-trimmed life (inl same) = ap updating same
updating-trimmed life (inr gone) =
    let ends = not_running gone.order gone.deletion in
    ap updating gone.left ∙ ended (erased gone.order) ends ∙ sym (ended gone.order ends) ∙ ap updating (sym gone.last)

pairs_of-trimmed : (life : Life) → pairs_of (trimmed life) ≡ pairs_of life
pairs_of-trimmed life = λ i. map (λ (standing : Standing). pair_in standing.attributes) (option_to_list (standing_since (birth-trimmed life i))) ++ updating-trimmed life (last_or_gone life) i

pub plans_stay : (lives : Lives) → plans_in_use (trimmed_lives lives) ≡ plans_in_use lives
plans_stay lives =
    ap (λ es. in_order (flat_map (λ (entry : List ℕ × Life). pairs_of entry.1) es)) (entries-trimmed lives)
    ∙ ap in_order (flat_map-map (λ (entry : List ℕ × Life). pairs_of entry.1) trimmed_instance (entries lives))
    ∙ (λ i. in_order (flat_map (λ (entry : List ℕ × Life). pairs_of-trimmed entry.1 i) (entries lives)))
