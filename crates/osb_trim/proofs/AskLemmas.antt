-- Asks, one after the other, from lives that match.
use Rattle.std.proofs.Common.{◌≡◌, List, [], ◌∷◌, refl, ap₂}
use Rattle.osb_catalog.specs.Rules.{Rules}
use Rattle.osb_asks.specs.declared.ask.Ask.{Ask}
use Rattle.osb_orders.specs.Lives.{Lives}
use Rattle.osb_machine.specs.Decision.{Decision}
use Rattle.osb_machine.specs.Machine.{after_step}
use Rattle.osb_trim.specs.Stays.{answers_to}
use Rattle.osb_trim.proofs.MatchLemmas.{Fronts, Matches, answers_match, steps_match}

module _ (fronts : Fronts) (rules : Rules) where
  pub same_answers : (lives others : Lives) (asks : List Ask) → Matches fronts lives others → answers_to rules lives asks ≡ answers_to rules others asks
  same_answers lives others [] h = refl
  same_answers lives others (ask ∷ asks) h =
      ap₂ (λ (decision : Decision) (later : List Decision). decision ∷ later) (answers_match fronts rules lives others ask h)
      (same_answers (after_step rules lives ask) (after_step rules others ask) asks (steps_match fronts rules lives others ask h))
