-- No answer rests on what trimming erases.
use Rattle.std.specs.Prelude.{◌≡◌, List, [], ◌∷◌}
use Rattle.osb_catalog.specs.Rules.{Rules}
use Rattle.osb_asks.specs.declared.ask.Ask.{Ask}
use Rattle.osb_orders.specs.Lives.{Lives}
use Rattle.osb_orders.specs.IsLife.{IsLives}
use Rattle.osb_audit.specs.Plans.{plans_in_use}
use Rattle.osb_machine.specs.Decision.{Decision}
use Rattle.osb_machine.specs.Machine.{answer_to, after_step}
use Rattle.osb_trim.specs.Trimmed.{trimmed_lives}

-- the lives differ in nothing but what trimming erases
abbrev pub AreAlike : Lives → Lives → Type 0
AreAlike lives others = trimmed_lives lives ≡ trimmed_lives others

-- ---- one ask

-- the status, the body and the change are the same, whatever is asked of whatever lives
abbrev pub AnswerStays : Type 0
AnswerStays = (rules : Rules) (lives : Lives) (ask : Ask) →
    answer_to rules (trimmed_lives lives) ask ≡ answer_to rules lives ask

-- and the lives after it are alike
abbrev pub StepStays : Type 0
StepStays = (rules : Rules) (lives : Lives) (ask : Ask) → IsLives lives →
    AreAlike (after_step rules (trimmed_lives lives) ask) (after_step rules lives ask)

-- ---- asks, one after the other

abbrev pub answers_to : Rules → Lives → List Ask → List Decision
answers_to rules lives [] = []
answers_to rules lives (ask ∷ asks) =
    answer_to rules lives ask ∷ answers_to rules (after_step rules lives ask) asks

abbrev pub AnswersStay : Type 0
AnswersStay = (rules : Rules) (lives : Lives) (asks : List Ask) → IsLives lives →
    answers_to rules (trimmed_lives lives) asks ≡ answers_to rules lives asks

-- ---- a start

-- the catalog has to have the same plans
abbrev pub PlansStay : Type 0
PlansStay = (lives : Lives) → plans_in_use (trimmed_lives lives) ≡ plans_in_use lives
