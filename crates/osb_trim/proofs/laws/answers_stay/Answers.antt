use Rattle.std.proofs.Common.{sym}
use Rattle.osb_machine.specs.Machine.{after_step}
use Rattle.osb_trim.specs.Trimmed.{trimmed_lives}
use Rattle.osb_trim.proofs.AnswerLemmas.{answer_stays}
use Rattle.osb_trim.proofs.MatchLemmas.{fronts_of, alike, steps_match, matches_trimmed}
use Rattle.osb_trim.proofs.AskLemmas.{same_answers}
use Rattle.osb_trim.proofs.PlanLemmas.{plans_stay}
use Rattle.osb_trim.proofs.laws.answers_stay.Goals as goal

pub returns-clause-answer : goal.returns-clause-answer
returns-clause-answer c = answer_stays

pub returns-clause-step : goal.returns-clause-step
returns-clause-step c = λ rules lives ask h.
    let fronts = fronts_of lives in
    let after = steps_match fronts rules lives (trimmed_lives lives) ask (matches_trimmed lives h) in
    sym (alike fronts (after_step rules lives ask) (after_step rules (trimmed_lives lives) ask) after)

pub returns-clause-answers : goal.returns-clause-answers
returns-clause-answers c = λ rules lives asks h. sym (same_answers (fronts_of lives) rules lives (trimmed_lives lives) asks (matches_trimmed lives h))

pub returns-clause-plans : goal.returns-clause-plans
returns-clause-plans c = plans_stay
