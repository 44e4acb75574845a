use Rattle.std.proofs.Common.{rules, ◌≡◌, ◌<◌, [], ◌∷◌, codes}
use Rattle.std.specs.List.{concat}
use Rattle.osb_listen.specs.Lines.{refused_line}
use Rattle.osb_listen.proofs.RefusedLemmas.{says_refused}
use Rattle.osb_listen.proofs.refused.report_cause.Goals as goal

pub returns-in_default : goal.returns-in_default
returns-in_default g c =
    let is : concat (codes "request: 500 " ∷ c.words_for-in_default.result.now ∷ codes ", " ∷ c.format.result.now ∷ codes " times\n" ∷ []) ≡ refused_line c.args.cause c.args.count = search rules in
    let some : 0 < c.args.count = search rules in
    says_refused _ _ _ _ _ (record { cause = c.args.cause; count = c.args.count; some = some; is = is }) c.say-in_default.ensures
