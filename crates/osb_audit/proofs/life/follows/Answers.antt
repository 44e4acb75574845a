use Rattle.std.proofs.Common.{◌≡◌, ◌∙◌, sym, ap, is_none, option_copied, Some}
use Rattle.osb_standing.specs.Rows.{row_of, standing_in}
use Rattle.osb_standing.specs.Laws.{count_in}
use Rattle.osb_standing.proofs.ReadLemmas.{count_is}
use Rattle.osb_audit.proofs.LifeLemmas.{busy_in, busy_is, absent_is, none_is}
use Rattle.osb_audit.proofs.life.follows.Goals as goal

pub returns-in-Some : goal.returns-in-Some
returns-in-Some c = λ before life row.
    let now : option_copied c.args.row ≡ Some c.in-Some.row.now = ap option_copied c.in-Some.is in
    let shown : Some c.in-Some.row.now ≡ row_of before = sym now ∙ row in
    c.is_next-in-Some.ensures before
    (ap count_in shown ∙ count_is before life)
    (ap busy_in shown ∙ busy_is before)
    (none_is c.in-Some.row.now.standing c.is_none.result c.is_none.ensures ∙ ap (λ found. is_none (standing_in found)) shown ∙ absent_is before)
