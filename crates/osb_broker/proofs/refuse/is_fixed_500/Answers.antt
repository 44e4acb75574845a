use Rattle.std.proofs.Common.{◌≡◌, ◌∙◌, sym, true, false}
use Rattle.std.proofs.lemmas.Slice.Eq.{bytes_eq-Decides}
use Rattle.std.specs.Fmt.{digits}
use Rattle.osb_replies.specs.Text.{reply_text}
use Rattle.osb_broker.proofs.refuse.is_fixed_500.Goals as goal

pub returns-clause-yes : goal.returns-clause-yes
unfolding reply_text digits
returns-clause-yes c is = (bytes_eq-Decides c.args.text.now _).0 (sym c.eq.ensures ∙ is)

pub returns-clause-no : goal.returns-clause-no
unfolding reply_text digits
returns-clause-no c is same =
    let bad : true ≡ false = sym ((bytes_eq-Decides c.args.text.now _).1 same) ∙ sym c.eq.ensures ∙ is in cc
