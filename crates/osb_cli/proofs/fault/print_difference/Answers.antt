use Rattle.std.proofs.Common.{rules, ◌≡◌, ◌∷◌, [], codes}
use Rattle.std.specs.List.{concat}
use Rattle.osb_cli.specs.Lines.{difference_line}
use Rattle.osb_cli.proofs.LineLemmas.{as_line}
use Rattle.osb_cli.proofs.fault.print_difference.Goals as goal

pub returns-in-TableMore : goal.returns-in-TableMore
returns-in-TableMore g c =
    let is : concat (codes "a table more: " ∷ c.shown.result.now ∷ codes "\n" ∷ []) ≡ difference_line c.args.difference.now = search rules in
    as_line _ _ _ _ _ _ is c.say-in-TableMore.ensures

pub returns-in-IndexMore : goal.returns-in-IndexMore
returns-in-IndexMore g c =
    let is : concat (codes "an index more: " ∷ c.shown-in-IndexMore.result.now ∷ codes "\n" ∷ []) ≡ difference_line c.args.difference.now = search rules in
    as_line _ _ _ _ _ _ is c.say-in-IndexMore.ensures

pub returns-in-ViewMore : goal.returns-in-ViewMore
returns-in-ViewMore g c =
    let is : concat (codes "a view more: " ∷ c.shown-in-ViewMore.result.now ∷ codes "\n" ∷ []) ≡ difference_line c.args.difference.now = search rules in
    as_line _ _ _ _ _ _ is c.say-in-ViewMore.ensures

pub returns-in-Rows : goal.returns-in-Rows
returns-in-Rows g c =
    let is : concat (codes "rows that don't fit\n" ∷ []) ≡ difference_line c.args.difference.now = search rules in
    as_line _ _ _ _ _ _ is c.say-in-Rows.ensures
