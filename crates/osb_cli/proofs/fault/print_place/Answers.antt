use Rattle.std.proofs.Common.{rules, ◌≡◌, ◌∷◌, [], codes}
use Rattle.std.specs.List.{concat}
use Rattle.osb_cli.specs.Lines.{place_line}
use Rattle.osb_cli.proofs.LineLemmas.{as_line}
use Rattle.osb_cli.proofs.fault.print_place.Goals as goal

pub returns-in-Service : goal.returns-in-Service
returns-in-Service g c =
    let is : concat (codes "at catalog.services[" ∷ c.format.result.now ∷ codes "]\n" ∷ []) ≡ place_line c.args.place.now = search rules in
    as_line _ _ _ _ _ _ is c.say-in-Service.ensures

pub returns-in-Plan : goal.returns-in-Plan
returns-in-Plan g c =
    let is : concat (codes "at catalog.services[" ∷ c.format-in-Plan.result.now ∷ codes "].plans[" ∷ c.format-in-Plan-2.result.now ∷ codes "]\n" ∷ []) ≡ place_line c.args.place.now = search rules in
    as_line _ _ _ _ _ _ is c.say-in-Plan.ensures

pub returns-in-Mode : goal.returns-in-Mode
returns-in-Mode g c =
    let is : concat (codes "at modes." ∷ c.shown.result.now ∷ codes "\n" ∷ []) ≡ place_line c.args.place.now = search rules in
    as_line _ _ _ _ _ _ is c.say-in-Mode.ensures
