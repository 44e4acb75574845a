use Rattle.std.proofs.Common.{rules, ◌≡◌, ◌∷◌, [], codes}
use Rattle.std.specs.List.{concat}
use Rattle.osb_cli.specs.Lines.{descriptors_line}
use Rattle.osb_cli.proofs.LineLemmas.{as_line}
use Rattle.osb_cli.proofs.fault.print_descriptors.Goals as goal

pub returns : goal.returns
returns g c =
    let is : concat (codes "osb-broker: too few descriptors: " ∷ c.format.result.now ∷ codes " needed, " ∷ c.format-2.result.now ∷ codes " allowed\n" ∷ []) ≡ descriptors_line c.args.needed c.args.allowed = search rules in
    as_line _ _ _ _ _ _ is c.say.ensures
