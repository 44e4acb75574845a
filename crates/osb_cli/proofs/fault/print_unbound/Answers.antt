use Rattle.std.proofs.Common.{rules, ◌≡◌, ◌∷◌, [], codes}
use Rattle.std.specs.List.{concat}
use Rattle.osb_listen.specs.Listen.{unbound_text}
use Rattle.osb_cli.proofs.LineLemmas.{as_line, two_lines}
use Rattle.osb_cli.proofs.fault.print_unbound.Goals as goal

pub returns : goal.returns
returns g c =
    let cause : concat (c.text.result.now ∷ codes "\n" ∷ []) ≡ concat (unbound_text c.args.cause ∷ codes "\n" ∷ []) = search rules in
    two_lines _ _ _ _ _ _ _ _ c.say.ensures (as_line _ _ _ _ _ _ cause c.say-2.ensures)
