use Rattle.std.proofs.Common.{rules, ◌≡◌, ◌∷◌, [], codes, subst, sym}
use Rattle.std.specs.List.{concat}
use Rattle.osb_file.specs.Faults.{unseen_fault_of, unseen_text}
use Rattle.osb_listen.specs.Lines.{Says}
use Rattle.osb_cli.specs.Lines.{database_fault_line, unseen_lines}
use Rattle.osb_cli.proofs.LineLemmas.{as_line, two_lines}
use Rattle.osb_cli.proofs.fault.print_unseen.Goals as goal

pub returns-then-ne : goal.returns-then-ne
returns-then-ne g c =
    let fault = database_fault_line (unseen_fault_of c.args.unseen) in
    let cause = concat (unseen_text c.args.unseen ∷ codes "\n" ∷ []) in
    let lines : unseen_lines c.args.unseen ≡ fault ∷ cause ∷ [] = search rules in
    let one : database_fault_line c.fault.result ≡ fault = search rules in
    let two : concat (c.text.result.now ∷ codes "\n" ∷ []) ≡ cause = search rules in
    subst (λ it. Says it (g.E.Sink.taken c.args.errors.now) (g.E.Sink.taken c.say.new.errors) (g.E.Sink.failed_or_empty c.args.errors.now) (g.E.Sink.failed_or_empty c.say.new.errors)) (sym lines)
    (two_lines _ _ _ _ _ _ _ _ (as_line _ _ _ _ _ _ one c.print_database_fault.ensures) (as_line _ _ _ _ _ _ two c.say.ensures))
