use Rattle.std.proofs.Common.{option_copied, option_and_then, sym, ap, ◌∙◌}
use Rattle.std.specs.FinMap.{get}
use Rattle.sqlite.specs.Held.{state}
use Rattle.osb_orders.specs.Lives.{life_of}
use Rattle.osb_standing.specs.Rows.{bindings_of}
use Rattle.osb_statements.specs.BindingRows.{binding_found}
use Rattle.osb_statements.specs.Stored.{bindings_in}
use Rattle.osb_statements.specs.Steps.{bare_in}
use Rattle.osb_statements.proofs.EditLemmas.{found_row}
use Rattle.osb_rows.proofs.ResultLemmas.{if_ok}
use Rattle.osb_statements.proofs.view.read_binding_for.Goals as goal
use Rattle.osb_contexts.proofs.StepLemmas.{clean_before}

pub returns-in-Some-clause-ok : goal.returns-in-Some-clause-ok
returns-in-Some-clause-ok g c clean live =
    let old = state g.S.Store c.args.tx.now.conn.now in
    let new = state g.S.Store c.read_binding.new.tx.conn.now in
    let id = c.args.instance.now in
    let binding = c.in-Some.binding.now in
    let life = life_of (bare_in old) id in
    let bindings = bindings_in old.now.trees in
    let stands = (c.requires (clean_before old new _ c.read_binding.ensures.reads.survives clean) live).standing.bindings id in
    let named = sym c.binding.ensures ∙ ap option_copied c.in-Some.is in
    if_ok c.read_binding.result (λ row is. is ∙ ap (λ b. binding_found id b bindings) c.as_str.ensures.value ∙ found_row id binding life bindings stands ∙ ap (option_and_then (λ b. get (bindings_of life) b)) (sym named)) (c.read_binding.ensures.ok clean)
