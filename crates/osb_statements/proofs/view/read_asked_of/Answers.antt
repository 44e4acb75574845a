use Rattle.std.proofs.Common.{option_copied, sym, ap, ◌∙◌}
use Rattle.sqlite.specs.Held.{state}
use Rattle.osb_orders.specs.Lives.{life_of}
use Rattle.osb_statements.specs.Steps.{bare_in}
use Rattle.osb_statements.proofs.NoRowLemmas.{no_binding, no_bindings, no_named, no_subject}
use Rattle.osb_rows.proofs.ResultLemmas.{if_ok}
use Rattle.osb_statements.proofs.view.read_asked_of.Goals as goal

pub returns-in-Some-clause-ok : goal.returns-in-Some-clause-ok
returns-in-Some-clause-ok g c clean = if_ok c.read_asked.result (λ asked is row. is) (c.read_asked.ensures.ok clean)

pub returns-in-None-clause-ok : goal.returns-in-None-clause-ok
returns-in-None-clause-ok g c clean row =
    let life = life_of (bare_in (state g.S.Store c.args.tx.now.conn.now)) c.args.instance.now in
    let ask = c.args.ask.now in
    let none = sym row ∙ ap option_copied c.in-None.is in
    ((sym (no_binding life ask none), sym (no_bindings life none)), (sym (no_named life ask none), sym (no_subject life ask none)))
