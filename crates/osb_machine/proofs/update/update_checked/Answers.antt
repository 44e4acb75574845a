use Rattle.std.proofs.Common.{rules, ◌≡◌, ◌∙◌, IfOk, ap, sym, subst, cond}
use Rattle.osb_catalog.specs.Rules.{rules_of}
use Rattle.osb_orders.specs.declared.order.Attributes.{Attributes}
use Rattle.osb_orders.specs.ViewData.{data_in}
use Rattle.osb_machine.specs.Decision.{Decision}
use Rattle.osb_machine.specs.Opened.{is_unlike}
use Rattle.osb_machine.specs.Plans.{catalog_version}
use Rattle.osb_machine.specs.Steps.{decision}
use Rattle.osb_machine.specs.Update.{target, update_running, update_ready}
use Rattle.osb_machine.proofs.UpdateLemmas.{checked_refuses, checked_goes}
use Rattle.osb_machine.proofs.update.update_checked.Goals as goal

pub returns-then-is_unlike : goal.returns-then-is_unlike
returns-then-is_unlike c = c.refuses-then-is_unlike.ensures ∙ sym (checked_refuses (rules_of c.args.settings.now) (data_in c.args.view.now) c.args.ask.now c.args.instance.now _ (search rules) (search rules))

pub returns : goal.returns
returns c =
    let settled = rules_of c.args.settings.now in
    let facts = data_in c.args.view.now in
    let by : Attributes → Decision = λ aim. cond c.args.updating (update_running facts c.args.ask.now aim) (update_ready settled facts c.args.ask.now c.args.instance.now aim) in
    let unlike = c.is_unlike.ensures ∙ ap (is_unlike c.args.ask.now.maintenance) (c.catalog_version-version.ensures ∙ (λ i. catalog_version settled (c.as_str-3.ensures i) (c.target_plan-plan.ensures i))) in
    subst (λ (next : Decision). IfOk c.update_by.result (λ step. decision step ≡ next)) (sym (checked_goes settled facts c.args.ask.now c.args.instance.now (by (target settled c.args.instance.now c.args.ask.now)) (search rules) (sym unlike ∙ c.if-is_unlike.false)))
    (subst (λ (aim : Attributes). IfOk c.update_by.result (λ step. decision step ≡ by aim)) c.in_ok-target.ensures c.update_by.ensures)
