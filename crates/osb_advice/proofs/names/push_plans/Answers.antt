use Rattle.std.proofs.Common.{◌++◌, string_bytes, ap, sym, ◌∙◌}
use Rattle.serde_json.specs.View.{items_view}
use Rattle.osb_catalog.specs.declared.field.Field.TheVariants as the
use Rattle.osb_catalog.specs.Fields.{text_at}
use Rattle.osb_catalog.specs.Items.{each}
use Rattle.osb_advice.proofs.NameLemmas.{at_plan, from_empty}
use Rattle.osb_advice.proofs.Pushed.{go_on}
use Rattle.osb_advice.proofs.names.push_plans.Goals as goal

pub loop-at-init : goal.loop-at-init
loop-at-init c = ap (λ lines. string_bytes c.args.text.now ++ lines) (from_empty c.new-seen.result c.new-seen.ensures.empty c.args.number (each (text_at the.Name) (items_view c.args.plans.now)))

pub loop-at-preserved : goal.loop-at-preserved
loop-at-preserved c =
    let step = at_plan c.args.number c.loop-at.at c.args.plans.now c.index-plans-at.result c.loop-at.seen c.insert.new.self c.text_at.result c.in_ok-is_new.is_new c.loop-at-test.true c.index-plans-at.is c.text_at.ensures c.in_ok-is_new.ensures.updates c.in_ok-is_new.ensures.added in
    go_on _ _ _ _ _ c.in_ok-push_unless_new.ensures (ap (λ lines. string_bytes c.loop-at.text ++ lines) (sym step) ∙ c.loop-at.invariant)
