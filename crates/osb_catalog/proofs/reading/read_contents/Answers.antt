use Rattle.std.proofs.Common.{sym, ap, ◌∙◌, map}
use Rattle.serde_json.specs.View.{view, items_view}
use Rattle.osb_catalog.specs.declared.plan.Plan.{Plan}
use Rattle.osb_catalog.specs.declared.plan.Service.{Service}
use Rattle.osb_catalog.specs.IdSet.{texts}
use Rattle.osb_catalog.specs.Items.{each, all_of_each}
use Rattle.osb_catalog.specs.Contents.{service_of, plans_of_service}
use Rattle.osb_catalog.proofs.PlaceLemmas.{places_of}
use Rattle.osb_catalog.proofs.Soundness.{parts_are, service_ids, all_plan_ids}
use Rattle.osb_catalog.proofs.reading.read_contents.Goals as goal

pub invariant_of-result : goal.invariant_of-result
invariant_of-result c =
    let file = view c.args.file.now in
    let items = items_view c.services_of-services.result.now in
    record {
      sound = parts_are file _ c.requires.readable c.requires.faultless
          c.in_ok-catalog_text.ensures
          (c.in_ok-read_services.ensures ∙ ap (each service_of) c.services_of-services.ensures.found)
          (c.in_ok-read_plans.ensures ∙ ap (all_of_each (plans_of_service file)) c.services_of-services.ensures.found)
          c.read_order_limit.ensures
          c.in_ok-tokens_at.ensures
          c.in_ok-tokens_at-2.ensures;
      services = places_of (λ (s : Service). s.id) c.in_ok-new.field-0 (texts c.as_slice.result.now) c.in_ok-read_services.field-0.items c.in_ok-new.ensures
          (ap texts c.as_slice.ensures.value ∙ c.in_ok-service_ids.ensures ∙ sym (service_ids items) ∙ ap (map (λ (s : Service). s.id)) (sym c.in_ok-read_services.ensures));
      plans = places_of (λ (p : Plan). p.id) c.in_ok-new-2.field-0 (texts c.as_slice-2.result.now) c.in_ok-read_plans.field-0.items c.in_ok-new-2.ensures
          (ap texts c.as_slice-2.ensures.value ∙ c.in_ok-plan_ids.ensures ∙ sym (all_plan_ids file items) ∙ ap (map (λ (p : Plan). p.id)) (sym c.in_ok-read_plans.ensures));
    }
