use Rattle.std.proofs.Common.{Some, None, ap, ◌∙◌}
use Rattle.std.specs.List.{slice_get}
use Rattle.osb_catalog.specs.declared.plan.Service.{Service}
use Rattle.osb_catalog.specs.Rules.{service_named}
use Rattle.osb_catalog.specs.SettingsData.{SettingsData}
use Rattle.osb_catalog.proofs.PlaceLemmas.{item_at, looked_up}
use Rattle.osb_catalog.proofs.settings.Settings.service_named.Goals as goal

pub returns-in-Some-clause-found : goal.returns-in-Some-clause-found
returns-in-Some-clause-found c =
    item_at c.deref.result.now c.in-Some.place c.get-in-Some.result c.get-in-Some.ensures.lookup.3 c.get-in-Some.ensures.lookup.1
    ∙ ap (λ xs. slice_get xs c.in-Some.place) c.deref.ensures.value
    ∙ looked_up (λ (x : Service). x.id) c.args.id.now c.self.inside.services.items (Some c.in-Some.place) (c.in-Some.ensures ∙ c.self.invariant.services c.args.id.now)
    ∙ ap (λ (s : SettingsData). service_named s.services c.args.id.now) c.self.view_is

pub returns-in-None-clause-found : goal.returns-in-None-clause-found
returns-in-None-clause-found c =
    looked_up (λ (x : Service). x.id) c.args.id.now c.self.inside.services.items None (c.in-None.ensures ∙ c.self.invariant.services c.args.id.now)
    ∙ ap (λ (s : SettingsData). service_named s.services c.args.id.now) c.self.view_is
