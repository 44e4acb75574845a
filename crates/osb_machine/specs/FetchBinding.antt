-- What a binding is (OSB API 2.17, "Fetching a Service Binding"; that only a bound one is found is this project's own).
use Rattle.std.specs.Prelude.{Option}
use Rattle.std.specs.Option.{option_map_or}
use Rattle.osb_replies.specs.declared.status.Status.TheVariants as status
use Rattle.osb_orders.specs.declared.view.BindingPhase.{BindingPhase}
use Rattle.osb_orders.specs.declared.view.BindingPhase.TheVariants.{Bound}
use Rattle.osb_orders.specs.declared.view.BindingNow.{BindingNow}
use Rattle.osb_machine.specs.Decision.{Decision, says, not_found}
use Rattle.osb_machine.specs.Texts.{binding_body}

abbrev pub fetch_binding_over : BindingPhase → BindingNow → Decision
fetch_binding_over Bound binding = says status.Ok (binding_body binding)
fetch_binding_over _ binding = not_found

abbrev pub fetch_binding : Option BindingNow → Decision
fetch_binding found = option_map_or (λ there. fetch_binding_over there.phase there) found not_found
