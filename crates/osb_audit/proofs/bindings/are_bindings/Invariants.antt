use Rattle.std.proofs.Common.{◌≡◌, map}
use Rattle.std.specs.Prelude.{◌↔◌}
use Rattle.osb_audit.specs.Bindings.{binding_entry}
use Rattle.osb_audit.proofs.bindings.are_bindings.Given as goal

abbrev pub invariant-loop-id : goal.invariant-loop-id
invariant-loop-id l = (l.left ≡ map (binding_entry l.instance) l.id-iterator) ↔ (l.bound ≡ map (binding_entry l.instance) l.bindings.entries)
