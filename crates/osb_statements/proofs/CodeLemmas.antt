-- The numbers that stand for kinds, states and phases have 32 bits.
use Rattle.std.proofs.Common.{◌<◌, ◌^◌, Bool, true, false, Option, None, Some, arith}
use Rattle.osb_orders.specs.declared.order.OrderKind.{OrderKind}
use Rattle.osb_orders.specs.declared.order.OrderKind.TheVariants.{Create, Update, Delete, Bind, Unbind}
use Rattle.osb_orders.specs.declared.order.OrderState.{OrderState}
use Rattle.osb_orders.specs.declared.order.OrderState.TheVariants.{Running, Succeeded, Failed}
use Rattle.osb_orders.specs.declared.view.InstancePhase.{InstancePhase}
use Rattle.osb_orders.specs.declared.view.InstancePhase.TheVariants as phases
use Rattle.osb_orders.specs.declared.view.BindingPhase.{BindingPhase}
use Rattle.osb_orders.specs.declared.view.BindingPhase.TheVariants as bound
use Rattle.osb_orders.specs.declared.view.Standing.{Standing}
use Rattle.osb_orders.specs.Orders.{kind_number, state_number}
use Rattle.osb_statements.specs.Bindings.{binding_phase_number}
use Rattle.osb_statements.specs.Instances.{busy_number, instance_phase_number, standing_number}

pub kind_fits : (kind : OrderKind) → kind_number kind < 2 ^ 32
kind_fits Create = omega arith
kind_fits Update = omega arith
kind_fits Delete = omega arith
kind_fits Bind = omega arith
kind_fits Unbind = omega arith

pub state_fits : (state : OrderState) → state_number state < 2 ^ 32
state_fits Running = omega arith
state_fits Succeeded = omega arith
state_fits Failed = omega arith

pub busy_fits : (busy : Bool) → busy_number busy < 2 ^ 32
busy_fits true = omega arith
busy_fits false = omega arith

instance_phase_fits : (phase : InstancePhase) → instance_phase_number phase < 2 ^ 32
instance_phase_fits phases.Creating = omega arith
instance_phase_fits phases.Ready = omega arith
instance_phase_fits phases.Failed = omega arith
instance_phase_fits phases.Updating = omega arith
instance_phase_fits phases.Deleting = omega arith

pub standing_fits : (standing : Option Standing) → standing_number standing < 2 ^ 32
standing_fits None = omega arith
standing_fits (Some standing) = instance_phase_fits standing.phase

pub binding_phase_fits : (phase : BindingPhase) → binding_phase_number phase < 2 ^ 32
binding_phase_fits bound.Binding = omega arith
binding_phase_fits bound.Bound = omega arith
binding_phase_fits bound.Failed = omega arith
binding_phase_fits bound.Unbinding = omega arith
