-- Why there is no broker.
use Rattle.osb_catalog.specs.Rules.{Rules}
use Rattle.osb_broker.specs.declared.fault.NewFault.{NewFault}
use Rattle.osb_broker.specs.declared.fault.NewFault.TheVariants.{PlanInUse, Refused}
use Rattle.osb_broker.specs.Plans as plans
use Rattle.osb_listen.specs.Listen.{listen_fault_of}
use Rattle.osb_listen.specs.Inside.{IsOfDatabase}

-- such a fault is one of a database
pub of_database : (rules : Rules) (fault : NewFault) → plans.NamesLacking rules fault → IsOfDatabase rules (listen_fault_of fault)
of_database rules (PlanInUse service plan) lacks = lacks
of_database rules Refused lacks = tt
