-- Which faults come before there is a broker, and which then. For contracts inside the crate.
use Rattle.std.specs.Prelude.{◌≡◌, None, ⊤}
use Rattle.osb_catalog.specs.Rules.{Rules}
use Rattle.osb_listen.specs.declared.fault.ListenFault.{ListenFault}
use Rattle.osb_listen.specs.declared.fault.ListenFault.TheVariants.{Database, PlanInUse, Memory, CannotListen, CannotWrite, CannotAccept, FileTaken}

-- the faults of a database; a pair that is named as in use is one that the catalog lacks
abbrev pub IsOfDatabase : Rules → ListenFault → Type 0
IsOfDatabase rules (Database fault) = ⊤
IsOfDatabase rules (PlanInUse service plan) = rules.plan service plan ≡ None
IsOfDatabase rules Memory = ⊥
IsOfDatabase rules CannotListen = ⊥
IsOfDatabase rules CannotWrite = ⊥
IsOfDatabase rules CannotAccept = ⊥
IsOfDatabase rules FileTaken = ⊥

-- the faults that come once there is a broker
abbrev pub IsOfAddress : ListenFault → Type 0
IsOfAddress (Database fault) = ⊥
IsOfAddress (PlanInUse service plan) = ⊥
IsOfAddress Memory = ⊤
IsOfAddress CannotListen = ⊤
IsOfAddress CannotWrite = ⊤
IsOfAddress CannotAccept = ⊤
IsOfAddress FileTaken = ⊤
