-- Which fault comes when, and what was reported before it.
use Rattle.std.specs.Prelude.{◌≡◌, ℕ, List, ◌++◌, codes, None, ⊤}
use Rattle.std.specs.declared.net.socket_addr.SocketAddr.{SocketAddr}
use Rattle.std.specs.Net.Grammar.{IsSocketText}
use Rattle.osb_catalog.specs.Rules.{Rules}
use Rattle.osb_file.specs.declared.fault.FileFault.TheVariants.{Refused}
use Rattle.osb_broker.specs.declared.fault.NewFault.{NewFault}
use Rattle.osb_broker.specs.declared.fault.NewFault.TheVariants as new
use Rattle.osb_listen.specs.declared.fault.ListenFault.{ListenFault}
use Rattle.osb_listen.specs.declared.fault.ListenFault.TheVariants.{Database, PlanInUse, Memory, CannotListen, CannotWrite, CannotAccept, FileTaken}
use Rattle.osb_listen.specs.declared.unbound.Unbound.{Unbound}
use Rattle.osb_listen.specs.declared.unbound.Unbound.TheVariants as unbound
use Rattle.osb_listen.specs.Lines.{IsWrittenInPart}

-- why nothing is served where there is no broker
abbrev pub listen_fault_of : NewFault → ListenFault
listen_fault_of (new.PlanInUse service plan) = PlanInUse service plan
listen_fault_of new.Refused = Database Refused

-- the faults that come while connections are taken
abbrev pub IsOfServing : ListenFault → Type 0
IsOfServing (Database fault) = ⊥
IsOfServing (PlanInUse service plan) = ⊥
IsOfServing Memory = ⊥
IsOfServing CannotListen = ⊥
IsOfServing CannotWrite = ⊥
IsOfServing CannotAccept = ⊤
IsOfServing FileTaken = ⊤

-- a pair that is named as in use is one that the catalog lacks
abbrev pub NamesLackingPlan : Rules → ListenFault → Type 0
NamesLackingPlan rules (Database fault) = ⊤
NamesLackingPlan rules (PlanInUse service plan) = rules.plan service plan ≡ None
NamesLackingPlan rules Memory = ⊤
NamesLackingPlan rules CannotListen = ⊤
NamesLackingPlan rules CannotWrite = ⊤
NamesLackingPlan rules CannotAccept = ⊤
NamesLackingPlan rules FileTaken = ⊤

-- an IP address and a port
abbrev pub IsAddress : List ℕ → Type 0
IsAddress text = (at : SocketAddr) × IsSocketText text at

-- why connections can't be taken there, in words
abbrev pub unbound_text : Unbound → List ℕ
unbound_text unbound.NoAddress = codes "not an IP address and a port"
unbound_text unbound.NoRight = codes "no right to this port"
unbound_text unbound.InUse = codes "in use"
unbound_text unbound.NotHere = codes "not an address of this machine"

-- the line that reports that connections are taken
abbrev pub listening_line : List ℕ → List ℕ
listening_line address = codes "listening on " ++ (address ++ codes "\n")

-- what was written of that line before the fault: nothing, a part of it, or all
abbrev pub WroteLine : ListenFault → List ℕ → List ℕ → List ℕ → Type 0
WroteLine (Database fault) line old new = new ≡ old
WroteLine (PlanInUse service plan) line old new = new ≡ old
WroteLine Memory line old new = new ≡ old
WroteLine CannotListen line old new = new ≡ old
WroteLine CannotWrite line old new = IsWrittenInPart line old new
WroteLine CannotAccept line old new = new ≡ old ++ line
WroteLine FileTaken line old new = new ≡ old ++ line
