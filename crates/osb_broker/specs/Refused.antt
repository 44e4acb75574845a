-- Why a request is refused (this project's own).
use Rattle.osb_statements.specs.declared.cause.Cause.{Cause}
use Rattle.osb_statements.specs.declared.cause.Cause.TheVariants.{Other}
use Rattle.osb_statements.specs.declared.fault.StoreFault.{StoreFault}
use Rattle.osb_statements.specs.declared.fault.StoreFault.TheVariants.{Refused, NotOurs}

-- that of the store; a database that isn't ours is met only where one is opened
abbrev pub cause_of_fault : StoreFault → Cause
cause_of_fault (Refused cause) = cause
cause_of_fault NotOurs = Other
