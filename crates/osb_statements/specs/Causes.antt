-- Why the store refused a call, by the error that it met.
use Rattle.std.specs.Prelude.{⊤}
use Rattle.sqlite.specs.declared.error.Error.{Error}
use Rattle.sqlite.specs.declared.error.Error.TheVariants.{SqliteFailure}
use Rattle.sqlite.specs.declared.error.ErrorCode.TheVariants.{OutOfMemory, DiskFull, SystemIoFailure, Closed}
use Rattle.osb_statements.specs.declared.cause.Cause.{Cause}
use Rattle.osb_statements.specs.declared.cause.Cause.TheVariants as causes
use Rattle.osb_statements.specs.declared.fault.StoreFault.{StoreFault}
use Rattle.osb_statements.specs.declared.fault.StoreFault.TheVariants.{Refused, NotOurs}

-- the cause that an error of the store is
abbrev pub cause_of : Error → Cause
cause_of (SqliteFailure OutOfMemory) = causes.Memory
cause_of (SqliteFailure DiskFull) = causes.DiskFull
cause_of (SqliteFailure SystemIoFailure) = causes.DiskFailed
cause_of (SqliteFailure Closed) = causes.Shut
cause_of _ = causes.Other

-- the store refused the call, for some cause
abbrev pub IsRefused : StoreFault → Type 0
IsRefused (Refused cause) = ⊤
IsRefused NotOurs = ⊥
