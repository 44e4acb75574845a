-- The fault of a database file, by the cause that was found.
use Rattle.std.specs.Prelude.{ℕ, List, codes}
use Rattle.osb_statements.specs.declared.fault.StoreFault.{StoreFault}
use Rattle.osb_statements.specs.declared.fault.StoreFault.TheVariants as store
use Rattle.osb_file.specs.declared.fault.FileFault.{FileFault}
use Rattle.osb_file.specs.declared.fault.FileFault.TheVariants.{Refused, NotOurs, Missing}
use Rattle.osb_file.specs.declared.unseen.Unseen.{Unseen}
use Rattle.osb_file.specs.declared.unseen.Unseen.TheVariants as unseen

-- the fault of a file whose records can't be taken over
abbrev pub file_fault_of : StoreFault → FileFault
file_fault_of (store.Refused cause) = Refused
file_fault_of store.NotOurs = NotOurs

-- the fault that the opening of such a file answers
abbrev pub unseen_fault_of : Unseen → FileFault
unseen_fault_of unseen.NotOurs = NotOurs
unseen_fault_of unseen.NoTables = Missing
unseen_fault_of _ = Refused

-- the cause in words
abbrev pub unseen_text : Unseen → List ℕ
unseen_text unseen.NoFile = codes "no such file"
unseen_text unseen.NoFolder = codes "no such folder"
unseen_text unseen.DeadLink = codes "a link that leads nowhere"
unseen_text unseen.LongName = codes "its name is too long"
unseen_text unseen.ShutFolder = codes "its folder can't be written to"
unseen_text unseen.ReadOnlyDisk = codes "a read-only file system"
unseen_text unseen.DiskFull = codes "disk full"
unseen_text unseen.LogOnly = codes "a log without its file"
unseen_text unseen.Folder = codes "a folder"
unseen_text unseen.NotRegular = codes "no regular file"
unseen_text unseen.TwoNames = codes "it has two names"
unseen_text unseen.CannotRead = codes "it can't be read"
unseen_text unseen.NotOwned = codes "it belongs to another user"
unseen_text unseen.ReadOnly = codes "it can't be written to"
unseen_text unseen.Journal = codes "a journal lies beside it"
unseen_text unseen.InUse = codes "in use"
unseen_text unseen.TakenAway = codes "it was taken away"
unseen_text unseen.NoDatabase = codes "no database"
unseen_text unseen.Damaged = codes "damaged"
unseen_text unseen.Row = codes "a row that can't be read"
unseen_text unseen.Memory = codes "out of memory"
unseen_text unseen.NotOurs = codes "a database of another program"
unseen_text unseen.NoTables = codes "no tables yet"
