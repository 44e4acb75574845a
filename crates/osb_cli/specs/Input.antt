-- Why an input wasn't read. For contracts inside the crate.
use Rattle.std.specs.Prelude.{⊤}
use Rattle.osb_cli.specs.declared.input.ReadFault.{ReadFault}
use Rattle.osb_cli.specs.declared.input.ReadFault.TheVariants.{Failed, TooLarge, Memory}

-- the fault has its cause: a read that failed, or more bytes than the limit
abbrev pub HasReadCause : ReadFault → Type 0 → Type 0 → Type 0
HasReadCause Failed failed large = failed
HasReadCause TooLarge failed large = large
HasReadCause Memory failed large = ⊤
