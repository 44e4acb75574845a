-- Lines that are written on standard error.
use Rattle.std.specs.Prelude.{◌≡◌, ◌≤◌, ◌<◌, ◌⊎◌, ◌++◌, ◌==◌, ℕ, List, [], ◌∷◌, codes, decimal, if◌then◌else◌, Result, Ok, Err}
use Rattle.std.specs.List.{concat}
use Rattle.osb_statements.specs.declared.cause.Cause.{Cause}
use Rattle.osb_statements.specs.declared.cause.Cause.TheVariants.{Memory, DiskFull, DiskFailed, Shut, Other}
use Rattle.osb_broker.specs.declared.fault.ServeFault.{ServeFault}
use Rattle.osb_broker.specs.declared.fault.ServeFault.TheVariants.{Read, Write}

-- the text was written up to some byte
pub record IsWrittenInPart (text old new : List ℕ) : Type 0 where
  pub front : List ℕ
  pub rest : List ℕ
  pub parts : front ++ rest ≡ text
  pub written : new ≡ old ++ front

-- texts that were written one after the other, each up to some byte
abbrev pub AreWrittenInPart : List (List ℕ) → List ℕ → List ℕ → Type 0
AreWrittenInPart [] old new = new ≡ old
AreWrittenInPart (text ∷ texts) old new =
    (between : List ℕ) × IsWrittenInPart text old between × AreWrittenInPart texts between new

-- The lines were written, each up to some byte, and whole where no write failed: so many had failed before, and so many
-- have now.
pub record Says (lines : List (List ℕ)) (old new : List ℕ)
    (failed_old failed_new : ℕ) : Type 0 where
  pub in_part : AreWrittenInPart lines old new
  pub later : failed_old ≤ failed_new
  pub whole : failed_new ≡ failed_old → new ≡ old ++ concat lines

-- the line that reports how serving a connection ended
abbrev pub line_of : Result (Unit {0}) ServeFault → List ℕ
line_of (Ok x) = []
line_of (Err Read) = codes "connection: read\n"
line_of (Err Write) = codes "connection: write\n"

abbrev pub cause_words : Cause → List ℕ
cause_words Memory = codes "no memory"
cause_words DiskFull = codes "database: disk full"
cause_words DiskFailed = codes "database: disk failed"
cause_words Shut = codes "database: shut"
cause_words Other = codes "database: refused"

-- the line that reports that so many requests were refused for that cause
abbrev pub refused_line : Cause → ℕ → List ℕ
refused_line cause count =
    if count == 1
    then concat (codes "request: 500 " ∷ cause_words cause ∷ codes "\n" ∷ [])
    else concat (codes "request: 500 " ∷ cause_words cause ∷ codes ", " ∷ decimal count
    ∷ codes " times\n" ∷ [])

pub record IsRefusedLine (line : List ℕ) : Type 0 where
  pub cause : Cause
  pub count : ℕ
  pub some : 0 < count
  pub is : line ≡ refused_line cause count

-- all are these lines, in their order, and lines of requests that were refused
abbrev pub AddsRefused : List (List ℕ) → List (List ℕ) → Type 0
AddsRefused lines [] = lines ≡ []
AddsRefused lines (line ∷ all) =
    (IsRefusedLine line × AddsRefused lines all)
    ⊎ ((rest : List (List ℕ)) × (lines ≡ line ∷ rest) × AddsRefused rest all)

-- These lines were written, and at most lines of requests that were refused beside them.
pub record SaysWithRefused (lines : List (List ℕ)) (old new : List ℕ)
    (failed_old failed_new : ℕ) : Type 0 where
  pub all : List (List ℕ)
  pub adds : AddsRefused lines all
  pub says : Says all old new failed_old failed_new
