-- Faults of settings, from those of one text to those of the texts that the words name.
use Rattle.std.proofs.Common.{◌≡◌, ◌≤◌, ℕ, List, Result, Ok, Err, OnOk, IfErr, IsErrAnd, sym, subst, arith}
use Rattle.osb_cli.specs.declared.fault.Fault.{Fault}
use Rattle.osb_cli.specs.declared.fault.Fault.TheVariants as the
use Rattle.osb_cli.specs.declared.fault.Unserved.{Unserved}
use Rattle.osb_cli.specs.declared.fault.Unserved.TheVariants as served
use Rattle.osb_cli.specs.Files.{Contents}
use Rattle.osb_cli.specs.Inside.{IsOther, IsOtherUnserved}
use Rattle.osb_cli.specs.Reported.{IsOfText, IsReported, IsSettingsText, IsUnservedOf, Reports}
use Rattle.osb_cli.specs.Words.{FoundCommand}

module _ (A B : List ℕ → Type 0) (more : (text : List ℕ) → A text → B text) where
  pub of_more : (fault : Fault) → IsOfText A fault → IsOfText B fault
  of_more (the.Settings fault) has = (has.0, more has.0 has.1, has.2)
  of_more (the.Placed fault place) has = ((has.0.0, more has.0.0 has.0.1, has.0.2), (has.1.0, more has.1.0 has.1.1, has.1.2))
  of_more (the.Unreadable reason) has = ((has.0.0, more has.0.0 has.0.1, has.0.2), (has.1.0, more has.1.0 has.1.1, has.1.2))
  of_more (the.CannotRead name) has = tt
  of_more (the.TooLarge name) has = tt
  of_more the.OutOfMemory has = tt
  of_more (the.Database fault) has = tt
  of_more the.CannotWrite has = tt
  of_more (the.CannotListen address) has = tt
  of_more (the.Unbound address cause) has = tt
  of_more the.CannotAccept has = tt
  of_more (the.NoAddress text) has = tt
  of_more (the.NotReady address) has = tt
  of_more (the.TooFewDescriptors needed allowed) has = tt
  of_more (the.Words text) has = tt
  of_more (the.Unseen cause) has = tt
  of_more (the.Differs difference) has = tt
  of_more (the.IsThere name) has = tt
  of_more (the.DraftIsThere name) has = tt
  of_more (the.CannotMake name) has = tt

  pub unserved_more : (fault : Unserved) → IsUnservedOf A fault → IsUnservedOf B fault
  unserved_more (served.Fault fault) has = of_more fault has
  unserved_more (served.PlanInUse service plan) has = tt

  -- the fault of a command is that of what it did
  pub of_command : {X Y : Type 0} (done : Result X Fault) (told : Result Y Unserved) → IfErr told (λ it. IsErrAnd done (λ fault. it ≡ served.Fault fault)) → IfErr done (IsOfText A) → IfErr told (IsUnservedOf B)
  of_command done (Ok y) same has = tt
  of_command (Ok x) (Err it) same has = absurd same
  of_command (Err fault) (Err it) same has = subst (λ other. IsUnservedOf B other) (sym same) (of_more fault has)

pub other_text : (A : List ℕ → Type 0) (fault : Fault) → IsOther fault → IsOfText A fault
other_text A (the.Settings fault) is = absurd is
other_text A (the.Placed fault place) is = absurd is
other_text A (the.Unreadable reason) is = absurd is
other_text A (the.CannotRead name) is = tt
other_text A (the.TooLarge name) is = tt
other_text A the.OutOfMemory is = tt
other_text A (the.Database fault) is = tt
other_text A the.CannotWrite is = tt
other_text A (the.CannotListen address) is = tt
other_text A (the.Unbound address cause) is = tt
other_text A the.CannotAccept is = tt
other_text A (the.NoAddress text) is = tt
other_text A (the.NotReady address) is = tt
other_text A (the.TooFewDescriptors needed allowed) is = tt
other_text A (the.Words text) is = tt
other_text A (the.Unseen cause) is = tt
other_text A (the.Differs difference) is = tt
other_text A (the.IsThere name) is = tt
other_text A (the.DraftIsThere name) is = tt
other_text A (the.CannotMake name) is = tt

pub other_unserved : (A : List ℕ → Type 0) (told : Unserved) → IsOtherUnserved told → IsUnservedOf A told
other_unserved A (served.Fault fault) is = other_text A fault is
other_unserved A (served.PlanInUse service plan) is = tt

-- a status other than 0 is that of a fault
pub reports_of : {X : Type 0} (contents : Contents) (found : FoundCommand) (done : Result X Unserved) (status : ℕ) (old new : List ℕ) (failed_old failed_new : ℕ) → OnOk done (status ≡ 0) → 1 ≤ status
    → IfErr done (IsUnservedOf (IsSettingsText contents found)) → IfErr done (λ fault. IsReported fault status old new failed_old failed_new) → Reports contents found status old new failed_old failed_new
reports_of contents found (Ok x) status old new failed_old failed_new zero some has reported = absurd (omega (arith, some, zero))
reports_of contents found (Err fault) status old new failed_old failed_new zero some has reported = record { fault = fault; has = has; reported = reported }
