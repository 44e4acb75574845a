-- What a reader of a request answers: what is found, or the first fault, unless memory was refused.
use Rattle.std.specs.Prelude.{◌≡◌, ◌≢◌, Option, ok_or, Result, Ok, Err}
use Rattle.osb_asks.specs.declared.ask_fault.AskFault.{AskFault}
use Rattle.osb_asks.specs.declared.ask_fault.AskFault.TheVariants.{Memory}

-- what was returned is what is found, unless memory was refused
abbrev pub Meets : {X : Type 0} → Result X AskFault → Result X AskFault → Type 0
Meets (Ok x) found = found ≡ Ok x
Meets (Err fault) found = fault ≢ Memory → found ≡ Err fault

-- the first fault counts
infixl 10 ◌>>=◌
abbrev pub ◌>>=◌ : {A B : Type 0} → Result A AskFault → (A → Result B AskFault) → Result B AskFault
(Ok x) >>= f = f x
(Err fault) >>= f = Err fault

-- what is there, or the fault
abbrev pub needed : {A : Type 0} → AskFault → Option A → Result A AskFault
needed fault found = ok_or found fault
