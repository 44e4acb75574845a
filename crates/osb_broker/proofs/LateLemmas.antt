-- An answer of want of memory isn't to a request whose answer takes none.
use Rattle.std.proofs.Common.{◌≡◌, Bool, true, false, Result, Err, sym, ap, refl, ◌∙◌}
use Rattle.std.proofs.lemmas.Bool.{true≢false}
use Rattle.osb_asks.specs.declared.ask.Ask.{Ask}
use Rattle.osb_asks.specs.declared.ask_fault.AskFault.{AskFault}
use Rattle.osb_asks.specs.declared.ask_fault.AskFault.TheVariants.{Memory}
use Rattle.osb_asks.specs.Asks.{is_early}

pub not_early : (r found : Result Ask AskFault) → (is_early found ≡ true → r ≡ found) → r ≡ Err Memory → is_early found ≡ false
not_early r found early is = by (is_early found) refl
  where
    by : (b : Bool) → is_early found ≡ b → b ≡ false
    by true e = absurd (true≢false (sym e ∙ ap is_early (sym (early e) ∙ is)))
    by false e = refl
