-- What is refused isn't early.
use Rattle.std.proofs.Common.{◌≡◌, Bool, true, false, Option, None, refl}

pub late : {A : Type 0} (early : Bool) (pending : Option A) → (early ≡ true → pending ≡ None) → ¬ (pending ≡ None) → early ≡ false
late true pending quiet some = absurd (some (quiet refl))
late false pending quiet some = refl
