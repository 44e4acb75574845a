-- Texts that grow at their end.
use Rattle.std.proofs.Common.{◌≡◌, ℕ, List, ◌++◌, Result, OnOk, ap, subst, ◌∙◌, append_assoc}

-- the line is pushed, and the rest follows
pub go_on : (old line new rest whole : List ℕ) → new ≡ old ++ line → old ++ (line ++ rest) ≡ whole → new ++ rest ≡ whole
go_on old line new rest whole pushed kept = ap (λ text. text ++ rest) pushed ∙ append_assoc old line rest ∙ kept

-- the text that is pushed, by an equation
pub pushed_as : {T E : Type 0} (r : Result T E) (new old text other : List ℕ) → text ≡ other → OnOk r (new ≡ old ++ text) → OnOk r (new ≡ old ++ other)
pushed_as r new old text other is pushed = subst (λ it. OnOk r (new ≡ old ++ it)) is pushed
