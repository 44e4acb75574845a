-- The bytes of a piece, one write after another.
use Rattle.std.proofs.Common.{◌≡◌, ℕ, ◌+◌, ◌-◌, List, ◌++◌, length, take, drop, sym, ap, ◌∙◌}
use Rattle.std.proofs.lemmas.List.{append_assoc, take_rest}
use Rattle.std.proofs.Math.Seq.{take-add}

-- some bytes more of a piece
pub take_more : (base piece : List ℕ) (done count : ℕ) → (base ++ take done piece) ++ take count (take (length piece - done) (drop done piece)) ≡ base ++ take (done + count) piece
take_more base piece done count =
    append_assoc base _ _ ∙ ap (λ rest. base ++ (take done piece ++ take count rest)) (take_rest piece done) ∙ ap (λ all. base ++ all) (sym (take-add done count piece))
