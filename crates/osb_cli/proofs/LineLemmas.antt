-- Lines that are written one after the other.
use Rattle.std.proofs.Common.{◌≡◌, ◌∙◌, ◌++◌, ℕ, List, [], ◌∷◌, refl, sym, ap, subst, arith}
use Rattle.std.proofs.lemmas.List.{append_assoc, append-nil}
use Rattle.osb_listen.specs.Lines.{IsWrittenInPart, Says}

pub as_line : (line other old new : List ℕ) (failed_old failed_new : ℕ) → line ≡ other → Says (line ∷ []) old new failed_old failed_new → Says (other ∷ []) old new failed_old failed_new
as_line line other old new failed_old failed_new is says = subst (λ it. Says (it ∷ []) old new failed_old failed_new) is says

pub two_lines : (line other old between new : List ℕ) (failed_old failed_between failed_new : ℕ) → Says (line ∷ []) old between failed_old failed_between
    → Says (other ∷ []) between new failed_between failed_new → Says (line ∷ other ∷ []) old new failed_old failed_new
two_lines line other old between new failed_old failed_between failed_new one two = record {
  in_part = (one.in_part.0, one.in_part.1, (new, subst (λ it. IsWrittenInPart other it new) one.in_part.2 (subst (λ it. IsWrittenInPart other between it) (sym two.in_part.2) two.in_part.1), refl));
  later = omega (arith, one.later, two.later);
  whole = λ same.
      let first = one.whole (omega (arith, one.later, two.later, same)) in
      let second = two.whole (omega (arith, one.later, two.later, same)) in
      second ∙ ap (λ it. it ++ (other ++ [])) (first ∙ ap (λ it. old ++ it) (append-nil line)) ∙ append_assoc old line (other ++ []);
}
