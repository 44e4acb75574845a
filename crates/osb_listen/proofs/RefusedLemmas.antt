-- Lines of requests that were refused, among others.
use Rattle.std.proofs.Common.{◌++◌, inl, inr, ℕ, List, [], ◌∷◌, refl, sym, ap, subst, append-nil}
use Rattle.osb_listen.specs.Lines.{AddsRefused, IsRefusedLine, Says, SaysWithRefused}
use Rattle.osb_listen.proofs.PartLemmas.{says_more, says_none}

adds_none : (lines : List (List ℕ)) → AddsRefused lines lines
adds_none [] = refl
adds_none (line ∷ lines) = inr (lines, refl, adds_none lines)

adds_more : (lines later all_lines all_later : List (List ℕ)) → AddsRefused lines all_lines → AddsRefused later all_later → AddsRefused (lines ++ later) (all_lines ++ all_later)
adds_more lines later [] all_later one two = subst (λ (some : List (List ℕ)). AddsRefused (some ++ later) all_later) (sym one) two
adds_more lines later (line ∷ all) all_later (inl (refused, one)) two = inl (refused, adds_more lines later all all_later one two)
adds_more lines later (line ∷ all) all_later (inr (rest, is, one)) two =
    inr (rest ++ later, ap (λ (some : List (List ℕ)). some ++ later) is, adds_more rest later all all_later one two)

pub says_only : (lines : List (List ℕ)) (old new : List ℕ) (failed_old failed_new : ℕ) → Says lines old new failed_old failed_new → SaysWithRefused lines old new failed_old failed_new
says_only lines old new failed_old failed_new says = record { all = lines; adds = adds_none lines; says = says }

pub says_none_of_refused : (old : List ℕ) (failed : ℕ) → SaysWithRefused [] old old failed failed
says_none_of_refused old failed = says_only [] old old failed failed (says_none old failed)

pub says_more_with : (lines later : List (List ℕ)) (old mid new : List ℕ) (failed_old failed_mid failed_new : ℕ) → SaysWithRefused lines old mid failed_old failed_mid → SaysWithRefused later mid new failed_mid failed_new
    → SaysWithRefused (lines ++ later) old new failed_old failed_new
says_more_with lines later old mid new failed_old failed_mid failed_new one two = record {
  all = one.all ++ two.all;
  adds = adds_more lines later one.all two.all one.adds two.adds;
  says = says_more one.all two.all old mid new failed_old failed_mid failed_new one.says two.says;
}

-- lines, and behind them those of requests that were refused
pub then_refused : (lines : List (List ℕ)) (old mid new : List ℕ) (failed_old failed_mid failed_new : ℕ) → SaysWithRefused lines old mid failed_old failed_mid → SaysWithRefused [] mid new failed_mid failed_new
    → SaysWithRefused lines old new failed_old failed_new
then_refused lines old mid new failed_old failed_mid failed_new one two =
    subst (λ (some : List (List ℕ)). SaysWithRefused some old new failed_old failed_new) (append-nil lines) (says_more_with lines [] old mid new failed_old failed_mid failed_new one two)

-- one such line
pub says_refused : (line old new : List ℕ) (failed_old failed_new : ℕ) → IsRefusedLine line → Says (line ∷ []) old new failed_old failed_new → SaysWithRefused [] old new failed_old failed_new
says_refused line old new failed_old failed_new refused says = record { all = line ∷ []; adds = inl (refused, refl); says = says }
