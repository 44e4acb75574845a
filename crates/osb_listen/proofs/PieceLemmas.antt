-- Lines that are written in pieces.
use Rattle.std.proofs.Common.{◌≡◌, ◌≤◌, ◌∙◌, ◌++◌, ◌+◌, ◌<◌, ℕ, List, [], ◌∷◌, map, drop, length, Bor, Bool, true, false, Result, Ok, Err, OnOk, OnErr, refl, sym, ap, subst, arith, true≢false}
use Rattle.std.proofs.Math.ListN.{get_or}
use Rattle.std.proofs.lemmas.List.{append_assoc, append-nil, drop_all, drop_more}
use Rattle.std.specs.List.{concat}
use Rattle.std.specs.Result.{is_err}
use Rattle.osb_listen.specs.Lines.{IsWrittenInPart}
use Rattle.osb_listen.proofs.PartLemmas.{nothing_sent, part_of_first, part_of_later}
use Rattle.osb_listen.specs.Lines.{Says}

abbrev pub texts : List (Bor (List ℕ)) → List (List ℕ)
texts pieces = map (λ it. it.now) pieces

-- what is left makes, behind what is written, all pieces, and any part of it a part of them
pub record Continues (old now : List ℕ) (left all : List (List ℕ)) : Type 0 where
  pub in_part : (new : List ℕ) → IsWrittenInPart (concat left) now new → IsWrittenInPart (concat all) old new
  pub whole : (new : List ℕ) → new ≡ now ++ concat left → new ≡ old ++ concat all

pub from_first : (old : List ℕ) (all : List (List ℕ)) → Continues old old all all
from_first old all = record { in_part = λ new part. part; whole = λ new is. is }

pub ok_of : {P : Type 0} (sent : Result (Unit {0}) ℕ) (failed : Bool) → failed ≡ false → failed ≡ is_err sent → OnOk sent P → P
ok_of (Ok x) failed not_failed is known = known
ok_of (Err done) failed not_failed is known = absurd (true≢false (sym is ∙ not_failed))

pub err_of : {P : Type 0} (sent : Result (Unit {0}) ℕ) (failed : Bool) → failed ≡ true → failed ≡ is_err sent → OnErr sent P → P
err_of (Ok x) failed has_failed is known = absurd (true≢false (sym has_failed ∙ is))
err_of (Err done) failed has_failed is known = known

module _ (old now : List ℕ) (pieces : List (Bor (List ℕ))) (i : ℕ) (d : Bor (List ℕ)) (below : i < length pieces) (before : Continues old now (texts (drop i pieces)) (texts pieces)) where
  abbrev rest : List (List ℕ)
  rest = texts (drop (i + 1) pieces)

  next_piece : Continues old now ((get_or pieces i d).now ∷ rest) (texts pieces)
  next_piece = subst (λ left. Continues old now (texts left) (texts pieces)) (drop_more pieces i d below) before

  more : (next : List ℕ) → next ≡ now ++ (get_or pieces i d).now → Continues old next rest (texts pieces)
  more next is = record {
    in_part = λ new part. next_piece.in_part new (part_of_later (get_or pieces i d).now (concat rest) now next new is part);
    whole = λ new all. next_piece.whole new (all ∙ ap (λ it. it ++ concat rest) is ∙ append_assoc now (get_or pieces i d).now (concat rest));
  }

  pub one_piece_more : (next piece : List ℕ) → piece ≡ (get_or pieces i d).now → next ≡ now ++ piece → Continues old next (texts (drop (i + 1) pieces)) (texts pieces)
  one_piece_more next piece is whole = more next (whole ∙ ap (λ it. now ++ it) is)

  -- a piece that failed is the last one
  pub last_piece : (new piece : List ℕ) (failed_old failed_new : ℕ) → piece ≡ (get_or pieces i d).now → IsWrittenInPart piece now new → failed_old < failed_new → Says (concat (texts pieces) ∷ []) old new failed_old failed_new
  last_piece new piece failed_old failed_new is part failed = record {
    in_part = (new, next_piece.in_part new (part_of_first (get_or pieces i d).now (concat rest) now new (subst (λ it. IsWrittenInPart it now new) is part)), refl);
    later = omega (arith, failed);
    whole = λ same. absurd (omega (arith, failed, same));
  }

all_pieces : (old now : List ℕ) (all : List (List ℕ)) (failed_old failed_new : ℕ) → failed_new ≡ failed_old → Continues old now [] all → Says (concat all ∷ []) old now failed_old failed_new
all_pieces old now all failed_old failed_new same before = record {
  in_part = (now, before.in_part now (nothing_sent now), refl);
  later = omega (arith, same);
  whole = λ _. before.whole now (sym (append-nil now)) ∙ ap (λ it. old ++ it) (sym (append-nil (concat all)));
}

pub all_sent : (old now : List ℕ) (pieces : List (Bor (List ℕ))) (i failed_old failed_new : ℕ) → length pieces ≤ i → failed_new ≡ failed_old → Continues old now (texts (drop i pieces)) (texts pieces) → Says (concat (texts pieces) ∷ []) old now failed_old failed_new
all_sent old now pieces i failed_old failed_new end same before =
    all_pieces old now (texts pieces) failed_old failed_new same (subst (λ left. Continues old now (texts left) (texts pieces)) (drop_all i pieces end) before)
