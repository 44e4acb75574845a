-- Texts that are written in part, and lines.
use Rattle.std.proofs.Common.{◌≡◌, ◌<◌, ℕ, List, [], ◌∷◌, ◌++◌, take, drop, Result, Ok, Err, OnOk, OnErr, IfErr, refl, sym, ap, subst, arith, ◌∙◌}
use Rattle.std.proofs.lemmas.List.{append_assoc, append-nil, take-append-drop}
use Rattle.std.specs.List.{concat}
use Rattle.osb_listen.specs.Lines.{AreWrittenInPart, IsWrittenInPart, Says}

pub on_err : {T E P : Type 0} (r : Result T E) → P → OnErr r P
on_err (Ok x) holds = tt
on_err (Err e) holds = holds

-- what was sent of a piece, whole or not
pub sent_in_part : (sent : Result (Unit {0}) ℕ) (piece old new : List ℕ) → OnOk sent (new ≡ old ++ piece) → IfErr sent (λ done. new ≡ old ++ take done piece) → IsWrittenInPart piece old new
sent_in_part (Ok x) piece old new whole cut = record { front = piece; rest = []; parts = append-nil piece; written = whole }
sent_in_part (Err done) piece old new whole cut = record { front = take done piece; rest = drop done piece; parts = take-append-drop done piece; written = cut }

pub nothing_sent : (old : List ℕ) → IsWrittenInPart [] old old
nothing_sent old = record { front = []; rest = []; parts = refl; written = sym (append-nil old) }

-- a piece in part is a text in part that begins with it
pub part_of_first : (piece later old new : List ℕ) → IsWrittenInPart piece old new → IsWrittenInPart (piece ++ later) old new
part_of_first piece later old new part = record {
  front = part.front;
  rest = part.rest ++ later;
  parts = sym (append_assoc part.front part.rest later) ∙ ap (λ xs. xs ++ later) part.parts;
  written = part.written;
}

-- a piece whole and what follows in part is a text in part
pub part_of_later : (piece later old mid new : List ℕ) → mid ≡ old ++ piece → IsWrittenInPart later mid new → IsWrittenInPart (piece ++ later) old new
part_of_later piece later old mid new whole part = record {
  front = piece ++ part.front;
  rest = part.rest;
  parts = append_assoc piece part.front part.rest ∙ ap (λ xs. piece ++ xs) part.parts;
  written = part.written ∙ ap (λ xs. xs ++ part.front) whole ∙ append_assoc old piece part.front;
}

pub three_pieces : (a b c old one two new : List ℕ) → one ≡ old ++ a → two ≡ one ++ b → new ≡ two ++ c → new ≡ old ++ (a ++ (b ++ c))
three_pieces a b c old one two new is_one is_two is =
    is ∙ ap (λ xs. xs ++ c) (is_two ∙ ap (λ xs. xs ++ b) is_one) ∙ append_assoc (old ++ a) b c ∙ append_assoc old a (b ++ c)

-- a line that was sent, whole or not
pub says_sent : (sent : Result (Unit {0}) ℕ) (line old new : List ℕ) (failed_old failed_new : ℕ) → OnOk sent (new ≡ old ++ line) → IfErr sent (λ done. new ≡ old ++ take done line)
    → OnOk sent (failed_new ≡ failed_old) → OnErr sent (failed_old < failed_new) → Says (line ∷ []) old new failed_old failed_new
says_sent (Ok x) line old new failed_old failed_new whole cut quiet cause = record {
  in_part = (new, sent_in_part (Ok x) line old new whole cut, refl);
  later = omega (arith, quiet);
  whole = λ same. whole ∙ ap (λ text. old ++ text) (sym (append-nil line));
}
says_sent (Err done) line old new failed_old failed_new whole cut quiet cause = record {
  in_part = (new, sent_in_part (Err done) line old new whole cut, refl);
  later = omega (arith, cause);
  whole = λ same. absurd (omega (arith, cause, same));
}

pub says_nothing : (old : List ℕ) (failed : ℕ) → Says ([] ∷ []) old old failed failed
says_nothing old failed = record { in_part = (old, nothing_sent old, refl); later = omega arith; whole = λ same. sym (append-nil old) }

-- no line yet
pub says_none : (old : List ℕ) (failed : ℕ) → Says [] old old failed failed
says_none old failed = record { in_part = refl; later = omega arith; whole = λ same. sym (append-nil old) }

in_part_more : (lines later : List (List ℕ)) (old mid new : List ℕ) → AreWrittenInPart lines old mid → AreWrittenInPart later mid new → AreWrittenInPart (lines ++ later) old new
in_part_more [] later old mid new one two = subst (λ (text : List ℕ). AreWrittenInPart later text new) one two
in_part_more (line ∷ lines) later old mid new (between, first, one) two = (between, first, in_part_more lines later between mid new one two)

concat_more : (lines later : List (List ℕ)) → concat (lines ++ later) ≡ concat lines ++ concat later
concat_more [] later = refl
concat_more (line ∷ lines) later = ap (λ text. line ++ text) (concat_more lines later) ∙ sym (append_assoc line (concat lines) (concat later))

-- lines and then others
pub says_more : (lines later : List (List ℕ)) (old mid new : List ℕ) (failed_old failed_mid failed_new : ℕ) → Says lines old mid failed_old failed_mid → Says later mid new failed_mid failed_new
    → Says (lines ++ later) old new failed_old failed_new
says_more lines later old mid new failed_old failed_mid failed_new one two = record {
  in_part = in_part_more lines later old mid new one.in_part two.in_part;
  later = omega (arith, one.later, two.later);
  whole = λ same.
      let first = one.whole (omega (arith, one.later, two.later, same)) in
      let second = two.whole (omega (arith, one.later, two.later, same)) in
      second ∙ ap (λ text. text ++ concat later) first ∙ append_assoc old (concat lines) (concat later) ∙ ap (λ text. old ++ text) (sym (concat_more lines later));
}
