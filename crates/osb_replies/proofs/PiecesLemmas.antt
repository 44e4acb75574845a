-- The pieces of a reply are its text.
use Rattle.std.proofs.Common.{◌≡◌, List, [], ◌∷◌, ◌++◌, ◌+◌, ◌<◌, ℕ, Option, None, Some, codes, unwrap_or, length, take, get_or, add-one, Bool, sym, ap, ◌∙◌}
use Rattle.std.specs.Prelude.{if◌then◌else◌}
use Rattle.std.specs.Borrow.{Bor}
use Rattle.std.specs.Fmt.{decimal}
use Rattle.std.proofs.lemmas.List.{append_assoc, append-nil}
use Rattle.std.proofs.Math.Seq.{take-suc}
use Rattle.osb_replies.specs.declared.status.Status.{Status}
use Rattle.osb_replies.specs.Status.{code_of, phrase_of}
use Rattle.osb_replies.specs.Pieces.{text_of, before_identity, after_identity}
use Rattle.osb_replies.specs.Text.{line, challenge_line, reply_text}

-- with the line that repeats an identity, and without it
with_echo : (version code space phrase end type_line name size challenge before identity close body : List ℕ)
    → version ++ (code ++ (space ++ (phrase ++ (end ++ (type_line ++ (name ++ (size ++ (end ++ (challenge ++ (before ++ (identity ++ (end ++ (close ++ (end ++ (body ++ [])))))))))))))))
    ≡ ((version ++ code ++ space ++ phrase) ++ end) ++ type_line ++ ((name ++ size) ++ end) ++ challenge ++ ((before ++ identity) ++ end) ++ close ++ ([] ++ end) ++ body
with_echo version code space phrase end type_line name size challenge before identity close body = simp (append_assoc, append-nil)

without_echo : (version code space phrase end type_line name size challenge close body : List ℕ)
    → version ++ (code ++ (space ++ (phrase ++ (end ++ (type_line ++ (name ++ (size ++ (end ++ (challenge ++ (close ++ (end ++ (body ++ []))))))))))))
    ≡ ((version ++ code ++ space ++ phrase) ++ end) ++ type_line ++ ((name ++ size) ++ end) ++ challenge ++ [] ++ close ++ ([] ++ end) ++ body
without_echo version code space phrase end type_line name size challenge close body = simp (append_assoc, append-nil)

abbrev pub type_line : List ℕ
type_line = line (codes "Content-Type: application/json")

abbrev pub close_line : Bool → List ℕ
close_line close = if close then line (codes "Connection: close") else []

-- the pieces, one after another
abbrev pub in_pieces : Status → List ℕ → Option (List ℕ) → Bool → List ℕ
in_pieces status body echo close =
    codes "HTTP/1.1 " ++ (decimal (code_of status) ++ (codes " " ++ (phrase_of status ++ (codes "\r\n" ++ (type_line ++ (codes "Content-Length: " ++ (decimal (length body) ++ (codes "\r\n"
    ++ (challenge_line status ++ (before_identity echo ++ (unwrap_or echo [] ++ (after_identity echo ++ (close_line close ++ (codes "\r\n" ++ (body ++ [])))))))))))))))

pub are_text : (status : Status) (body : List ℕ) (echo : Option (List ℕ)) (close : Bool) → in_pieces status body echo close ≡ reply_text (record { status = status; body = body; echo = echo; close = close })
unfolding reply_text
are_text status body None close = without_echo (codes "HTTP/1.1 ") (decimal (code_of status)) (codes " ") (phrase_of status) (codes "\r\n") type_line (codes "Content-Length: ") (decimal (length body)) (challenge_line status) (close_line close) body
are_text status body (Some identity) close = with_echo (codes "HTTP/1.1 ") (decimal (code_of status)) (codes " ") (phrase_of status) (codes "\r\n") type_line (codes "Content-Length: ") (decimal (length body)) (challenge_line status) (codes "X-Broker-API-Request-Identity: ") identity (close_line close) body

-- one piece more
pushed : (pieces : List (Bor (List ℕ))) (piece : Bor (List ℕ)) → text_of (pieces ++ piece ∷ []) ≡ text_of pieces ++ piece.now
pushed [] piece = append-nil piece.now
pushed (first ∷ pieces) piece = ap (λ (text : List ℕ). first.now ++ text) (pushed pieces piece) ∙ sym (append_assoc first.now (text_of pieces) piece.now)

pub one_more : (pieces : List (Bor (List ℕ))) (i : ℕ) (none : Bor (List ℕ)) (text : List ℕ) → i < length pieces → (text ++ text_of (take i pieces)) ++ (get_or pieces i none).now ≡ text ++ text_of (take (i + 1) pieces)
one_more pieces i none text low =
    let grown : take (i + 1) pieces ≡ take i pieces ++ get_or pieces i none ∷ [] = ap (λ (n : ℕ). take n pieces) (add-one i) ∙ take-suc pieces i none low in
    append_assoc text (text_of (take i pieces)) (get_or pieces i none).now ∙ ap (λ (rest : List ℕ). text ++ rest) (sym (ap text_of grown ∙ pushed (take i pieces) (get_or pieces i none)))
