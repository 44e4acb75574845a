-- How far a text has come.
use Rattle.std.proofs.Common.{◌≡◌, ℕ, ◌+◌, ◌-◌, ◌<◌, ◌≤◌, ◌^◌, min, List, ◌++◌, length, take, ap, sym, ◌∙◌, arith}
use Rattle.std.proofs.lemmas.List.{append_assoc, length-append}
use Rattle.std.proofs.Math.Seq.{take-append-add}
use Rattle.osb_replies.specs.Sending.{Seen, Whole, Stopped}

-- a text went out, and of the piece after it only the first bytes
pub stopped_in : (start : Seen) (text piece : List ℕ) (now after : Seen) (written result done : ℕ) → Whole start text now written → done ≤ length piece → after.taken ≡ now.taken ++ take done piece → now.failed_or_empty < after.failed_or_empty → now.room < length piece → result ≡ min (written + done) (2 ^ 64 - 1) → Stopped start (text ++ piece) after result
stopped_in start text piece now after written result done was inside cut cause short total = record {
  count = length text + done;
  inside = omega (arith, length-append text piece);
  taken = cut ∙ ap (λ out. out ++ take done piece) was.taken ∙ append_assoc start.taken text _ ∙ ap (λ out. start.taken ++ out) (sym (take-append-add text piece done));
  counted = omega (arith, was.counted, total);
  cause = omega (arith, was.quiet);
  short = omega (arith, was.room, length-append text piece);
}
