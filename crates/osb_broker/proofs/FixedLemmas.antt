-- The fixed replies are short.
use Rattle.std.proofs.Common.{◌≡◌, ℕ, ◌<◌, ◌≤◌, ◌+◌, ◌⊎◌, inl, inr, List, ◌++◌, length, Result, Ok, Err, OnOk, OnErr, sym, refl, subst, arith}
use Rattle.osb_frames.specs.declared.step.StopKind.{StopKind}
use Rattle.osb_frames.specs.declared.step.StopKind.TheVariants.{NoHead, Host, Coding, Length, TooLarge, Cut}
use Rattle.osb_replies.specs.Text.{ReplyParts, reply_text}
use Rattle.std.specs.Fmt.{digits}
use Rattle.osb_replies.specs.Parts.{refused}
use Rattle.osb_replies.specs.declared.write.WriteFault.{WriteFault}
use Rattle.osb_broker.specs.Machine.{fault_reply}
use Rattle.osb_broker.specs.Serving.{WritesText}

pub refused_fits : length (reply_text refused) ≤ 512
unfolding reply_text digits
refused_fits = let e : length (reply_text refused) ≡ 110 = refl in omega (arith, e)

pub fault_fits : (f : StopKind) → length (reply_text (fault_reply f)) ≤ 512
unfolding reply_text digits
fault_fits NoHead = let e : length (reply_text (fault_reply NoHead)) ≡ 143 = refl in omega (arith, e)
fault_fits Host = let e : length (reply_text (fault_reply Host)) ≡ 147 = refl in omega (arith, e)
fault_fits Coding = let e : length (reply_text (fault_reply Coding)) ≡ 156 = refl in omega (arith, e)
fault_fits Length = let e : length (reply_text (fault_reply Length)) ≡ 150 = refl in omega (arith, e)
fault_fits TooLarge = let e : length (reply_text (fault_reply TooLarge)) ≡ 145 = refl in omega (arith, e)
fault_fits Cut = let e : length (reply_text (fault_reply Cut)) ≡ 149 = refl in omega (arith, e)

-- a reply for which there is room, or the fixed one, fits
pub reply_fits : (reply : ReplyParts) (room : ℕ) → (reply ≡ refused) ⊎ (length (reply_text reply) + 512 ≤ room) → 512 ≤ room → length (reply_text reply) ≤ room
reply_fits reply room (inl e) spare = subst (λ r. length (reply_text r) ≤ room) (sym e) (let h = refused_fits in omega arith)
reply_fits reply room (inr h) spare = omega arith

-- what fits is written whole
pub written_whole : {E : Type 0} (result : Result (Unit {0}) E) (base now text : List ℕ) (room : ℕ) → OnOk result (now ≡ base ++ text) → OnErr result (room < length text) → length text ≤ room → now ≡ base ++ text
written_whole (Ok x) base now text room wrote short fits = wrote
written_whole (Err e) base now text room wrote short fits = absurd (omega arith)

-- the same of what a refusal says
pub refused_whole : (result : Result (Unit {0}) WriteFault) (base : List ℕ) (before : ℕ) (now : List ℕ) (after : ℕ) (text : List ℕ) (room : ℕ) → WritesText base before now after result text → OnErr result (room < length text) → length text ≤ room → now ≡ base ++ text
refused_whole (Ok x) base before now after text room wrote short fits = wrote.0
refused_whole (Err e) base before now after text room wrote short fits = absurd (omega arith)
