-- A text of which the last bytes are still gathered. For contracts inside the crate.
use Rattle.std.specs.Prelude.{◌≡◌, ℕ, ◌≤◌, List, [], ◌++◌, length, take}
use Rattle.osb_replies.specs.declared.stage.Stage.{Stage}
use Rattle.osb_replies.specs.Sending.{Seen, Out}

-- the gathered bytes
abbrev pub staged : Stage → List ℕ
staged stage = take stage.used stage.bytes

-- the text is what was sent from `start` on and what is gathered; a short text is gathered whole
pub record Carries (start : Seen) (text : List ℕ) (now : Seen) (stage : Stage) : Type 0 where
  pub sent : List ℕ
  pub out : Out start sent now stage.sender
  pub whole : sent ++ staged stage ≡ text
  pub short : length text ≤ 1024 → sent ≡ []
