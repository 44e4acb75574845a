-- How far a text has come through a sink. For contracts inside the crate.
use Rattle.std.specs.Prelude.{◌≡◌, ℕ, ◌+◌, ◌-◌, ◌^◌, ◌<◌, ◌≤◌, min, Bool, true, false, List, [], ◌++◌, length, take}
use Rattle.osb_replies.specs.declared.sender.Sender.{Sender}

-- what contracts see of a sink
pub record Seen : Type 0 where
  pub taken : List ℕ
  pub writes : ℕ
  pub failed_or_empty : ℕ
  pub room : ℕ

abbrev pub seen : List ℕ → ℕ → ℕ → ℕ → Seen
seen taken writes failed_or_empty room =
    record { taken = taken; writes = writes; failed_or_empty = failed_or_empty; room = room }

-- from `start` the whole text went out, and each write took bytes
pub record Whole (start : Seen) (text : List ℕ) (now : Seen) (written : ℕ) : Type 0 where
  pub taken : now.taken ≡ start.taken ++ text
  pub quiet : now.failed_or_empty ≡ start.failed_or_empty
  pub counted : written ≡ min (length text) (2 ^ 64 - 1)
  pub room : start.room ≤ now.room + length text
  pub silent : text ≡ [] → now.writes ≡ start.writes

-- from `start` some first bytes of the text went out, and then a write failed or took nothing
pub record Stopped (start : Seen) (text : List ℕ) (now : Seen) (written : ℕ) : Type 0 where
  pub count : ℕ
  pub inside : count ≤ length text
  pub taken : now.taken ≡ start.taken ++ take count text
  pub counted : written ≡ min count (2 ^ 64 - 1)
  pub cause : start.failed_or_empty < now.failed_or_empty
  pub short : start.room < length text

abbrev pub OutIf : Seen → List ℕ → Seen → ℕ → Bool → Type 0
OutIf start text now written false = Whole start text now written
OutIf start text now written true = Stopped start text now written

abbrev pub Out : Seen → List ℕ → Seen → Sender → Type 0
Out start text now sender = OutIf start text now sender.written sender.broken
