-- How much of a text was written.
use Rattle.std.specs.Prelude.{◌≡◌, ℕ, ◌≤◌, ◌-◌, ◌^◌, min, List, ◌++◌, length, take}

-- after `base` the first bytes of the text were written, and `written` is their number, or the greatest `usize`
-- where they are more
pub record WroteFirst (base now text : List ℕ) (written : ℕ) : Type 0 where
  pub count : ℕ
  pub inside : count ≤ length text
  pub bytes : now ≡ base ++ take count text
  pub counted : written ≡ min count (2 ^ 64 - 1)
