-- Ids and numbers in a path. Ids are percent-decoded (RFC 3986, section 2.1), once; what an id text is, and the form
-- of a number, are this project's choice.
use Rattle.std.specs.Prelude.{ℕ, length, Bool, not, ◌&&◌, ◌==◌, nat_lt, nat_le, slice_index, Option, Some, None, option_and_then, Result, Ok, Err, if◌then◌else◌}
use Rattle.std.specs.List.{list_all}
use Rattle.std.specs.Char.{is_ascii_digit}
use Rattle.std.specs.Str.Parse.{digits_value}
use Rattle.percent_encoding.specs.Percent.{percent_decode}
use Rattle.osb_text.specs.Names.{Bytes, Id}
use Rattle.osb_text.specs.Id.{is_id}
use Rattle.osb_text.specs.Member.{if_given}
use Rattle.osb_asks.specs.declared.ask_fault.AskFault.{AskFault}
use Rattle.osb_asks.specs.declared.ask_fault.AskFault.TheVariants as fault

-- the text, which has to be an id
abbrev pub id_or : AskFault → Bytes → Result Id AskFault
id_or fault text = if is_id text then Ok text else Err fault

-- an id that may be there: an empty text counts as absent
abbrev pub id_unless_empty_or : AskFault → Option Bytes → Result (Option Id) AskFault
id_unless_empty_or fault text =
    if_given (id_or fault) (option_and_then (λ t. if length t == 0 then None else Some t) text)

-- the id that a segment of a path stands for
abbrev pub id_of : Bytes → Result Id AskFault
id_of segment = id_or fault.Id (percent_decode segment)

-- 1 to 7 digits that don't begin with a 0
abbrev pub is_order_number : Bytes → Bool
is_order_number segment =
    nat_lt 0 (length segment) && (nat_le (length segment) 7 && (not (slice_index segment 0 == 48) && list_all is_ascii_digit segment))

-- the number of an order, as it is in a path
abbrev pub order_number_of : Bytes → Result ℕ AskFault
order_number_of bytes = if is_order_number bytes then Ok (digits_value 10 bytes) else Err fault.Id
