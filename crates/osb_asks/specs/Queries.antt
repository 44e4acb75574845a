-- What a query says under a name: it is read as a form (WHATWG URL, "application/x-www-form-urlencoded parsing"), and
-- the first pair of a name counts.
use Rattle.std.specs.Prelude.{Bool, true, false, Option, option_map, unwrap_or, Result, Ok, Err, codes, bytes_eq, if◌then◌else◌}
use Rattle.std.specs.List.{find}
use Rattle.std.specs.Str.Lossy.{utf8_lossy}
use Rattle.form_urlencoded.specs.Form.{decode, raw_pairs}
use Rattle.osb_text.specs.Names.{Bytes, Id}
use Rattle.osb_asks.specs.declared.ask_fault.AskFault.{AskFault}
use Rattle.osb_asks.specs.declared.ask_fault.AskFault.TheVariants.{Query}
use Rattle.osb_asks.specs.Reads.{◌>>=◌, needed}
use Rattle.osb_asks.specs.Ids.{id_or, id_unless_empty_or}

-- the text of the first pair of the name; bytes that are no UTF-8 become U+FFFD
abbrev pub query_value : Bytes → Bytes → Option Bytes
query_value name query =
    let first = find (λ pair. bytes_eq (utf8_lossy (decode pair.0)) name) (raw_pairs query) in
    option_map (λ pair. utf8_lossy (decode pair.1)) first

-- whether an answer may come before the operation is done; absent is false (OSB API 2.17, "Asynchronous Operations")
abbrev pub accepts_incomplete_in : Bytes → Result Bool AskFault
accepts_incomplete_in query =
    let text = unwrap_or (query_value (codes "accepts_incomplete") query) (codes "false") in
    if bytes_eq text (codes "true") then Ok true
    else if bytes_eq text (codes "false") then Ok false else Err Query

-- an id that has to be there
abbrev pub query_id : Bytes → Bytes → Result Id AskFault
query_id name query = needed Query (query_value name query) >>= id_or Query

-- the id after which orders are listed, which is this project's own
abbrev pub after_in : Bytes → Result (Option Id) AskFault
after_in query = id_unless_empty_or Query (query_value (codes "after") query)
