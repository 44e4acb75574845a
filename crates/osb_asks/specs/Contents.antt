-- The value that the object of a body is, and what a look-up in it gives. For contracts inside the crate.
use Rattle.std.specs.Prelude.{◌≡◌, ◌≢◌, Option, option_map, Result, Ok, Err}
use Rattle.serde_json.specs.Data.{Data}
use Rattle.osb_text.specs.Object.{object_data}
use Rattle.osb_asks.specs.declared.ask_fault.AskFault.{AskFault}
use Rattle.osb_asks.specs.declared.ask_fault.AskFault.TheVariants.{Memory}
use Rattle.osb_asks.specs.declared.content.Content.{Content}

abbrev pub data_of : Content → Data
data_of content = object_data content.object

-- what was returned, as `view` shows it, is what is found, unless memory was refused
abbrev pub ReadsAs : {X Y : Type 0} → (X → Y) → Result X AskFault → Result Y AskFault → Type 0
ReadsAs view (Ok x) found = found ≡ Ok (view x)
ReadsAs view (Err fault) found = fault ≢ Memory → found ≡ Err fault

-- a look-up, which takes no memory, gives what is found
abbrev pub Gives : {X Y : Type 0} → (X → Y) → Result (Option X) AskFault →
    Result (Option Y) AskFault → Type 0
Gives view (Ok o) found = found ≡ Ok (option_map view o)
Gives view (Err fault) found = found ≡ Err fault
