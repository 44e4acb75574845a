-- What the backend asks, which is this project's own: the running orders, and how one of them ended.
use Rattle.std.specs.Prelude.{ℕ, Result, Ok, codes}
use Rattle.serde_json.specs.Data.{Data}
use Rattle.osb_text.specs.Names.{Bytes, Id}
use Rattle.osb_asks.specs.declared.ask_fault.AskFault.{AskFault}
use Rattle.osb_asks.specs.declared.ask.Ask.{Ask}
use Rattle.osb_asks.specs.declared.ask.Ask.TheVariants as ask
use Rattle.osb_asks.specs.declared.ask.Report.{Report}
use Rattle.osb_asks.specs.Reads.{◌>>=◌}
use Rattle.osb_asks.specs.Ids.{id_of, order_number_of}
use Rattle.osb_asks.specs.Queries.{after_in}
use Rattle.osb_asks.specs.Bodies.{body_of, state_at, description_at, object_or_empty}

unfoldable pub orders_of : Bytes → Result Ask AskFault
orders_of query = after_in query >>= λ after. Ok (ask.Orders (record { after = after }))

unfoldable pub report_in : Id → ℕ → Data → Result Report AskFault
report_in instance number v = do
  state ← state_at v
  description ← description_at v
  credentials ← object_or_empty (codes "credentials") v
  Ok (record { instance = instance; number = number; state = state; description = description; credentials = credentials })

unfoldable pub report_of : Bytes → Bytes → Bytes → Result Ask AskFault
report_of i n body = do
  instance ← id_of i
  number ← order_number_of n
  v ← body_of body
  report_in instance number v >>= λ r. Ok (ask.Report r)
