-- What requests for bindings ask, by the segments of the ids of instance and binding, the query and the body. Faults
-- are found in the order of the lines: of the ids, of the query, of the body, and of the catalog.
use Rattle.std.specs.Prelude.{Bool, Result, Ok, codes}
use Rattle.serde_json.specs.Data.{Data}
use Rattle.osb_text.specs.Names.{Bytes, Id}
use Rattle.osb_catalog.specs.Rules.{Rules}
use Rattle.osb_asks.specs.declared.ask_fault.AskFault.{AskFault}
use Rattle.osb_asks.specs.declared.ask.Ask.{Ask}
use Rattle.osb_asks.specs.declared.ask.Ask.TheVariants as ask
use Rattle.osb_asks.specs.declared.ask.Bind.{Bind}
use Rattle.osb_asks.specs.Reads.{◌>>=◌}
use Rattle.osb_asks.specs.Ids.{id_of}
use Rattle.osb_asks.specs.Queries as query
use Rattle.osb_asks.specs.Bodies.{body_of, app_guid_at, plan_at, object_or_empty, details_at}
use Rattle.osb_asks.specs.Offers.{has_plan, if_offered}

-- ---- OSB API 2.17, "Binding"

unfoldable pub bind_in : Id → Id → Bool → Data → Result Bind AskFault
bind_in instance binding accepts_incomplete v = do
  named ← plan_at v
  app_guid ← app_guid_at v
  bind_resource ← object_or_empty (codes "bind_resource") v
  details ← details_at v
  Ok (record { instance = instance; binding = binding; service = named.service; plan = named.plan; app_guid = app_guid; bind_resource = bind_resource; context = details.context; parameters = details.parameters; accepts_incomplete = accepts_incomplete })

unfoldable pub bind_of : Rules → Bytes → Bytes → Bytes → Bytes → Result Ask AskFault
bind_of rules i b q body = do
  instance ← id_of i
  binding ← id_of b
  accepts_incomplete ← query.accepts_incomplete_in q
  v ← body_of body
  a ← bind_in instance binding accepts_incomplete v
  if_offered (has_plan rules a.service a.plan) (ask.Bind a)

-- ---- "Fetching a Service Binding"

unfoldable pub fetch_binding_of : Bytes → Bytes → Result Ask AskFault
fetch_binding_of i b = do
  instance ← id_of i
  binding ← id_of b
  Ok (ask.FetchBinding (record { instance = instance; binding = binding }))

-- ---- "Unbinding"

unfoldable pub unbind_of : Rules → Bytes → Bytes → Bytes → Result Ask AskFault
unbind_of rules i b q = do
  instance ← id_of i
  binding ← id_of b
  accepts_incomplete ← query.accepts_incomplete_in q
  service ← query.query_id (codes "service_id") q
  plan ← query.query_id (codes "plan_id") q
  if_offered (has_plan rules service plan) (ask.Unbind (record { instance = instance; binding = binding; service = service; plan = plan; accepts_incomplete = accepts_incomplete }))

-- ---- "Polling Last Operation for Service Bindings"

unfoldable pub binding_op_of : Bytes → Bytes → Bytes → Result Ask AskFault
binding_op_of i b q = do
  instance ← id_of i
  binding ← id_of b
  Ok (ask.BindingOp (record { instance = instance; binding = binding; operation = query.query_value (codes "operation") q }))
