-- What requests for instances ask, by the segment of the instance's id, the query and the body. Faults are found in
-- the order of the lines: of the id, of the query, of the body, and of the catalog.
use Rattle.std.specs.Prelude.{Bool, Result, Ok, codes}
use Rattle.serde_json.specs.Data.{Data}
use Rattle.osb_text.specs.Names.{Bytes, Id}
use Rattle.osb_catalog.specs.Rules.{Rules}
use Rattle.osb_asks.specs.declared.ask_fault.AskFault.{AskFault}
use Rattle.osb_asks.specs.declared.ask.Ask.{Ask}
use Rattle.osb_asks.specs.declared.ask.Ask.TheVariants as ask
use Rattle.osb_asks.specs.declared.ask.Provision.{Provision}
use Rattle.osb_asks.specs.declared.ask.Update.{Update}
use Rattle.osb_asks.specs.Reads.{◌>>=◌}
use Rattle.osb_asks.specs.Ids.{id_of}
use Rattle.osb_asks.specs.Queries as query
use Rattle.osb_asks.specs.Bodies.{body_of, id_at, given_id_at, plan_at, space_at, object_at, details_at, maintenance_at}
use Rattle.osb_asks.specs.Offers.{has_plan, has_given_plan, if_offered}

-- ---- OSB API 2.17, "Provisioning"

unfoldable pub provision_in : Id → Bool → Data → Result Provision AskFault
provision_in instance accepts_incomplete v = do
  named ← plan_at v
  place ← space_at v
  details ← details_at v
  maintenance ← maintenance_at v
  Ok (record { instance = instance; service = named.service; plan = named.plan; organization = place.organization; space = place.space; context = details.context; parameters = details.parameters; maintenance = maintenance; accepts_incomplete = accepts_incomplete })

unfoldable pub provision_of : Rules → Bytes → Bytes → Bytes → Result Ask AskFault
provision_of rules i q body = do
  instance ← id_of i
  accepts_incomplete ← query.accepts_incomplete_in q
  v ← body_of body
  p ← provision_in instance accepts_incomplete v
  if_offered (has_plan rules p.service p.plan) (ask.Provision p)

-- ---- "Fetching a Service Instance"

unfoldable pub fetch_of : Bytes → Result Ask AskFault
fetch_of i = id_of i >>= λ instance. Ok (ask.Fetch (record { instance = instance }))

-- ---- "Updating a Service Instance"

unfoldable pub update_in : Id → Bool → Data → Result Update AskFault
update_in instance accepts_incomplete v = do
  service ← id_at (codes "service_id") v
  plan ← given_id_at (codes "plan_id") v
  context ← object_at (codes "context") v
  parameters ← object_at (codes "parameters") v
  maintenance ← maintenance_at v
  Ok (record { instance = instance; service = service; plan = plan; context = context; parameters = parameters; maintenance = maintenance; accepts_incomplete = accepts_incomplete })

unfoldable pub update_of : Rules → Bytes → Bytes → Bytes → Result Ask AskFault
update_of rules i q body = do
  instance ← id_of i
  accepts_incomplete ← query.accepts_incomplete_in q
  v ← body_of body
  u ← update_in instance accepts_incomplete v
  if_offered (has_given_plan rules u.service u.plan) (ask.Update u)

-- ---- "Deprovisioning"

unfoldable pub deprovision_of : Rules → Bytes → Bytes → Result Ask AskFault
deprovision_of rules i q = do
  instance ← id_of i
  accepts_incomplete ← query.accepts_incomplete_in q
  service ← query.query_id (codes "service_id") q
  plan ← query.query_id (codes "plan_id") q
  if_offered (has_plan rules service plan) (ask.Deprovision (record { instance = instance; service = service; plan = plan; accepts_incomplete = accepts_incomplete }))

-- ---- "Polling Last Operation for Service Instances"

unfoldable pub instance_op_of : Bytes → Bytes → Result Ask AskFault
instance_op_of i q = do
  instance ← id_of i
  Ok (ask.InstanceOp (record { instance = instance; operation = query.query_value (codes "operation") q }))
