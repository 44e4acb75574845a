-- When a request asks for what is there already (OSB API 2.17, "Provisioning" and "Binding": the same parameters; which
-- attributes count is this project's own). The context counts only for an update.
use Rattle.std.specs.Prelude.{ℕ, Bool, ◌&&◌, List, [], bytes_eq, unwrap_or}
use Rattle.osb_asks.specs.declared.ask.Provision.{Provision}
use Rattle.osb_asks.specs.declared.ask.Bind.{Bind}
use Rattle.osb_orders.specs.declared.order.Attributes.{Attributes}

abbrev pub are_same : Attributes → Attributes → Bool
are_same one other =
    bytes_eq one.service other.service && bytes_eq one.plan other.plan
    && bytes_eq one.place other.place && bytes_eq one.spot other.spot
    && bytes_eq one.parameters other.parameters && bytes_eq one.maintenance other.maintenance
    && bytes_eq one.context other.context

abbrev pub is_same_instance : Provision → Attributes → Bool
is_same_instance ask there =
    bytes_eq ask.service there.service && bytes_eq ask.plan there.plan
    && bytes_eq ask.organization there.place && bytes_eq ask.space there.spot
    && bytes_eq ask.parameters there.parameters

-- an absent app is the empty one
abbrev pub app_guid_of : Bind → List ℕ
app_guid_of ask = unwrap_or ask.app_guid []

abbrev pub is_same_binding : Bind → Attributes → Bool
is_same_binding ask there =
    bytes_eq ask.service there.service && bytes_eq ask.plan there.plan
    && bytes_eq (app_guid_of ask) there.place && bytes_eq ask.bind_resource there.spot
    && bytes_eq ask.parameters there.parameters
