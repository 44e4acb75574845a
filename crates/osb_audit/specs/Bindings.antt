-- The rows of bindings, and that they are those of lives.
use Rattle.std.specs.Prelude.{ℕ, ◌≡◌, Bool, ◌&&◌, List, [], map, filter, bytes_eq}
use Rattle.std.specs.declared.cmp.Ordering.{Ordering}
use Rattle.std.specs.Ordering.{nat_cmp, ordering_then}
use Rattle.std.specs.Cmp.Lexicographic.{slice_cmp}
use Rattle.std.specs.FinMap.{entries}
use Rattle.osb_orders.specs.declared.view.BindingNow.{BindingNow}
use Rattle.osb_orders.specs.Orders.{empty_object}
use Rattle.osb_orders.specs.Life.{Life}
use Rattle.osb_orders.specs.Lives.{Lives, life_of}
use Rattle.osb_standing.specs.Rows.{bindings_of}
use Rattle.osb_audit.specs.declared.entry.BindingEntry.{BindingEntry}

-- the entry of a binding of the instance
abbrev pub binding_entry : List ℕ → (List ℕ × BindingNow) → BindingEntry
binding_entry id binding = record {
  instance = id;
  binding = binding.0;
  phase = binding.1.phase;
  service = binding.1.attributes.service;
  plan = binding.1.attributes.plan;
  app_guid = binding.1.attributes.place;
  bind_resource = binding.1.attributes.spot;
  parameters = binding.1.attributes.parameters;
  credentials = binding.1.credentials;
}

-- the binding of an entry
abbrev pub binding_now : BindingEntry → BindingNow
binding_now entry = record {
  phase = entry.phase;
  attributes = record {
    service = entry.service;
    plan = entry.plan;
    place = entry.app_guid;
    spot = entry.bind_resource;
    parameters = entry.parameters;
    maintenance = [];
    context = empty_object;
  };
  credentials = entry.credentials;
}

-- by the instances' ids, and for one instance by the bindings' ids
abbrev pub binding_cmp : BindingEntry → BindingEntry → Ordering
binding_cmp a b =
    ordering_then (slice_cmp nat_cmp a.instance b.instance) (slice_cmp nat_cmp a.binding b.binding)

-- the entry is of a binding of the instance
abbrev pub is_bound : List ℕ → BindingEntry → Bool
is_bound id entry = bytes_eq entry.instance id

-- the entry has this key
abbrev pub is_binding : List ℕ → List ℕ → BindingEntry → Bool
is_binding id binding entry = bytes_eq entry.instance id && bytes_eq entry.binding binding

-- the bindings of the instance have the rows of this life
abbrev pub BindingsStand : List ℕ → Life → List BindingEntry → Type 0
BindingsStand id life bindings =
    filter (is_bound id) bindings ≡ map (binding_entry id) (entries (bindings_of life))

abbrev pub AllBindingsStand : Lives → List BindingEntry → Type 0
AllBindingsStand lives bindings = (id : List ℕ) → BindingsStand id (life_of lives id) bindings
