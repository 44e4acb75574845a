-- That trimmed lives answer as the lives do.
use Rattle.std.proofs.Common.{◌≡◌, ℕ, ◌==◌, List, [], map, filter, bytes_eq, Option, None, Some, option_map, refl, sym, ◌∙◌, ap, ap₂, inl, inr}
use Rattle.osb_catalog.specs.Rules.{Rules}
use Rattle.osb_asks.specs.declared.ask.Ask.{Ask}
use Rattle.osb_asks.specs.declared.ask.Ask.TheVariants as the
use Rattle.osb_asks.specs.declared.ask.Report.{Report}
use Rattle.osb_asks.specs.declared.ask.ReportState.{ReportState}
use Rattle.osb_asks.specs.declared.ask.ReportState.TheVariants as said
use Rattle.osb_orders.specs.declared.order.OrderKind.{OrderKind}
use Rattle.osb_orders.specs.declared.order.OrderKind.TheVariants.{Delete, Unbind}
use Rattle.osb_orders.specs.declared.order.Order.{Order}
use Rattle.osb_orders.specs.Lists.{last_of}
use Rattle.osb_orders.specs.Orders.{is_of_instance, is_of_binding, name_of}
use Rattle.osb_orders.specs.Life.{Life, since_birth}
use Rattle.osb_orders.specs.Lives.{Lives, named_life}
use Rattle.osb_asks.specs.Subjects.{instance_id_of, binding_id_of}
use Rattle.osb_orders.specs.Named.{order_numbered, named_by}
use Rattle.osb_orders.specs.Listing.{listing_for}
use Rattle.osb_orders.specs.ViewData.{ViewData, view_data_of}
use Rattle.osb_bare.proofs.ListLemmas.{last_of-map, filter-map, find-map}
use Rattle.osb_machine.specs.Decision.{Decision}
use Rattle.osb_machine.specs.Polls.{poll}
use Rattle.osb_machine.specs.Report.{report, reported_on, reported_state, kept_credentials}
use Rattle.osb_machine.specs.Answer.{answer}
use Rattle.osb_machine.specs.Machine.{answer_to}
use Rattle.osb_trim.specs.Trimmed.{erased, trimmed, trimmed_lives}
use Rattle.osb_trim.proofs.LifeLemmas.{erased-trimmed, same_read}
use Rattle.osb_trim.proofs.LivesLemmas.{named_life-trimmed}
use Rattle.osb_trim.proofs.ViewLemmas.{LastOrGone, last_or_gone, listing-trimmed, facts_of, facts-trimmed}

-- ---- polls and reports look at no attributes

abbrev poll_by : OrderKind → Option (List ℕ) → Life → Decision
poll_by removal operation orders = poll removal operation (named_by operation orders) (last_of orders)

poll-erased : (removal : OrderKind) (operation : Option (List ℕ)) (named last : Option Order) → poll removal operation (option_map erased named) (option_map erased last) ≡ poll removal operation named last
poll-erased removal operation named None = refl
poll-erased removal None named (Some last) = refl
poll-erased removal (Some operation) None (Some last) = refl
poll-erased removal (Some operation) (Some order) (Some last) = refl

named_by-erased : (operation : Option (List ℕ)) (orders : Life) → named_by operation (map erased orders) ≡ option_map erased (named_by operation orders)
named_by-erased None orders = refl
named_by-erased (Some name) orders = find-map erased (λ order. bytes_eq (name_of order) name) orders

poll_by-erased : (removal : OrderKind) (operation : Option (List ℕ)) (orders : Life) → poll_by removal operation (map erased orders) ≡ poll_by removal operation orders
poll_by-erased removal operation orders = ap₂ (poll removal operation) (named_by-erased operation orders) (last_of-map erased orders) ∙ poll-erased removal operation (named_by operation orders) (last_of orders)

of_instance : (life : Life) → map erased (filter is_of_instance (trimmed life)) ≡ map erased (filter is_of_instance life)
of_instance life = sym (filter-map erased is_of_instance (trimmed life)) ∙ ap (filter is_of_instance) (erased-trimmed life) ∙ filter-map erased is_of_instance life

of_binding : (id : List ℕ) (life : Life) → map erased (filter (is_of_binding id) (trimmed life)) ≡ map erased (filter (is_of_binding id) life)
of_binding id life = sym (filter-map erased (is_of_binding id) (trimmed life)) ∙ ap (filter (is_of_binding id)) (erased-trimmed life) ∙ filter-map erased (is_of_binding id) life

kept-erased : (state : ReportState) (ask : Report) (order : Order) → kept_credentials state ask (erased order) ≡ kept_credentials state ask order
kept-erased said.Succeeded ask order = refl
kept-erased said.Failed ask order = refl

report-erased : (ask : Report) (named : Option Order) → report ask (option_map erased named) ≡ report ask named
report-erased ask None = refl
report-erased ask (Some order) = ap (λ credentials. reported_on order (record { state = reported_state ask.state; description = ask.description; credentials = credentials })) (kept-erased ask.state ask order)

reported : (ask : Report) (life : Life) → report ask (order_numbered ask.number (map erased life)) ≡ report ask (order_numbered ask.number life)
reported ask life = ap (report ask) (find-map erased (λ order. order.number == ask.number) life) ∙ report-erased ask (order_numbered ask.number life)

-- ---- all other asks look at the last order only where the instance isn't absent

module _ (rules : Rules) (life : Life) (ask : Ask) where
  -- the answer, with the orders since the birth and the last order given
  abbrev answer_by : Life → Option Order → Decision
  answer_by since last = answer rules (facts_of since life last (binding_id_of ask)) ask

  by_facts : ((last other : Option Order) → answer_by [] last ≡ answer_by [] other) → answer rules (facts_of (since_birth (trimmed life)) (trimmed life) (last_of (trimmed life)) (binding_id_of ask)) ask ≡ answer_by (since_birth life) (last_of life)
  by_facts blind = ap (λ (facts : ViewData). answer rules facts ask) (facts-trimmed life (last_of (trimmed life)) (binding_id_of ask)) ∙ by (last_or_gone life)
    where
      by : LastOrGone life → answer_by (since_birth life) (last_of (trimmed life)) ≡ answer_by (since_birth life) (last_of life)
      by (inl same) = ap (answer_by (since_birth life)) same
      by (inr gone) =
          ap (λ (since : Life). answer_by since (last_of (trimmed life))) gone.absent ∙ blind (last_of (trimmed life)) (last_of life)
          ∙ ap (λ (since : Life). answer_by since (last_of life)) (sym gone.absent)

-- ---- every ask

life_stays : (rules : Rules) (life : Life) (listing : List (List ℕ × Order)) (ask : Ask) → answer rules (view_data_of (trimmed life) listing ask) ask ≡ answer rules (view_data_of life listing ask) ask
life_stays rules life listing the.Catalog = refl
life_stays rules life listing (the.Provision ask) = by_facts rules life (the.Provision ask) (λ last other. refl)
life_stays rules life listing (the.Fetch ask) = by_facts rules life (the.Fetch ask) (λ last other. refl)
life_stays rules life listing (the.Update ask) = by_facts rules life (the.Update ask) (λ last other. refl)
life_stays rules life listing (the.Deprovision ask) = by_facts rules life (the.Deprovision ask) (λ last other. refl)
life_stays rules life listing (the.InstanceOp ask) =
    same_read (poll_by Delete ask.operation) (poll_by-erased Delete ask.operation) (filter is_of_instance (trimmed life)) (filter is_of_instance life) (of_instance life)
life_stays rules life listing (the.Bind ask) = by_facts rules life (the.Bind ask) (λ last other. refl)
life_stays rules life listing (the.FetchBinding ask) = by_facts rules life (the.FetchBinding ask) (λ last other. refl)
life_stays rules life listing (the.Unbind ask) = by_facts rules life (the.Unbind ask) (λ last other. refl)
life_stays rules life listing (the.BindingOp ask) =
    same_read (poll_by Unbind ask.operation) (poll_by-erased Unbind ask.operation) (filter (is_of_binding ask.binding) (trimmed life)) (filter (is_of_binding ask.binding) life) (of_binding ask.binding life)
life_stays rules life listing (the.Orders ask) = refl
life_stays rules life listing (the.Report ask) = same_read (λ (orders : Life). report ask (order_numbered ask.number orders)) (reported ask) (trimmed life) life (erased-trimmed life)

listing_for-trimmed : (lives : Lives) (ask : Ask) → listing_for (trimmed_lives lives) ask ≡ listing_for lives ask
listing_for-trimmed lives (the.Orders ask) = listing-trimmed lives _ 100
listing_for-trimmed lives _ = refl

pub answer_stays : (rules : Rules) (lives : Lives) (ask : Ask) → answer_to rules (trimmed_lives lives) ask ≡ answer_to rules lives ask
answer_stays rules lives ask =
    ap (λ (life : Life). answer rules (view_data_of life (listing_for (trimmed_lives lives) ask) ask) ask) (named_life-trimmed lives (instance_id_of ask))
    ∙ ap (λ (listing : List (List ℕ × Order)). answer rules (view_data_of (trimmed (named_life lives (instance_id_of ask))) listing ask) ask) (listing_for-trimmed lives ask)
    ∙ life_stays rules (named_life lives (instance_id_of ask)) (listing_for lives ask) ask
