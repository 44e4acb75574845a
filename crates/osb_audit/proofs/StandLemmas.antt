-- The first instance stands by itself, and the others without it.
use Rattle.std.proofs.Common.{append-nil, ◌≡◌, ◌≢◌, ℕ, Bool, true, false, cond, ◌==◌, length, List, [], ◌∷◌, ◌++◌, map, filter, bytes_eq, Option, Some, None, Less, is_gt, refl, sym, ◌∙◌, ap, subst}
use Rattle.std.specs.Prelude.{IfSome, ◌↔◌}
use Rattle.std.specs.Option.{option_to_list}
use Rattle.std.specs.List.{AllByRecursion}
use Rattle.std.specs.FinMap.{entries}
use Rattle.std.specs.Cmp.{tied_itself}
use Rattle.std.specs.Cmp.Lexicographic.{nat_list_cmp_total}
use Rattle.std.proofs.lemmas.Map.Keys.{sorted_head, sorted_tail}
use Rattle.osb_orders.specs.Life.{Life}
use Rattle.osb_text.specs.Id.{is_id}
use Rattle.osb_orders.specs.IsLife.{IsLife, IsInstance}
use Rattle.osb_standing.specs.declared.row.InstanceRow.{InstanceRow}
use Rattle.osb_standing.specs.Rows.{row_of, bindings_of}
use Rattle.osb_audit.specs.declared.entry.BindingEntry.{BindingEntry}
use Rattle.osb_audit.specs.Orders.{Entry, entry_cmp, is_of}
use Rattle.osb_audit.specs.Instances.{InstanceEntry, instance_cmp, is_instance}
use Rattle.osb_audit.specs.Bindings.{binding_entry, binding_cmp, is_bound}
use Rattle.osb_audit.specs.Runs.{run, past}
use Rattle.osb_audit.specs.Audit.{AreSorted, AreConsistent}
use Rattle.osb_audit.specs.Life.{orders_in, IsConsistentAlone}
use Rattle.std.proofs.lemmas.List.{nil_from_length}
use Rattle.osb_audit.proofs.TreeLemmas.{through, zero_is}
use Rattle.osb_audit.proofs.RunLemmas.{same_text, text_itself, by_bytes, UpTo, not_itself, first_up, past_rises, others_past, run_first, Begins, none_past, climbs}
use Rattle.osb_audit.proofs.LivesLemmas.{life_in, opened, StandsAt, stands_at, stand_from, no_bindings}

-- ---- a row and its life

abbrev pub shown : List ℕ → Option InstanceRow → List InstanceEntry
shown id row = map (λ (row : InstanceRow). (id, row)) (option_to_list row)

abbrev pub first_of : List InstanceEntry → Option InstanceRow
first_of [] = None
first_of (entry ∷ rows) = Some entry.1

pub first_shown : (id : List ℕ) (found : Option InstanceRow) → first_of (shown id found) ≡ found
first_shown id None = refl
first_shown id (Some row) = refl

-- the only row is the life's
only_row : (id : List ℕ) (row : InstanceRow) (found : Option InstanceRow) (rest : List InstanceEntry) → (id, row) ∷ rest ≡ shown id found → found ≡ Some row
only_row id row found rest e = sym (ap first_of e ∙ first_shown id found)

-- where there is none, the life has no orders
no_row : (id : List ℕ) (life : Life) → [] ≡ shown id (row_of life) → life ≡ []
no_row id [] e = refl
no_row id (order ∷ life) e = cc

instance_from : (id : List ℕ) (row : InstanceRow) (life : Life) → row_of life ≡ Some row → IfSome (opened life) (IsInstance id) → IsInstance id life
instance_from id row [] e h = cc
instance_from id row (order ∷ life) e h = h

instance_to : (id : List ℕ) (row : InstanceRow) (life : Life) → row_of life ≡ Some row → is_id id ≡ true → IsLife life → IfSome (opened life) (IsInstance id)
instance_to id row [] e named h = tt
instance_to id row (order ∷ life) e named h = record { id = named; opened = λ none. cc; life = h }

no_rows : (id : List ℕ) → map (binding_entry id) (entries (bindings_of [])) ≡ []
no_rows id = ap (map (binding_entry id)) no_bindings

-- ---- by the filters alone

moved : (id : List ℕ) (life new : Life) (instances rows : List InstanceEntry) (bindings others : List BindingEntry) → life ≡ new → filter (is_instance id) instances ≡ filter (is_instance id) rows → filter (is_bound id) bindings ≡ filter (is_bound id) others →
    StandsAt id life instances bindings → StandsAt id new rows others
moved id life new instances rows bindings others same row bound s = record {
  instance = subst (λ (life : Life). IfSome (opened life) (IsInstance id)) same s.instance;
  row = sym row ∙ s.row ∙ ap (λ (life : Life). shown id (row_of life)) same;
  bound = sym bound ∙ s.bound ∙ ap (λ (life : Life). map (binding_entry id) (entries (bindings_of life))) same;
}

-- nothing stands at an id that has no orders
nothing_at : (id : List ℕ) (rows : List InstanceEntry) (others : List BindingEntry) → filter (is_instance id) rows ≡ [] → filter (is_bound id) others ≡ [] → StandsAt id [] rows others
nothing_at id rows others row bound = record { instance = tt; row = row; bound = bound ∙ sym (no_rows id) }

no_orders : (entries : List Entry) → orders_in entries ≡ [] → entries ≡ []
no_orders [] e = refl
no_orders (entry ∷ entries) e = cc

-- ---- keys

abbrev entry_key : Entry → List ℕ
entry_key entry = entry.0

abbrev binding_key : BindingEntry → List ℕ
binding_key entry = entry.instance

abbrev AllAfter : List ℕ → List InstanceEntry → Type 0
AllAfter id rows = AllByRecursion (λ (entry : InstanceEntry). by_bytes id entry.0 ≡ Less) rows

none_after : (id : List ℕ) (rows : List InstanceEntry) → AllAfter id rows → filter (is_instance id) rows ≡ []
none_after id [] h = refl
none_after id (entry ∷ rows) h = ap (λ b. cond b (entry ∷ filter (is_instance id) rows) (filter (is_instance id) rows)) (not_itself id entry.0 h.0) ∙ none_after id rows h.1

-- a key among the rows is after the first
among : (id key : List ℕ) (rows : List InstanceEntry) → AllAfter id rows → filter (is_instance key) rows ≢ [] → by_bytes id key ≡ Less
among id key [] h some = absurd (some refl)
among id key (entry ∷ rows) h some = go (bytes_eq entry.0 key) refl some (among id key rows h.1)
  where
    go : (b : Bool) → bytes_eq entry.0 key ≡ b → cond b (entry ∷ filter (is_instance key) rows) (filter (is_instance key) rows) ≢ [] → (filter (is_instance key) rows ≢ [] → by_bytes id key ≡ Less) → by_bytes id key ≡ Less
    go true e some more = subst (λ (key : List ℕ). by_bytes id key ≡ Less) (same_text entry.0 key e) h.0
    go false e some more = more some

up_to : (id key : List ℕ) → by_bytes id key ≡ Less → UpTo id key
up_to id key e = ap is_gt e

up_itself : (id key : List ℕ) → bytes_eq id key ≡ true → UpTo id key
up_itself id key e = subst (λ (key : List ℕ). UpTo id key) (same_text id key e) (ap is_gt (tied_itself nat_list_cmp_total id))

begins_orders : (id : List ℕ) (orders : List Entry) → ((key : List ℕ) → life_in key orders ≢ [] → UpTo id key) → Begins entry_key id orders
begins_orders id [] above = tt
begins_orders id (entry ∷ orders) above = above entry.0 (λ none. let e = ap (λ b. orders_in (cond b (entry ∷ filter (is_of entry.0) orders) (filter (is_of entry.0) orders))) (text_itself entry.0) in let f = sym e ∙ none in cc)

begins_bindings : (id : List ℕ) (bindings : List BindingEntry) → ((key : List ℕ) → filter (is_bound key) bindings ≢ [] → UpTo id key) → Begins binding_key id bindings
begins_bindings id [] above = tt
begins_bindings id (entry ∷ bindings) above = above entry.instance (λ none. let e = ap (λ b. cond b (entry ∷ filter (is_bound entry.instance) bindings) (filter (is_bound entry.instance) bindings)) (text_itself entry.instance) in let f = sym e ∙ none in cc)

-- ---- the first instance and the others

module _ (id : List ℕ) (row : InstanceRow) (rows : List InstanceEntry) (orders : List Entry) (bindings : List BindingEntry) where
  abbrev life : List Entry
  life = run (is_of id) orders

  abbrev later : List Entry
  later = past (is_of id) orders

  abbrev bound : List BindingEntry
  bound = run (is_bound id) bindings

  abbrev others : List BindingEntry
  others = past (is_bound id) bindings

  life_is : filter (is_of id) later ≡ [] → life_in id orders ≡ orders_in life
  life_is none = ap orders_in (run_first entry_key id orders ∙ ap (λ (rest : List Entry). life ++ rest) none ∙ append-nil life)

  bound_is : filter (is_bound id) others ≡ [] → filter (is_bound id) bindings ≡ bound
  bound_is none = run_first binding_key id bindings ∙ ap (λ (rest : List BindingEntry). bound ++ rest) none ∙ append-nil bound

  first_row : filter (is_instance id) ((id, row) ∷ rows) ≡ (id, row) ∷ filter (is_instance id) rows
  first_row = ap (λ b. cond b ((id, row) ∷ filter (is_instance id) rows) (filter (is_instance id) rows)) (text_itself id)

  other_rows : (q : List ℕ) → bytes_eq id q ≡ false → filter (is_instance q) ((id, row) ∷ rows) ≡ filter (is_instance q) rows
  other_rows q other = ap (λ b. cond b ((id, row) ∷ filter (is_instance q) rows) (filter (is_instance q) rows)) other

  other_life : (q : List ℕ) → bytes_eq id q ≡ false → life_in q later ≡ life_in q orders
  other_life q other = ap orders_in (others_past entry_key id q other orders)

  other_bound : (q : List ℕ) → bytes_eq id q ≡ false → filter (is_bound q) others ≡ filter (is_bound q) bindings
  other_bound q other = others_past binding_key id q other bindings

  module _ (alone : IsConsistentAlone id row (orders_in life) bound) (none_rows : filter (is_instance id) rows ≡ []) (rest : AreConsistent later rows others) where
    -- nothing of the first instance is left
    rest_at : StandsAt id (life_in id later) rows others
    rest_at = stands_at later rows others rest id

    rest_orders : life_in id later ≡ []
    rest_orders = no_row id (life_in id later) (sym none_rows ∙ rest_at.row)

    rest_bindings : filter (is_bound id) others ≡ []
    rest_bindings = rest_at.bound ∙ ap (λ (life : Life). map (binding_entry id) (entries (bindings_of life))) rest_orders ∙ no_rows id

    first_life : life_in id orders ≡ orders_in life
    first_life = life_is (no_orders (filter (is_of id) later) rest_orders)

    here : StandsAt id (life_in id orders) ((id, row) ∷ rows) bindings
    here = record {
      instance = subst (λ (life : Life). IfSome (opened life) (IsInstance id)) (sym first_life) (instance_to id row (orders_in life) alone.row_stands alone.named alone.is_life);
      row = first_row ∙ ap (λ (rows : List InstanceEntry). (id, row) ∷ rows) none_rows ∙ sym (ap (λ (life : Life). shown id (row_of life)) first_life ∙ ap (shown id) alone.row_stands);
      bound = bound_is rest_bindings ∙ alone.bound_stand ∙ sym (ap (λ (life : Life). map (binding_entry id) (entries (bindings_of life))) first_life);
    }

    joined_at : (q : List ℕ) (b : Bool) → bytes_eq id q ≡ b → StandsAt q (life_in q orders) ((id, row) ∷ rows) bindings
    joined_at q true e = subst (λ (q : List ℕ). StandsAt q (life_in q orders) ((id, row) ∷ rows) bindings) (same_text id q e) here
    joined_at q false e = moved q (life_in q later) (life_in q orders) rows ((id, row) ∷ rows) others bindings (other_life q e) (sym (other_rows q e)) (other_bound q e) (stands_at later rows others rest q)

    pub joined : AreConsistent orders ((id, row) ∷ rows) bindings
    joined = stand_from orders ((id, row) ∷ rows) bindings (λ q. joined_at q (bytes_eq id q) refl)

  module _ (rises : AreSorted orders ((id, row) ∷ rows) bindings) (whole : AreConsistent orders ((id, row) ∷ rows) bindings) where
    whole_at : (q : List ℕ) → StandsAt q (life_in q orders) ((id, row) ∷ rows) bindings
    whole_at = stands_at orders ((id, row) ∷ rows) bindings whole

    all_after : AllAfter id rows
    all_after = sorted_head instance_cmp (id, row) rows rises.instances_rise

    row_is : row_of (life_in id orders) ≡ Some row
    row_is = only_row id row (row_of (life_in id orders)) (filter (is_instance id) rows) (sym first_row ∙ (whole_at id).row)

    above : (key : List ℕ) (b : Bool) → bytes_eq id key ≡ b → life_in key orders ≢ [] → UpTo id key
    above key true e some = up_itself id key e
    above key false e some = up_to id key (among id key rows all_after (λ none. some (no_row key (life_in key orders) (sym (other_rows key e ∙ none) ∙ (whole_at key).row))))

    bound_above : (key : List ℕ) → filter (is_bound key) bindings ≢ [] → UpTo id key
    bound_above key some = above key (bytes_eq id key) refl (λ none. some ((whole_at key).bound ∙ ap (λ (life : Life). map (binding_entry key) (entries (bindings_of life))) none ∙ no_rows key))

    none_later : filter (is_of id) later ≡ []
    none_later = none_past entry_key id orders (climbs entry_key id entry_cmp (λ a b e. first_up _ _ e) orders rises.orders_rise) (begins_orders id orders (λ key. above key (bytes_eq id key) refl))

    none_others : filter (is_bound id) others ≡ []
    none_others = none_past binding_key id bindings (climbs binding_key id binding_cmp (λ a b e. first_up _ _ e) bindings rises.bindings_rise) (begins_bindings id bindings bound_above)

    its_life : life_in id orders ≡ orders_in life
    its_life = life_is none_later

    instance : IsInstance id (life_in id orders)
    instance = instance_from id row (life_in id orders) row_is (whole_at id).instance

    pub alone : IsConsistentAlone id row (orders_in life) bound
    alone = record {
      named = instance.id;
      is_life = subst IsLife its_life instance.life;
      row_stands = ap row_of (sym its_life) ∙ row_is;
      bound_stand = sym (bound_is none_others) ∙ (whole_at id).bound ∙ ap (λ (life : Life). map (binding_entry id) (entries (bindings_of life))) its_life;
    }

    left_at : (q : List ℕ) (b : Bool) → bytes_eq id q ≡ b → StandsAt q (life_in q later) rows others
    left_at q true e = subst (λ (q : List ℕ). StandsAt q (life_in q later) rows others) (same_text id q e)
        (subst (λ (life : Life). StandsAt id life rows others) (sym (ap orders_in none_later)) (nothing_at id rows others (none_after id rows all_after) none_others))
    left_at q false e = moved q (life_in q orders) (life_in q later) ((id, row) ∷ rows) rows bindings others (sym (other_life q e)) (other_rows q e) (sym (other_bound q e)) (whole_at q)

    pub left : AreConsistent later rows others
    left = stand_from later rows others (λ q. left_at q (bytes_eq id q) refl)

  pub rises_on : AreSorted orders ((id, row) ∷ rows) bindings → AreSorted later rows others
  rises_on rises = record {
    orders_rise = past_rises (is_of id) entry_cmp orders rises.orders_rise;
    instances_rise = sorted_tail instance_cmp (id, row) rows rises.instances_rise;
    bindings_rise = past_rises (is_bound id) binding_cmp bindings rises.bindings_rise;
  }

  pub without_first : AreSorted orders ((id, row) ∷ rows) bindings → IsConsistentAlone id row (orders_in life) bound → AreConsistent later rows others ↔ AreConsistent orders ((id, row) ∷ rows) bindings
  without_first rises alone = (joined alone (none_after id rows (sorted_head instance_cmp (id, row) rows rises.instances_rise)), left rises)

-- ---- no instance

pub no_instances : (orders : List Entry) (bindings : List BindingEntry) → AreConsistent orders [] bindings → (orders ≡ []) × (bindings ≡ [])
no_instances orders bindings stand = (none_of orders (λ id. no_row id (life_in id orders) (at id).row), unbound bindings (λ id. (at id).bound ∙ ap (λ (life : Life). map (binding_entry id) (entries (bindings_of life))) (no_row id (life_in id orders) (at id).row) ∙ no_rows id))
  where
    at : (id : List ℕ) → StandsAt id (life_in id orders) [] bindings
    at = stands_at orders [] bindings stand

    none_of : (orders : List Entry) → ((id : List ℕ) → life_in id orders ≡ []) → orders ≡ []
    none_of [] none = refl
    none_of (entry ∷ orders) none = let e = ap (λ b. orders_in (cond b (entry ∷ filter (is_of entry.0) orders) (filter (is_of entry.0) orders))) (text_itself entry.0) in let f = sym e ∙ none entry.0 in cc

    unbound : (bindings : List BindingEntry) → ((id : List ℕ) → filter (is_bound id) bindings ≡ []) → bindings ≡ []
    unbound [] none = refl
    unbound (entry ∷ bindings) none = let e = ap (λ b. cond b (entry ∷ filter (is_bound entry.instance) bindings) (filter (is_bound entry.instance) bindings)) (text_itself entry.instance) in let f = sym e ∙ none entry.instance in cc

pub nothing_stands : AreConsistent [] [] []
nothing_stands = stand_from [] [] [] (λ id. nothing_at id [] [] refl refl)

-- ---- in the loop

module _ (id : List ℕ) (row : InstanceRow) (rows entries : List InstanceEntry) (is : entries ≡ (id, row) ∷ rows) (orders life later : List Entry) (bindings bound others : List BindingEntry)
    (is_life : life ≡ run (is_of id) orders) (is_later : later ≡ past (is_of id) orders) (is_bound_run : bound ≡ run (is_bound id) bindings) (is_others : others ≡ past (is_bound id) bindings) {W : Type 0}
    (so_far : AreSorted orders entries bindings × (AreConsistent orders entries bindings ↔ W)) where
  rises_first : AreSorted orders ((id, row) ∷ rows) bindings
  rises_first = subst (λ (entries : List InstanceEntry). AreSorted orders entries bindings) is so_far.0

  whole_first : AreConsistent orders ((id, row) ∷ rows) bindings ↔ W
  whole_first = subst (λ (entries : List InstanceEntry). AreConsistent orders entries bindings ↔ W) is so_far.1

  pub stepped : IsConsistentAlone id row (orders_in life) bound → AreSorted later rows others × (AreConsistent later rows others ↔ W)
  stepped stands =
      let by_itself = subst (λ (bound : List BindingEntry). IsConsistentAlone id row (orders_in (run (is_of id) orders)) bound) is_bound_run (subst (λ (life : List Entry). IsConsistentAlone id row (orders_in life) bound) is_life stands) in
      subst (λ (later : List Entry). AreSorted later rows others × (AreConsistent later rows others ↔ W)) (sym is_later)
      (subst (λ (others : List BindingEntry). AreSorted (past (is_of id) orders) rows others × (AreConsistent (past (is_of id) orders) rows others ↔ W)) (sym is_others)
      (rises_on id row rows orders bindings rises_first, through (without_first id row rows orders bindings rises_first by_itself) whole_first))

  pub stopped : (IsConsistentAlone id row (orders_in life) bound → ⊥) → W → ⊥
  stopped falls w =
      let by_itself = alone id row rows orders bindings rises_first (whole_first.1 w) in
      falls (subst (λ (life : List Entry). IsConsistentAlone id row (orders_in life) bound) (sym is_life) (subst (λ (bound : List BindingEntry). IsConsistentAlone id row (orders_in (run (is_of id) orders)) bound) (sym is_bound_run) by_itself))

module _ (entries : List InstanceEntry) (is : entries ≡ []) (orders : List Entry) (bindings : List BindingEntry) {W : Type 0} (so_far : AreConsistent orders entries bindings ↔ W) where
  whole_last : AreConsistent orders [] bindings ↔ W
  whole_last = subst (λ (entries : List InstanceEntry). AreConsistent orders entries bindings ↔ W) is so_far

  pub orders_left : (length orders == 0) ≡ false → W → ⊥
  orders_left some w = let none : (length orders == 0) ≡ true = ap (λ (orders : List Entry). length orders == 0) (no_instances orders bindings (whole_last.1 w)).0 in let e = sym some ∙ none in cc

  pub no_orders_left : (length orders == 0) ≡ true → (answer : Bool) → answer ≡ (length bindings == 0) → (answer ≡ true) ↔ W
  no_orders_left none answer told = (
    λ e.
        let no_order : orders ≡ [] = nil_from_length orders (zero_is (length orders) none) in
        let no_binding : bindings ≡ [] = nil_from_length bindings (zero_is (length bindings) (sym told ∙ e)) in
        whole_last.0 (subst (λ (orders : List Entry). AreConsistent orders [] bindings) (sym no_order) (subst (λ (bindings : List BindingEntry). AreConsistent [] [] bindings) (sym no_binding) nothing_stands)),
    λ w. told ∙ ap (λ (bindings : List BindingEntry). length bindings == 0) (no_instances orders bindings (whole_last.1 w)).1,
  )
