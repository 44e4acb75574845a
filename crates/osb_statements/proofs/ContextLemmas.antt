-- Lives and their contexts, which the orders alone don't tell.
use Rattle.std.proofs.Common.{◌≡◌, inl, ℕ, ◌+◌, ◌<◌, ◌==◌, Bool, true, false, IsTrue, List, [], ◌∷◌, ◌++◌, map, filter, take, get_or, length, Option, None, Some, option_map, refl, sym, ap, subst, ◌∙◌, arith}
use Rattle.std.specs.Prelude.{option_and_then}
use Rattle.std.specs.List.{AllByRecursion}
use Rattle.std.specs.FinMap.{get}
use Rattle.sqlite.specs.Tree.{Trees}
use Rattle.sqlite.specs.Effect.{Database}
use Rattle.sqlite.specs.State.{State, HasCleanDisk, IsUnchanged, Survives}
use Rattle.sqlite.proofs.StateLemmas.{unchanged, survives_then}
use Rattle.sqlite.proofs.Callers.{unchanged_then}
use Rattle.sqlite.specs.Change.{KeepsRows}
use Rattle.osb_asks.specs.declared.ask.Ask.{Ask}
use Rattle.osb_orders.specs.declared.order.OrderKind.{OrderKind}
use Rattle.osb_orders.specs.declared.order.OrderKind.TheVariants as kind
use Rattle.osb_orders.specs.declared.order.OrderState.{OrderState}
use Rattle.osb_orders.specs.declared.order.OrderState.TheVariants as state
use Rattle.osb_orders.specs.declared.order.Outcome.{Outcome}
use Rattle.osb_orders.specs.declared.order.Order.{Order}
use Rattle.osb_orders.specs.declared.order.Change.{Change}
use Rattle.osb_orders.specs.declared.order.Change.TheVariants.{Append, Finish}
use Rattle.osb_orders.specs.Lists.{last_of, last_from}
use Rattle.osb_orders.specs.Orders.{is_a, kind_number}
use Rattle.osb_orders.specs.Life.{Life}
use Rattle.osb_orders.specs.Lives.{Lives, life_of}
use Rattle.osb_asks.specs.Subjects.{binding_id_of}
use Rattle.osb_orders.specs.Named.{subject, named_in}
use Rattle.osb_orders.specs.Listing.{listing}
use Rattle.osb_orders.specs.Changed.{with_outcome, lives_changed}
use Rattle.osb_orders.specs.IsLife.{IsLives}
use Rattle.osb_orders.specs.Allowed.{IsFinishable}
use Rattle.osb_standing.specs.declared.read.Read.{Read}
use Rattle.osb_standing.specs.Rows.{row_of, bindings_of}
use Rattle.osb_standing.specs.Laws.{has_rows}
use Rattle.osb_standing.specs.Read.{IsReadOf}
use Rattle.osb_standing.specs.Written.{order_written, IsWritten}
use Rattle.osb_audit.specs.Orders.{Entry, lives_in}
use Rattle.osb_audit.specs.declared.counting.Counts.{Counts}
use Rattle.osb_audit.specs.Counts.{AreCounts}
use Rattle.osb_audit.specs.Plans.{plans_in_use}
use Rattle.osb_bare.specs.Bare.{bare_order, bare_life, bare_lives, bare_entry}
use Rattle.osb_bare.specs.Context.{context_over}
use Rattle.osb_bare.proofs.LifeLemmas.{last_of-bare, bindings_of-bare, written-bare}
use Rattle.osb_bare.proofs.LivesLemmas.{life_of-bare, is_lives-bare, lives_changed-bare, lives_in-bare}
use Rattle.osb_bare.proofs.CountLemmas.{counts-bare}
use Rattle.osb_bare.proofs.ViewLemmas.{plans_in_use-bare}
use Rattle.osb_bare.proofs.WordLemmas.{allowed-bare}
use Rattle.osb_joined.specs.declared.entry.ContextEntry.{ContextEntry}
use Rattle.osb_joined.specs.Contexts.{is_context, context_of_order, contexts_of}
use Rattle.osb_joined.specs.Joined.{context_at, joined_order, joined_row, joined_entry}
use Rattle.osb_joined.specs.After.{standing_set, contexts_after}
use Rattle.osb_joined.proofs.LivesLemmas.{context_of_order_is, no_life, no_later_number}
use Rattle.osb_joined.proofs.JoinLemmas.{context_found, bare-joined, row_joined}
use Rattle.osb_joined.proofs.OrderLemmas.{lives_joined, life_joined, last_joined, named_joined, subject_joined, listing_joined}
use Rattle.osb_joined.proofs.ChangeLemmas.{contexts_changed, create_ends}
use Rattle.osb_contexts.specs.Contexts.{contexts_in, HoldsContexts}
use Rattle.osb_contexts.specs.Ended.{ended_over, contexts_ended}
use Rattle.osb_contexts.specs.Reads.{IsRunning}
use Rattle.osb_contexts.specs.Steps.{contexts, HasContexts, ShowsContexts, ContextSteps}
use Rattle.osb_contexts.proofs.SortLemmas.{contexts_are, held_again}
use Rattle.osb_contexts.proofs.StepLemmas.{within_then, clean_before}
use Rattle.osb_tables.specs.Tables.{tables_schema}
use Rattle.osb_statements.specs.Stored.{AreBare, HoldsEntries, entries_in, content_in, bare_lives_in, lives_stored}
use Rattle.osb_statements.specs.Standing.{IsConsistent}
use Rattle.osb_statements.specs.Steps.{IsReady, stored, bare_in}
use Rattle.osb_statements.specs.Queries.{ShowsRecords, HasLives, ShowsLives}
use Rattle.osb_statements.specs.Asked.{IsJoinedRead}
use Rattle.osb_statements.specs.Inside.{Writes}
use Rattle.osb_statements.specs.LivesWritten.{WritesLives}
use Rattle.osb_statements.proofs.BareLemmas.{stored_bare}
use Rattle.osb_statements.proofs.CommitLemmas.{append_written, finish_written}
use Rattle.osb_contexts.proofs.ReadLemmas.{told_push}

-- ---- what the orders store

pub same_entries : (entries : List Entry) → AreBare entries → map bare_entry entries ≡ entries
same_entries [] bare = refl
same_entries (entry ∷ entries) bare = λ i. (entry.0, bare.0 i) ∷ same_entries entries bare.1 i

-- the lives that the orders store have no contexts
pub told_is_bare : (db : Trees) → bare_lives (bare_lives_in db) ≡ bare_lives_in db
told_is_bare db = sym (lives_in-bare (entries_in db)) ∙ ap lives_in (same_entries (entries_in db) (stored_bare db))

-- they are those that are stored, without the contexts
pub told_bare : (db : Trees) → bare_lives_in db ≡ bare_lives (lives_stored db)
told_bare db = sym (bare-joined (contexts_in db) (bare_lives_in db) ∙ told_is_bare db)

pub life_bare : (db : Trees) (id : List ℕ) → life_of (bare_lives_in db) id ≡ bare_life (life_of (lives_stored db) id)
life_bare db id = ap (λ lives. life_of lives id) (told_bare db) ∙ life_of-bare (lives_stored db) id

-- lives and their contexts make up what is stored
pub stored_is : (db : Trees) (lives : Lives) → IsLives lives → bare_lives_in db ≡ bare_lives lives → contexts_in db ≡ contexts_of lives → lives_stored db ≡ lives
stored_is db lives whole orders entries = rw (orders, entries) (lives_joined lives whole)

-- ---- what a connection shows

pub ready_lives : (s : State) → IsReady s → ShowsLives s
ready_lives s ready clean live = record {
  records = record {
    tables = ready.tables clean live;
    lives = subst IsLives (sym (told_bare s.now.trees)) (is_lives-bare (stored s) (ready.lives clean live));
    standing = ready.standing clean live;
  };
  lives = ready.lives clean live;
  contexts = ready.contexts clean live;
}

pub shows_records : (s : State) → ShowsLives s → ShowsRecords s
shows_records s shows clean live = (shows clean live).records

pub has_contexts : (db : Database) → HasLives db → HasContexts db
has_contexts db has = record { schema = has.records.tables.schema; holds = held_again db.trees (contexts_of (lives_stored db.trees)) has.contexts }

pub shows_contexts : (s : State) → ShowsLives s → ShowsContexts s
shows_contexts s shows clean live = has_contexts s.now (shows clean live)

pub contexts_stored : (db : Database) → HasLives db → contexts_in db.trees ≡ contexts_of (lives_stored db.trees)
contexts_stored db has = contexts_are db.trees (contexts_of (lives_stored db.trees)) has.contexts

-- ---- orders and contexts that were written

-- the rows of the four tables hold what they held
module _ (a b : Trees) (kept : KeepsRows (tables_schema).tables a b) where
  pub holds_along : (version : ℕ) → HoldsEntries version a → HoldsEntries version b
  holds_along version it = record {
    format = rw (kept.0) it.format;
    orders = rw (kept.1.0) it.orders;
    instances = rw (kept.1.1.0) it.instances;
    bindings = rw (kept.1.1.1.0) it.bindings;
  }

  pub content_along : IsConsistent (content_in a) → IsConsistent (content_in b)
  content_along it = record { instances = rw (kept.1.0, kept.1.1.0) it.instances; bindings = rw (kept.1.0, kept.1.1.1.0) it.bindings }

  pub told_along : bare_lives_in b ≡ bare_lives_in a
  told_along = rw (kept.1.0) refl

joined_writes : (old mid new : State) (lives : Lives) → IsLives lives → Writes old mid (bare_lives lives) → ContextSteps mid new (contexts_of lives) → WritesLives old new lives
joined_writes old mid new lives whole writes it = record {
  within = within_then old mid new writes.within it.within;
  tables = record { schema = it.tables.schema; holds = holds_along mid.now.trees new.now.trees it.kept 2 writes.tables.holds };
  lives_are = stored_is new.now.trees lives whole (told_along mid.now.trees new.now.trees it.kept ∙ writes.lives_are) it.contexts_are;
  standing = content_along mid.now.trees new.now.trees it.kept writes.standing;
  contexts = subst (λ entries. HoldsContexts entries new.now.trees) it.contexts_are it.tables.holds;
  sound = it.sound;
}

pub still_running : (old mid : State) (next : Lives) → Writes old mid next → IsRunning mid
still_running old mid next writes = record { inside = writes.within.inside; is_open = writes.within.is_open; sound = writes.sound }

-- the end of a Create leaves what stands, and other ends do what the orders would have done at once
ended_create : (k : OrderKind) (s : OrderState) (context : List ℕ) → (kind_number k == 1) ≡ true → ended_over k s context ≡ None
ended_create kind.Create s context is = refl
ended_create _ s context is = absurd (cc)

ended_other : (k : OrderKind) (s : OrderState) (context : List ℕ) → (kind_number k == 1) ≡ false → ended_over k s context ≡ context_over k s context
ended_other kind.Create s context is = absurd (cc)
ended_other kind.Update state.Running context is = refl
ended_other kind.Update state.Succeeded context is = refl
ended_other kind.Update state.Failed context is = refl
ended_other kind.Delete state.Running context is = refl
ended_other kind.Delete state.Succeeded context is = refl
ended_other kind.Delete state.Failed context is = refl
ended_other kind.Bind s context is = refl
ended_other kind.Unbind s context is = refl

module _ (old : State) (has : HasLives old.now) (id : List ℕ) where
  abbrev lives : Lives
  lives = stored old

  change_bare : (change bare : Change) → lives_changed bare id (bare_lives lives) ≡ bare_lives (lives_changed change id lives) → lives_changed bare id (bare_in old) ≡ bare_lives (lives_changed change id lives)
  change_bare change bare law = ap (lives_changed bare id) (told_bare old.now.trees) ∙ law

  kept_contexts : (mid : State) (next : Lives) → Writes old mid next → contexts mid ≡ contexts_of lives
  kept_contexts mid next writes = rw (writes.contexts_kept) (contexts_stored old.now has)

  pub still_contexts : (mid : State) (next : Lives) → Writes old mid next → HasContexts mid.now
  still_contexts mid next writes = record { schema = writes.tables.schema; holds = held_again mid.now.trees (contexts_of lives) (rw (writes.contexts_kept) has.contexts) }

  module _ (order : Order) (after : IsLives (lives_changed (Append order) id lives)) where
    written : IsWritten (life_of lives id) (Append order) order
    written = append_written lives id order has.lives after

    append_bare : lives_changed (Append (bare_order order)) id (bare_in old) ≡ bare_lives (lives_changed (Append order) id lives)
    append_bare = change_bare (Append order) (Append (bare_order order)) (lives_changed-bare (Append order) id lives)

    pub whole_bare : IsLives (lives_changed (Append (bare_order order)) id (bare_in old))
    whole_bare = subst IsLives (sym append_bare) (is_lives-bare _ after)

    pub no_row : (mid : State) (next : Lives) → Writes old mid next → filter (is_context id order.number) (contexts mid) ≡ []
    no_row mid next writes = ap (filter (is_context id order.number)) (kept_contexts mid next writes) ∙ no_later_number lives id order.number has.lives (omega (arith, written.allowed.next.number))

    pub none_stands : (mid : State) (next : Lives) → Writes old mid next → order.number ≡ 1 → filter (is_context id 0) (contexts mid) ≡ []
    none_stands mid next writes first = ap (filter (is_context id 0)) (kept_contexts mid next writes) ∙ no_life lives id 0 (none (life_of lives id) (omega (arith, written.allowed.next.number, first)))
      where
        none : (life : Life) → length life ≡ 0 → life ≡ []
        none [] is = refl
        none (first ∷ later) is = absurd (omega (arith, is))

    pub appended : (mid new : State) → Writes old mid (lives_changed (Append (bare_order order)) id (bare_in old)) → ContextSteps mid new (contexts_after (Append order) order id (contexts mid)) → WritesLives old new (lives_changed (Append order) id lives)
    appended mid new writes it =
        let entries : contexts_after (Append order) order id (contexts mid) ≡ contexts_of (lives_changed (Append order) id lives) =
        ap (contexts_after (Append order) order id) (kept_contexts mid _ writes) ∙ sym (contexts_changed lives id (Append order) order has.lives written) in
        joined_writes old mid new _ after (subst (Writes old mid) append_bare writes) (subst (ContextSteps mid new) entries it)

  module _ (number : ℕ) (outcome : Outcome) (may : IsFinishable (life_of lives id) number outcome) where
    abbrev ends : Change
    ends = Finish number outcome

    pub may_bare : IsFinishable (life_of (bare_in old) id) number outcome
    may_bare = subst (λ life. IsFinishable life number outcome) (sym (life_bare old.now.trees id)) (allowed-bare (life_of lives id) ends may)

    end_bare : lives_changed ends id (bare_in old) ≡ bare_lives (lives_changed ends id lives)
    end_bare = change_bare ends ends (lives_changed-bare ends id lives)

    -- the order that ends the life, with the context that it has
    ending : (order : Order) → order_written (last_of (life_of (bare_in old) id)) ends ≡ Some order → (whole : Order) × IsWritten (life_of lives id) ends whole × (order ≡ bare_order whole)
    ending order writes = go (order_written (last_of (life_of lives id)) ends) refl
      where
        bare : order_written (last_of (life_of (bare_in old) id)) ends ≡ option_map bare_order (order_written (last_of (life_of lives id)) ends)
        bare = ap (λ life. order_written (last_of life) ends) (life_bare old.now.trees id) ∙ ap (λ last. order_written last ends) (last_of-bare (life_of lives id)) ∙ written-bare (last_of (life_of lives id)) ends

        same_some : {a b : Order} → ◌≡◌ {A = Option Order} (Some a) (Some b) → a ≡ b
        same_some is = cc

        go : (found : Option Order) → order_written (last_of (life_of lives id)) ends ≡ found → (whole : Order) × IsWritten (life_of lives id) ends whole × (order ≡ bare_order whole)
        go None is = let none : Some order ≡ None = sym writes ∙ bare ∙ ap (option_map bare_order) is in absurd (cc)
        go (Some whole) is = (whole, finish_written lives id number outcome whole has.lives may is, same_some (sym writes ∙ bare ∙ ap (option_map bare_order) is))

    -- the entries have its context
    context_is : (whole : Order) → IsWritten (life_of lives id) ends whole → context_at (contexts_of lives) id whole.number ≡ whole.attributes.context
    context_is whole written = go (life_of lives id) (context_of_order_is lives id has.lives) written.writes
      where
        Fits : Order → Type 0
        Fits order = filter (is_context id order.number) (contexts_of lives) ≡ context_of_order id order ∷ []

        last : (order : Order) (later : Life) → Fits order → AllByRecursion Fits later → Fits (last_from order later)
        last order [] it own = it
        last order (next ∷ later) it own = last next later own.0 own.1

        same_some : {a b : Order} → ◌≡◌ {A = Option Order} (Some a) (Some b) → a ≡ b
        same_some is = cc

        go : (life : Life) → AllByRecursion Fits life → order_written (last_of life) ends ≡ Some whole → context_at (contexts_of lives) id whole.number ≡ whole.attributes.context
        go [] own writes = absurd (cc)
        go (first ∷ later) own writes =
            let is : with_outcome outcome (last_from first later) ≡ whole = same_some writes in
            subst (λ (order : Order). context_at (contexts_of lives) id order.number ≡ order.attributes.context) is
            (context_found (contexts_of lives) id (last_from first later).number (last_from first later).attributes.context (last first later own.0 own.1))

    -- what ends leaves the contexts of the changed lives
    ended_after : (order : Order) → order_written (last_of (life_of (bare_in old) id)) ends ≡ Some order → contexts_ended id order (contexts_of lives) ≡ contexts_of (lives_changed ends id lives)
    ended_after order writes =
        let it = ending order writes in
        let whole = it.0 in
        let written = it.1 in
        ap (λ (o : Order). contexts_ended id o (contexts_of lives)) it.2
        ∙ ap (λ context. standing_set false (ended_over whole.kind whole.outcome.state context) id (contexts_of lives)) (context_is whole written)
        ∙ by whole written (is_a kind.Create whole) refl
        ∙ sym (contexts_changed lives id ends whole has.lives written)
      where
        by : (whole : Order) → IsWritten (life_of lives id) ends whole → (creates : Bool) → is_a kind.Create whole ≡ creates
            → standing_set false (ended_over whole.kind whole.outcome.state whole.attributes.context) id (contexts_of lives) ≡ contexts_after ends whole id (contexts_of lives)
        by whole written true is = ap (λ edit. standing_set false edit id (contexts_of lives)) (ended_create whole.kind whole.outcome.state whole.attributes.context is) ∙ sym (create_ends lives id number outcome whole has.lives written is)
        by whole written false is = ap (λ edit. standing_set false edit id (contexts_of lives)) (ended_other whole.kind whole.outcome.state whole.attributes.context is)

    pub ended : (mid new : State) (order : Order) → IsLives (lives_changed ends id lives) → order_written (last_of (life_of (bare_in old) id)) ends ≡ Some order
        → Writes old mid (lives_changed ends id (bare_in old)) → ContextSteps mid new (contexts_ended id order (contexts mid)) → WritesLives old new (lives_changed ends id lives)
    ended mid new order after writes_order writes it =
        let entries : contexts_ended id order (contexts mid) ≡ contexts_of (lives_changed ends id lives) = ap (contexts_ended id order) (kept_contexts mid _ writes) ∙ ended_after order writes_order in
        joined_writes old mid new _ after (subst (Writes old mid) end_bare writes) (subst (ContextSteps mid new) entries it)

-- ---- what is read

module _ (db : Database) (has : HasLives db) where
  abbrev found : Lives
  found = lives_stored db.trees

  abbrev entries : List ContextEntry
  entries = contexts_in db.trees

  pub life_read : (id : List ℕ) → map (joined_order entries id) (life_of (bare_lives_in db.trees) id) ≡ life_of found id
  life_read id =
      ap (λ es. map (joined_order es id) (life_of (bare_lives_in db.trees) id)) (contexts_stored db has)
      ∙ ap (map (joined_order (contexts_of found) id)) (life_bare db.trees id)
      ∙ life_joined found has.lives id

  pub listing_read : (after : List ℕ) (limit : ℕ) → map (joined_entry entries) (listing (bare_lives_in db.trees) after limit) ≡ listing found after limit
  listing_read after limit =
      ap (λ es. map (joined_entry es) (listing (bare_lives_in db.trees) after limit)) (contexts_stored db has)
      ∙ ap (λ lives. map (joined_entry (contexts_of found)) (listing lives after limit)) (told_bare db.trees)
      ∙ listing_joined found has.lives after limit

  pub plans_read : plans_in_use (bare_lives_in db.trees) ≡ plans_in_use found
  plans_read = ap plans_in_use (told_bare db.trees) ∙ plans_in_use-bare found

  pub counts_read : (counts : Counts) → AreCounts (bare_lives_in db.trees) counts → AreCounts found counts
  counts_read counts are = counts-bare found counts (subst (λ (lives : Lives). AreCounts lives counts) (told_bare db.trees) are)

  pub read_joined : (id : List ℕ) (ask : Ask) (read joined : Read) → IsReadOf (life_of (bare_lives_in db.trees) id) [] ask read → IsJoinedRead entries id read joined → IsReadOf (life_of found id) [] ask joined
  read_joined id ask read joined is joins =
      let life = life_of found id in
      let same = life_bare db.trees id in
      let known = contexts_stored db has in
      record {
        row = joins.row ∙ ap (option_map (joined_row entries id)) (is.row ∙ ap row_of same) ∙ ap (λ es. option_map (joined_row es id) (row_of (bare_life life))) known ∙ row_joined found id has.lives;
        last = joins.last ∙ ap (option_map (joined_order entries id)) (is.last ∙ ap last_of same) ∙ ap (λ es. option_map (joined_order es id) (last_of (bare_life life))) known ∙ last_joined found has.lives id;
        binding = joins.binding ∙ is.binding ∙ ap (λ l. option_and_then (λ binding. get (bindings_of l) binding) (binding_id_of ask)) same ∙ ap (λ bindings. option_and_then (λ binding. get bindings binding) (binding_id_of ask)) (bindings_of-bare life);
        named = joins.named ∙ ap (option_map (joined_order entries id)) (is.named ∙ ap (named_in ask) same) ∙ ap (λ es. option_map (joined_order es id) (named_in ask (bare_life life))) known ∙ named_joined found has.lives ask id;
        subject_last = joins.subject_last ∙ ap (option_map (joined_order entries id)) (is.subject_last ∙ ap (λ l. last_of (subject ask l)) same) ∙ ap (λ es. option_map (joined_order es id) (last_of (subject ask (bare_life life)))) known ∙ subject_joined found has.lives ask id;
        bound = joins.bound ∙ is.bound ∙ ap (λ l. has_rows (bindings_of l)) same ∙ ap has_rows (bindings_of-bare life);
        listed = joins.listed ∙ is.listed;
      }

-- ---- loops over orders, each of which gets its context

-- the contexts of a store that was left as it was are the same
pub same_contexts : (old new : State) → IsUnchanged old new → contexts new ≡ contexts old
same_contexts old new same = ap (λ (db : Database). contexts_in db.trees) same.0.now_is

pub still_shown : (now next : State) → Survives now next (λ _. ⊥) → ShowsContexts now → (HasCleanDisk next → IsUnchanged now next) → ShowsContexts next
still_shown now next survives shows same clean live =
    let unchanged = same clean in
    subst HasContexts (sym unchanged.0.now_is) (shows (clean_before now next _ survives clean) unchanged.0.was_open)

-- so far these items were joined, and nothing was changed
pub record HasJoined {E : Type 0} (join : State → E → E) (old now : State) (items : List E) (at : ℕ) (joined : List E) : Type 0 where
  pub shows : ShowsContexts now
  pub survives : Survives old now (λ _. ⊥)
  pub was_open : HasCleanDisk now → IsTrue now.is_open → IsTrue old.is_open
  pub same : HasCleanDisk now → IsTrue old.is_open → IsUnchanged old now
  pub joins : HasCleanDisk now → IsTrue old.is_open → joined ≡ map (join old) (take at items)

module _ {E : Type 0} (join : State → E → E) where
  pub none_joined : (s : State) (items joined : List E) → joined ≡ [] → ShowsContexts s → HasJoined join s s items 0 joined
  none_joined s items joined none shows = record {
    shows = shows;
    survives = record { clean = omega arith; shield = λ shielded. shielded; counts = omega arith; limit = refl; closes = λ _ live. inl live; crash = λ _ db left. inl left };
    was_open = λ _ live. live;
    same = λ _ live. unchanged s live;
    joins = λ _ _. none;
  }

  module _ (by_contexts : (one other : State) → contexts one ≡ contexts other → (item : E) → join one item ≡ join other item) where
    pub next_joined : (old now next : State) (items : List E) (at : ℕ) (item : E) (joined more : List E) (found : E) → HasJoined join old now items at joined → Survives now next (λ _. ⊥)
        → (HasCleanDisk next → IsUnchanged now next) → (HasCleanDisk next → found ≡ join now item) → at < length items → item ≡ get_or items at item → more ≡ joined ++ found ∷ [] → HasJoined join old next items (at + 1) more
    next_joined old now next items at item joined more found so_far survives same is low get grown = record {
      shows = still_shown now next survives so_far.shows same;
      survives = survives_then old now next (λ _. ⊥) (λ _. ⊥) (λ _. ⊥) (λ _ db none. none) (λ _ db none. none) so_far.survives survives;
      was_open = λ clean live. so_far.was_open (clean_before now next _ survives clean) (same clean).0.was_open;
      same = λ clean live. unchanged_then old now next (so_far.same (clean_before now next _ survives clean) live) (same clean);
      joins = λ clean live.
          let before = clean_before now next _ survives clean in
          told_push (join old) items at item joined more found low get (so_far.joins before live) grown (is clean ∙ by_contexts now old (same_contexts old now (so_far.same before live)) item);
    }
