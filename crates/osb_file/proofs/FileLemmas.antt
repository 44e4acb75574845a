-- The lives in a database that was opened.
use Rattle.std.proofs.Common.{◌≡◌, ◌≢◌, ◌⊎◌, ◌∙◌, ◌<◌, inl, inr, length, ℕ, arith, Bool, true, false, List, [], ◌∷◌, refl, sym, ap, ap₂, subst}
use Rattle.std.proofs.lemmas.Bool.{false≢true}
use Rattle.std.specs.FinMap.{empty}
use Rattle.sqlite_wal.specs.Recovery.{Image}
use Rattle.sqlite_trees.specs.Objects.{catalog_tree}
use Rattle.sqlite.specs.Files.{AreFoundIn, HoldsDatabase, IsEmpty}
use Rattle.sqlite.proofs.ListingLemmas.{empty_is_sound}
use Rattle.sqlite.specs.Tree.{Trees}
use Rattle.sqlite.specs.Table.{Table}
use Rattle.sqlite.specs.Schema.{Schema}
use Rattle.sqlite.specs.Effect.{Database, IsDatabase}
use Rattle.sqlite.specs.State.{State, Opens, IsLive}
use Rattle.sqlite_catalog.proofs.ReadLemmas.{lists_once}
use Rattle.osb_orders.specs.Lives.{Lives}
use Rattle.osb_orders.specs.IsLife.{IsLives}
use Rattle.osb_tables.specs.declared.schema.Indexes.{Indexes}
use Rattle.osb_tables.specs.declared.schema.Indexes.TheVariants as indexes
use Rattle.osb_tables.specs.Tables.{no_schema, tables_schema, five_tables, made, second_schema}
use Rattle.osb_tables.proofs.SchemaLemmas.{versions_apart}
use Rattle.osb_statements.specs.Stored.{bare_lives_in, lives_stored}
use Rattle.osb_statements.specs.StoredLives.{StoreLives}
use Rattle.osb_statements.specs.Steps.{HoldsLives}
use Rattle.osb_statements.proofs.WriteLemmas.{no_lives as no_lives_whole}
use Rattle.osb_records.specs.Opened.{AreLivesOfDatabase, HoldsSame, IsFirst, IsSecond}
use Rattle.osb_statements.specs.declared.fault.StoreFault.{StoreFault}
use Rattle.osb_statements.specs.declared.fault.StoreFault.TheVariants as store
use Rattle.osb_file.specs.declared.fault.FileFault.{FileFault}
use Rattle.osb_file.specs.declared.fault.FileFault.TheVariants.{NotOurs, Missing}
use Rattle.osb_file.specs.Faults.{file_fault_of}
use Rattle.osb_file.specs.declared.origin.Origin.{Origin}
use Rattle.osb_file.specs.declared.origin.Origin.TheVariants.{New, Kept}
use Rattle.osb_file.specs.declared.seen.Seen.{Seen}
use Rattle.osb_file.specs.declared.seen.Seen.TheVariants as seen
use Rattle.osb_file.specs.File.{AreLivesOf, HasNoTables, HasTrees, IsOriginOf, KeepsLivesOf}
use Rattle.osb_file.specs.Database.{IsOpenedTo}
use Rattle.osb_file.specs.Looked.{IsSeenAs}
use Rattle.osb_file.specs.Inside.{IsSeenIn, IsSeenOf}

-- nothing is recovered from an empty file
no_bytes : (bytes : List ℕ) → bytes ≡ [] → 0 < length bytes → ⊥
no_bytes bytes is some = omega (arith, subst (λ (b : List ℕ). 0 < length b) is some)

found_empty : (image : Image) (db : Trees) → AreFoundIn image db → image.db ≡ [] → IsEmpty db
found_empty image db (inl (size, pages, wanted, adopts, ours, same)) none = absurd (no_bytes image.db none adopts.found.present)
found_empty image db (inr (nothing, is)) none = is

-- so a connection to one shows no tables
pub empty_opened : (conn : State) (image : Image) → Opens conn → IsLive conn → AreFoundIn image conn.committed.trees → image.db ≡ [] → conn.now.schema ≡ no_schema
empty_opened conn image opens live found none =
    let is_empty = found_empty image conn.committed.trees found none in
    let unlisted : conn.now.trees catalog_tree ≡ [] = ap (λ (shows : Database). shows.trees catalog_tree) opens.clean ∙ is_empty.1 in
    lists_once _ _ _ (live opens.is_open).0.lists (empty_is_sound conn.now.trees unlisted).lists

-- no schema with tables is the empty one
is_empty : Schema → Bool
is_empty schema = list_is_empty schema.tables
  where
    list_is_empty : List Table → Bool
    list_is_empty [] = true
    list_is_empty (table ∷ tables) = false

pub first_has_tables : (found : Indexes) → made tables_schema found ≢ no_schema
unfolding is_empty
first_has_tables indexes.None same = false≢true (ap is_empty same)
first_has_tables indexes.Listing same = false≢true (ap is_empty same)
first_has_tables indexes.Both same = false≢true (ap is_empty same)

pub second_has_tables : (found : Indexes) → made five_tables found ≢ no_schema
unfolding is_empty
second_has_tables indexes.None same = false≢true (ap is_empty same)
second_has_tables indexes.Listing same = false≢true (ap is_empty same)
second_has_tables indexes.Both same = false≢true (ap is_empty same)

-- no lives are in a database without tables
pub no_lives : (db : Database) (lives : Lives) → db.schema ≡ no_schema → AreLivesOfDatabase db lives → lives ≡ empty
no_lives db lives none (inl are) = are.1
no_lives db lives none (inr (inl are)) = absurd (first_has_tables are.0.0 (sym are.0.1 ∙ none))
no_lives db lives none (inr (inr are)) = absurd (second_has_tables are.0.0 (sym are.0.1 ∙ none))

-- What an opening shows of a file that has these trees: them, or no tables where the file is empty.
abbrev pub Shows : State → Trees → Type 0
Shows conn db = (conn.committed.trees ≡ db) ⊎ ((conn.now.schema ≡ no_schema) × HasNoTables db)

pub shown_of : (conn : State) (image : Image) (db : Trees) → Opens conn → IsLive conn → (HoldsDatabase image db → conn.committed.trees ≡ db) → AreFoundIn image conn.committed.trees → HasTrees image db → Shows conn db
shown_of conn image db opens live same reads (inl holds) = inl (same holds)
shown_of conn image db opens live same reads (inr (none, bare)) = inr (empty_opened conn image opens live reads none, bare)

pub shown_to : (conn : State) (image : Image) (db : Trees) → IsOpenedTo image conn → HasTrees image db → Shows conn db
shown_to conn image db opened has = shown_of conn image db opened.opens opened.live (opened.found.holds db) opened.found.reads has

-- two databases of the same trees are the same, since trees list their own schema
one_database : (one other : Database) → IsDatabase one → IsDatabase other → one.trees ≡ other.trees → one ≡ other
one_database one other is_one is_other same =
    let again : IsDatabase (record { schema = one.schema; trees = other.trees }) =
    subst (λ (trees : Trees). IsDatabase (record { schema = one.schema; trees = trees })) same is_one in
    ap₂ (λ (schema : Schema) (trees : Trees). record { schema = schema; trees = trees }) (lists_once _ _ _ again.lists is_other.lists) same

-- no lives are in trees without tables
pub bare_lives : (db : Trees) (lives : Lives) → HasNoTables db → AreLivesOf db lives → lives ≡ empty
bare_lives db lives bare are =
    let found : Database = record { schema = are.0; trees = db } in
    let none : Database = record { schema = no_schema; trees = db } in
    no_lives found lives (ap (λ (d : Database). d.schema) (one_database found none are.1 bare refl)) are.2

first_lives : (db : Database) (lives : Lives) → IsFirst db.schema → AreLivesOfDatabase db lives → lives ≡ bare_lives_in db.trees
first_lives db lives first (inl none) = absurd (first_has_tables first.0 (sym first.1 ∙ none.0))
first_lives db lives first (inr (inl are)) = are.2
first_lives db lives first (inr (inr are)) = absurd (versions_apart first.0 are.0.0 (sym first.1 ∙ are.0.1))

second_lives : (db : Database) (lives : Lives) → IsSecond db.schema → AreLivesOfDatabase db lives → lives ≡ lives_stored db.trees
second_lives db lives second (inl none) = absurd (second_has_tables second.0 (sym second.1 ∙ none.0))
second_lives db lives second (inr (inl are)) = absurd (versions_apart are.0.0 second.0 (sym are.0.1 ∙ second.1))
second_lives db lives second (inr (inr are)) = are.2

-- a database has no two maps of lives
pub only_lives : (db : Database) (lives other : Lives) → AreLivesOfDatabase db lives → AreLivesOfDatabase db other → lives ≡ other
only_lives db lives other (inl none) are = none.1 ∙ sym (no_lives db other none.0 are)
only_lives db lives other (inr (inl first)) are = first.2 ∙ sym (first_lives db other first.0 are)
only_lives db lives other (inr (inr second)) are = second.2 ∙ sym (second_lives db other second.0 are)

-- and trees have none
pub only_lives_of : (db : Trees) (lives other : Lives) → AreLivesOf db lives → AreLivesOf db other → lives ≡ other
only_lives_of db lives other are also =
    let one : Database = record { schema = are.0; trees = db } in
    let two : Database = record { schema = also.0; trees = db } in
    only_lives one lives other are.2 (subst (λ (d : Database). AreLivesOfDatabase d other) (sym (one_database one two are.1 also.1 refl)) also.2)

-- lives in a database are well formed
whole_lives : (db : Database) (lives : Lives) → AreLivesOfDatabase db lives → IsLives lives
whole_lives db lives (inl none) = subst IsLives (sym none.1) no_lives_whole
whole_lives db lives (inr (inl first)) = subst IsLives (sym first.2) first.1.lives
whole_lives db lives (inr (inr second)) = subst IsLives (sym second.2) second.1.lives

-- well-formed lives that the tables hold are those of the trees
pub held_are : (db : Trees) (lives : Lives) → IsLives lives → HoldsLives lives db → AreLivesOf db lives
held_are db lives whole holds =
    let stores : StoreLives db = record {
      holds = holds.holds;
      lives = subst IsLives (sym holds.lives_are) whole;
      standing = holds.standing;
      contexts = rw holds.lives_are holds.contexts;
    } in
    (second_schema, holds.sound, inr (inr ((indexes.Both, refl), stores, sym holds.lives_are)))

-- the lives that an opening shows are those in the trees of the last commit
pub opened_stand : (conn : State) (lives : Lives) → Opens conn → IsLive conn → AreLivesOfDatabase conn.now lives → AreLivesOf conn.committed.trees lives
opened_stand conn lives opens live are =
    subst (λ (db : Database). AreLivesOf db.trees lives) opens.clean (conn.now.schema, (live opens.is_open).0, are)

-- the lives that were found are those in the trees of the file
pub found_lives : (conn : State) (db : Trees) (lives : Lives) → Opens conn → IsLive conn → Shows conn db → AreLivesOfDatabase conn.now lives → AreLivesOf db lives
found_lives conn db lives opens live (inl same) are =
    subst (λ (trees : Trees). AreLivesOf trees lives) same (opened_stand conn lives opens live are)
found_lives conn db lives opens live (inr (none, bare)) are = (no_schema, bare, inl (refl, no_lives conn.now lives none are))

-- and the lives in the trees of the file are found
pub lives_found : (conn : State) (db : Trees) (lives : Lives) → Opens conn → IsLive conn → Shows conn db → AreLivesOf db lives → AreLivesOfDatabase conn.now lives
lives_found conn db lives opens live (inl same) are =
    let shown : conn.now.trees ≡ db = ap (λ (shows : Database). shows.trees) opens.clean ∙ same in
    let other : Database = record { schema = are.0; trees = db } in
    subst (λ (shows : Database). AreLivesOfDatabase shows lives) (sym (one_database conn.now other (live opens.is_open).0 are.1 shown)) are.2
lives_found conn db lives opens live (inr (none, bare)) are = inl (none, bare_lives db lives bare are)

-- a database that shows no tables is one of trees without any
pub new_opened : (conn : State) (db : Trees) → Opens conn → IsLive conn → Shows conn db → conn.now.schema ≡ no_schema → HasNoTables db
new_opened conn db opens live (inl same) none =
    let shown : conn.now.trees ≡ db = ap (λ (shows : Database). shows.trees) opens.clean ∙ same in
    subst (λ (trees : Trees). IsDatabase (record { schema = no_schema; trees = trees })) shown
    (subst (λ (schema : Schema). IsDatabase (record { schema = schema; trees = conn.now.trees })) none (live opens.is_open).0)
new_opened conn db opens live (inr (none, bare)) is = bare

-- and one that shows some is not
pub kept_opened : (conn : State) (db : Trees) → Opens conn → IsLive conn → Shows conn db → conn.now.schema ≢ no_schema → ¬ HasNoTables db
kept_opened conn db opens live (inl same) some none =
    let shown : conn.now.trees ≡ db = ap (λ (shows : Database). shows.trees) opens.clean ∙ same in
    let bare : Database = record { schema = no_schema; trees = db } in
    some (ap (λ (shows : Database). shows.schema) (one_database conn.now bare (live opens.is_open).0 none shown))
kept_opened conn db opens live (inr (none, bare)) some is = some none

pub origin_opened : (conn : State) (db : Trees) (origin : Origin) → Opens conn → IsLive conn → Shows conn db
    → (origin ≡ New → conn.now.schema ≡ no_schema) → (origin ≡ Kept → conn.now.schema ≢ no_schema) → IsOriginOf db origin
origin_opened conn db New opens live shows new kept = new_opened conn db opens live shows (new refl)
origin_opened conn db Kept opens live shows new kept = kept_opened conn db opens live shows (kept refl)

-- what lives have was seen in the database that has them
pub seen_in_kept : (db : Database) (lives : Lives) (seen : Seen) → db.schema ≢ no_schema → AreLivesOfDatabase db lives → IsSeenOf lives seen → IsSeenIn db seen
seen_in_kept db lives seen.New kept are is = absurd is
seen_in_kept db lives (seen.Counted counts plans) kept are is = (kept, (lives, are, is.0, is.1))

-- what was seen in a database that was opened is what its trees have
pub seen_opened : (conn : State) (db : Trees) (seen : Seen) → Opens conn → IsLive conn → Shows conn db → IsSeenIn conn.now seen → IsSeenAs db seen
seen_opened conn db seen.New opens live shows is = new_opened conn db opens live shows is
seen_opened conn db (seen.Counted counts plans) opens live shows is = (
  kept_opened conn db opens live shows is.0,
  (is.1.0, found_lives conn db is.1.0 opens live shows is.1.1, is.1.2, is.1.3),
)

-- the fault of a file is NotOurs only where that of its records is, and never Missing
pub store_not_ours : (fault : StoreFault) (told : FileFault) → told ≡ file_fault_of fault → told ≡ NotOurs → fault ≡ store.NotOurs
store_not_ours (store.Refused cause) told is ours = cc
store_not_ours store.NotOurs told is ours = refl

pub store_not_missing : (fault : StoreFault) (told : FileFault) → told ≡ file_fault_of fault → told ≡ Missing → ⊥
store_not_missing (store.Refused cause) told is missing = cc
store_not_missing store.NotOurs told is missing = cc

-- a database that shows no tables is new
pub new_unless_kept : (origin : Origin) (P : Type 0) → (origin ≡ Kept → ¬ P) → P → origin ≡ New
new_unless_kept New P kept is = refl
new_unless_kept Kept P kept is = absurd (kept refl is)

-- what a crash leaves of a database just opened has the lives of its file
pub opened_keeps : (conn : State) (db : Trees) → Opens conn → IsLive conn → Shows conn db → ((left : Trees) → conn.may_leave left → left ≡ conn.committed.trees) → KeepsLivesOf db conn
opened_keeps conn db opens live shows only lives are left may =
    subst (λ (trees : Trees). AreLivesOf trees lives) (sym (only left may))
    (opened_stand conn lives opens live (lives_found conn db lives opens live shows are))

-- so has what it leaves of one that was taken over
pub taken_keeps : (conn now : State) (db : Trees) → Opens conn → IsLive conn → Shows conn db → ((left : Trees) → conn.may_leave left → left ≡ conn.committed.trees)
    → ((left : Trees) → now.may_leave left → conn.may_leave left ⊎ HoldsSame conn.now left) → KeepsLivesOf db now
taken_keeps conn now db opens live shows only survives lives are left may = elim (survives left may) [
  | inl was ↦ opened_keeps conn db opens live shows only lives are left was
  | inr same ↦
      let is : same.0 ≡ lives = only_lives conn.now same.0 lives same.1 (lives_found conn db lives opens live shows are) in
      subst (λ (l : Lives). AreLivesOf left l) is (held_are left same.0 (whole_lives conn.now same.0 same.1) same.2)
]
