-- What the texts of the statements mean.
use Rattle.std.proofs.Common.{◌≡◌, ℕ, pos, negsuc, List, [], ◌∷◌, codes, false, Ok, refl}
use Rattle.sqlite.specs.declared.types.Value.TheVariants.{Null, Int, Text}
use Rattle.sqlite.specs.Query.{Query}
use Rattle.sqlite.specs.Term.{Term, lit, col}
use Rattle.sqlite.specs.Source.TheVariants.{Values}
use Rattle.sqlite.specs.Command.TheVariants.{Insert, Select, Update, Delete, CreateTable, CreateIndex, DropIndex}
use Rattle.sqlite.specs.Compile.{table_defined_by, index_defined_by}
use Rattle.sqlite_sql.specs.Term.{op2}
use Rattle.sqlite_sql.specs.declared.ops.BinaryOp.TheVariants.{And, Compare}
use Rattle.sqlite_sql.specs.declared.ops.CompareOp.TheVariants.{Eq, Ne, Gt, Le}
use Rattle.sqlite_value.specs.declared.keys.Collation.TheVariants.{Binary}
use Rattle.sqlite_value.specs.declared.keys.Key.{Key}
use Rattle.sqlite_value.specs.Keys.{ascending}
use Rattle.sqlite_tied.specs.Compute.{everything}
use Rattle.sqlite.specs.Listing.{understood, reads_listing}
use Rattle.sqlite.proofs.Callers.{IsPlain, command_of, statement_of}
use Rattle.sqlite.specs.Change.{created, without_index}
use Rattle.sqlite.specs.Table.{Table}
use Rattle.sqlite.specs.Schema.{Schema}
use Rattle.sqlite_schema.specs.declared.schema.Index.{Index}
use Rattle.osb_tables.specs.Tables.{instances_table, orders_table, busy_index, subject_index, tables_schema, five_tables, second_listed, second_schema, plain_table, columns_of_contexts}
use Rattle.osb_tables.specs.Inside.{listed_schema, record_schema}
use Rattle.osb_rows.proofs.AnswerLemmas.{over}
use Rattle.osb_contexts.specs.Pieces.{beyond}

-- no LIMIT
abbrev pub every : Term
every = lit (Int (negsuc 0))

-- the column has the value of the parameter
abbrev pub is_at : ℕ → ℕ → Term
is_at place param = op2 (Compare Eq Binary) (col 1 place) (col 0 param)

-- it has another value
abbrev pub is_not_at : ℕ → ℕ → Term
is_not_at place param = op2 (Compare Ne Binary) (col 1 place) (col 0 param)

-- ---- the schema

-- the table as its text has it, before it has a tree
abbrev pub contexts_made : Table
contexts_made = plain_table (codes "contexts") 0 columns_of_contexts (1 ∷ 2 ∷ []) ((1 ∷ 2 ∷ []) ∷ [])

abbrev pub create_contexts : List ℕ
create_contexts = codes "CREATE TABLE contexts (instance_id TEXT NOT NULL, seq INTEGER NOT NULL, context TEXT NOT NULL, PRIMARY KEY (instance_id, seq)) STRICT"

pub create_contexts_is : (command_of (understood tables_schema create_contexts) ≡ CreateTable) × (statement_of create_contexts (understood tables_schema create_contexts) ≡ create_contexts) × (table_defined_by create_contexts ≡ Ok contexts_made)
unfolding understood everything
create_contexts_is = (refl, refl, refl)

pub create_contexts_plain : IsPlain (understood tables_schema create_contexts)
unfolding understood everything
create_contexts_plain = (refl, refl)

pub contexts_placed : created tables_schema contexts_made ≡ five_tables
unfolding everything
contexts_placed = refl

-- what is known of a text that makes an index on the table at this place
abbrev pub MakesOn : List ℕ → Schema → ℕ → Table → Index → Type 0
MakesOn text before place table index = (command_of (understood before text) ≡ CreateIndex place) × (statement_of text (understood before text) ≡ text) × (index_defined_by table text ≡ Ok index) × IsPlain (understood before text)

abbrev pub create_busy_index : List ℕ
create_busy_index = codes "CREATE INDEX busy_instances ON instances (busy, instance_id)"

pub create_busy_index_is : MakesOn create_busy_index five_tables 2 instances_table busy_index
unfolding understood everything
create_busy_index_is = (refl, refl, refl, (refl, refl))

abbrev pub create_subject_index : List ℕ
create_subject_index = codes "CREATE INDEX subject_orders ON orders (instance_id, binding_id, kind, seq)"

pub create_subject_index_is : MakesOn create_subject_index second_listed 1 orders_table subject_index
unfolding understood everything
create_subject_index_is = (refl, refl, refl, (refl, refl))

-- what is known of a text that drops the index at this place
abbrev pub DropsAt : List ℕ → Schema → ℕ → Type 0
DropsAt text before place = (command_of (understood before text) ≡ DropIndex place) × (statement_of text (understood before text) ≡ text) × IsPlain (understood before text)

abbrev pub drop_busy : List ℕ
drop_busy = codes "DROP INDEX busy_instances"

abbrev pub drop_subject : List ℕ
drop_subject = codes "DROP INDEX subject_orders"

pub drop_busy_is : DropsAt drop_busy listed_schema 3
unfolding understood everything
drop_busy_is = (refl, refl, (refl, refl))

pub drop_subject_is : DropsAt drop_subject record_schema 4
unfolding understood everything
drop_subject_is = (refl, refl, (refl, refl))

pub busy_dropped : without_index listed_schema 7 ≡ tables_schema
unfolding everything
busy_dropped = refl

pub subject_dropped : without_index record_schema 8 ≡ listed_schema
unfolding everything
subject_dropped = refl

-- ---- rows

abbrev pub clear_format : List ℕ
clear_format = codes "DELETE FROM format"

abbrev pub clear_query : Query
clear_query = over 0 [] (col 1 0 ∷ []) [] every

pub clear_format_is : (command_of (understood second_schema clear_format) ≡ Delete 0 (record { lets = []; body = clear_query })) × IsPlain (understood second_schema clear_format)
unfolding understood everything
clear_format_is = (refl, (refl, refl))

abbrev pub insert_version : List ℕ
insert_version = codes "INSERT INTO format (version) VALUES (2)"

abbrev pub insert_version_terms : List Term
insert_version_terms = lit Null ∷ lit (Int (pos 2)) ∷ []

pub insert_version_is : (command_of (understood second_schema insert_version) ≡ Insert 0 (Values insert_version_terms 2)) × IsPlain (understood second_schema insert_version)
unfolding understood everything
insert_version_is = (refl, (refl, refl))

abbrev pub insert_context : List ℕ
insert_context = codes "INSERT INTO contexts (instance_id, seq, context) VALUES (?1, ?2, ?3)"

abbrev pub insert_context_terms : List Term
insert_context_terms = lit Null ∷ col 0 0 ∷ col 0 1 ∷ col 0 2 ∷ []

pub insert_context_is : (command_of (understood second_schema insert_context) ≡ Insert 4 (Values insert_context_terms 4)) × IsPlain (understood second_schema insert_context)
unfolding understood everything
insert_context_is = (refl, (refl, refl))

abbrev pub update_context : List ℕ
update_context = codes "UPDATE contexts SET context = ?1 WHERE instance_id = ?2 AND seq = ?3 AND context <> ?1"

abbrev pub updated_cells : List Term
updated_cells = col 1 1 ∷ col 1 2 ∷ col 0 0 ∷ []

abbrev pub update_context_query : Query
update_context_query = over 7 (is_at 1 1 ∷ is_at 2 2 ∷ is_not_at 3 0 ∷ []) (col 1 0 ∷ col 1 0 ∷ updated_cells) [] every

pub update_context_is : (command_of (understood second_schema update_context) ≡ Update 4 (record { lets = []; body = update_context_query })) × IsPlain (understood second_schema update_context)
unfolding understood everything
update_context_is = (refl, (refl, refl))

-- ---- queries

-- the text is a query of these columns over the table of contexts, or of that of the format
abbrev pub IsQuery : List ℕ → Query → List (List ℕ) → Type 0
IsQuery text query names = (command_of (understood second_schema text) ≡ Select (record { lets = []; body = query }) names) × (reads_listing second_schema text ≡ false) × IsPlain (understood second_schema text)

abbrev pub by_rowid : List (Term × Key)
by_rowid = (col 1 0, ascending Binary) ∷ []

abbrev pub rowids_of : ℕ → Query
rowids_of tree = over tree [] (col 1 0 ∷ []) by_rowid every

abbrev pub by_key : List (Term × Key)
by_key = (col 1 1, ascending Binary) ∷ (col 1 2, ascending Binary) ∷ []

abbrev pub all_cells : List Term
all_cells = col 1 1 ∷ col 1 2 ∷ col 1 3 ∷ []

abbrev pub select_context : List ℕ
select_context = codes "SELECT context FROM contexts WHERE instance_id = ?1 AND seq = ?2 ORDER BY instance_id, seq"

pub select_context_is : IsQuery select_context (over 7 (is_at 1 0 ∷ is_at 2 1 ∷ []) (col 1 3 ∷ []) by_key every) (codes "context" ∷ [])
unfolding understood everything
select_context_is = (refl, refl, (refl, refl))

-- the id of the instance is above one term and up to another
abbrev pub between : Term → Term → List Term
between after to = op2 (Compare Gt Binary) (col 1 1) after ∷ op2 (Compare Le Binary) (col 1 1) to ∷ []

-- as the parameters say
abbrev pub between_tests : List Term
between_tests = between (col 0 0) (col 0 1)

-- whether the row is named, in a column beside its rowid
abbrev pub named_test : Term
named_test = op2 And (op2 (Compare Gt Binary) (col 1 1) (lit (Text []))) (op2 (Compare Le Binary) (col 1 1) (lit beyond))

abbrev pub select_contexts : List ℕ
select_contexts = codes "SELECT instance_id, seq, context FROM contexts WHERE instance_id > ?1 AND instance_id <= ?2 ORDER BY instance_id, seq"

pub select_contexts_is : IsQuery select_contexts (over 7 between_tests all_cells by_key every) (codes "instance_id" ∷ codes "seq" ∷ codes "context" ∷ [])
unfolding understood everything
select_contexts_is = (refl, refl, (refl, refl))

abbrev pub version_rowids : List ℕ
version_rowids = codes "SELECT rowid FROM format ORDER BY rowid"

pub version_rowids_is : IsQuery version_rowids (rowids_of 0) (codes "rowid" ∷ [])
unfolding understood everything
version_rowids_is = (refl, refl, (refl, refl))
