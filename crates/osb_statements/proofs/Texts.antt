-- What the texts of the statements mean.
use Rattle.std.proofs.Common.{◌≡◌, ℕ, pos, List, [], ◌∷◌, codes, false, Ok, refl}
use Rattle.sqlite.specs.declared.types.Value.TheVariants.{Null, Int}
use Rattle.sqlite.specs.Query.{Query}
use Rattle.sqlite.specs.Term.{Term, lit, col}
use Rattle.sqlite.specs.Source.TheVariants.{Values}
use Rattle.sqlite.specs.Command.TheVariants.{Insert, Select, Update, CreateTable}
use Rattle.sqlite.specs.Compile.{table_defined_by}
use Rattle.sqlite_sql.specs.Term.{op2}
use Rattle.sqlite_sql.specs.declared.ops.BinaryOp.TheVariants.{Compare}
use Rattle.sqlite_sql.specs.declared.ops.CompareOp.TheVariants.{Eq, Gt}
use Rattle.sqlite_value.specs.declared.keys.Collation.TheVariants.{Binary}
use Rattle.sqlite_value.specs.declared.keys.Key.{Key}
use Rattle.sqlite_value.specs.Keys.{ascending}
use Rattle.sqlite_tied.specs.Compute.{everything}
use Rattle.sqlite.specs.Listing.{understood, reads_listing}
use Rattle.sqlite.proofs.Callers.{IsPlain, command_of, statement_of}
use Rattle.osb_tables.specs.Tables.{format_table, no_schema, format_schema, orders_schema, instances_schema, tables_schema, second_schema, plain_table, columns_of_orders, columns_of_instances, columns_of_bindings}
use Rattle.osb_rows.proofs.AnswerLemmas.{over}
use Rattle.sqlite.specs.Change.{created}
use Rattle.sqlite.specs.Table.{Table}
use Rattle.osb_contexts.proofs.Texts.{every, is_at, by_key}

-- ---- the tables

abbrev pub create_format : List ℕ
create_format = codes "CREATE TABLE format (version INTEGER NOT NULL) STRICT"

pub create_format_is : (command_of (understood no_schema create_format) ≡ CreateTable) × (statement_of create_format (understood no_schema create_format) ≡ create_format) × (table_defined_by create_format ≡ Ok format_table)
unfolding understood everything
create_format_is = (refl, refl, refl)

pub create_format_plain : IsPlain (understood no_schema create_format)
unfolding understood everything
create_format_plain = (refl, refl)

-- the table of orders as its text has it, before it has a tree
abbrev pub orders_made : Table
orders_made = plain_table (codes "orders") 0 columns_of_orders (1 ∷ 2 ∷ []) ((1 ∷ 2 ∷ []) ∷ [])

abbrev pub create_orders : List ℕ
create_orders = codes "CREATE TABLE orders (instance_id TEXT NOT NULL, seq INTEGER NOT NULL, kind INTEGER NOT NULL, binding_id TEXT NOT NULL, service_id TEXT NOT NULL, plan_id TEXT NOT NULL, place TEXT NOT NULL, spot TEXT NOT NULL, params TEXT NOT NULL, maint TEXT NOT NULL, state INTEGER NOT NULL, note TEXT NOT NULL, credentials TEXT NOT NULL, PRIMARY KEY (instance_id, seq)) STRICT"

pub create_orders_is : (command_of (understood format_schema create_orders) ≡ CreateTable) × (statement_of create_orders (understood format_schema create_orders) ≡ create_orders) × (table_defined_by create_orders ≡ Ok orders_made)
unfolding understood everything
create_orders_is = (refl, refl, refl)

pub create_orders_plain : IsPlain (understood format_schema create_orders)
unfolding understood everything
create_orders_plain = (refl, refl)

pub orders_placed : created format_schema orders_made ≡ orders_schema
unfolding everything
orders_placed = refl

-- the table of instances as its text has it
abbrev pub instances_made : Table
instances_made = plain_table (codes "instances") 0 columns_of_instances (1 ∷ []) ((1 ∷ []) ∷ [])

abbrev pub create_instances : List ℕ
create_instances = codes "CREATE TABLE instances (instance_id TEXT NOT NULL, phase INTEGER NOT NULL, busy INTEGER NOT NULL, last_seq INTEGER NOT NULL, service_id TEXT NOT NULL, plan_id TEXT NOT NULL, organization TEXT NOT NULL, space TEXT NOT NULL, params TEXT NOT NULL, maint TEXT NOT NULL, PRIMARY KEY (instance_id)) STRICT"

pub create_instances_is : (command_of (understood orders_schema create_instances) ≡ CreateTable) × (statement_of create_instances (understood orders_schema create_instances) ≡ create_instances) × (table_defined_by create_instances ≡ Ok instances_made)
unfolding understood everything
create_instances_is = (refl, refl, refl)

pub create_instances_plain : IsPlain (understood orders_schema create_instances)
unfolding understood everything
create_instances_plain = (refl, refl)

pub instances_placed : created orders_schema instances_made ≡ instances_schema
unfolding everything
instances_placed = refl

-- the table of bindings as its text has it
abbrev pub bindings_made : Table
bindings_made = plain_table (codes "bindings") 0 columns_of_bindings (1 ∷ 2 ∷ []) ((1 ∷ 2 ∷ []) ∷ [])

abbrev pub create_bindings : List ℕ
create_bindings = codes "CREATE TABLE bindings (instance_id TEXT NOT NULL, binding_id TEXT NOT NULL, phase INTEGER NOT NULL, service_id TEXT NOT NULL, plan_id TEXT NOT NULL, app_guid TEXT NOT NULL, bind_resource TEXT NOT NULL, params TEXT NOT NULL, credentials TEXT NOT NULL, PRIMARY KEY (instance_id, binding_id)) STRICT"

pub create_bindings_is : (command_of (understood instances_schema create_bindings) ≡ CreateTable) × (statement_of create_bindings (understood instances_schema create_bindings) ≡ create_bindings) × (table_defined_by create_bindings ≡ Ok bindings_made)
unfolding understood everything
create_bindings_is = (refl, refl, refl)

pub create_bindings_plain : IsPlain (understood instances_schema create_bindings)
unfolding understood everything
create_bindings_plain = (refl, refl)

pub bindings_placed : created instances_schema bindings_made ≡ tables_schema
unfolding everything
bindings_placed = refl

-- ---- changes

abbrev pub insert_order : List ℕ
insert_order = codes "INSERT INTO orders (instance_id, seq, kind, binding_id, service_id, plan_id, place, spot, params, maint, state, note, credentials) VALUES (?1, ?2, ?3, ?4, ?5, ?6, ?7, ?8, ?9, ?10, ?11, ?12, ?13)"

abbrev pub insert_order_terms : List Term
insert_order_terms = lit Null ∷ col 0 0 ∷ col 0 1 ∷ col 0 2 ∷ col 0 3 ∷ col 0 4 ∷ col 0 5 ∷ col 0 6 ∷ col 0 7 ∷ col 0 8 ∷ col 0 9 ∷ col 0 10 ∷ col 0 11 ∷ col 0 12 ∷ []

pub insert_order_is : (command_of (understood second_schema insert_order) ≡ Insert 1 (Values insert_order_terms 14)) × IsPlain (understood second_schema insert_order)
unfolding understood everything
insert_order_is = (refl, (refl, refl))

abbrev pub finish_order : List ℕ
finish_order = codes "UPDATE orders SET state = ?3, note = ?4, credentials = ?5 WHERE instance_id = ?1 AND seq = ?2"

-- what an ended order keeps, and what it gets
abbrev pub finished_cells : List Term
finished_cells = col 1 1 ∷ col 1 2 ∷ col 1 3 ∷ col 1 4 ∷ col 1 5 ∷ col 1 6 ∷ col 1 7 ∷ col 1 8 ∷ col 1 9 ∷ col 1 10 ∷ col 0 2 ∷ col 0 3 ∷ col 0 4 ∷ []

abbrev pub finish_query : Query
finish_query = over 1 (is_at 1 0 ∷ is_at 2 1 ∷ []) (col 1 0 ∷ col 1 0 ∷ finished_cells) [] every

pub finish_order_is : (command_of (understood second_schema finish_order) ≡ Update 1 (record { lets = []; body = finish_query })) × IsPlain (understood second_schema finish_order)
unfolding understood everything
finish_order_is = (refl, (refl, refl))

abbrev pub insert_instance : List ℕ
insert_instance = codes "INSERT INTO instances (instance_id, phase, busy, last_seq, service_id, plan_id, organization, space, params, maint) VALUES (?1, ?2, ?3, ?4, ?5, ?6, ?7, ?8, ?9, ?10)"

abbrev pub insert_instance_terms : List Term
insert_instance_terms = lit Null ∷ col 0 0 ∷ col 0 1 ∷ col 0 2 ∷ col 0 3 ∷ col 0 4 ∷ col 0 5 ∷ col 0 6 ∷ col 0 7 ∷ col 0 8 ∷ col 0 9 ∷ []

pub insert_instance_is : (command_of (understood second_schema insert_instance) ≡ Insert 2 (Values insert_instance_terms 11)) × IsPlain (understood second_schema insert_instance)
unfolding understood everything
insert_instance_is = (refl, (refl, refl))

abbrev pub update_instance : List ℕ
update_instance = codes "UPDATE instances SET phase = ?2, busy = ?3, last_seq = ?4, service_id = ?5, plan_id = ?6, organization = ?7, space = ?8, params = ?9, maint = ?10 WHERE instance_id = ?1"

-- the id stays, and the other columns are new
abbrev pub updated_cells : List Term
updated_cells = col 1 1 ∷ col 0 1 ∷ col 0 2 ∷ col 0 3 ∷ col 0 4 ∷ col 0 5 ∷ col 0 6 ∷ col 0 7 ∷ col 0 8 ∷ col 0 9 ∷ []

abbrev pub update_instance_query : Query
update_instance_query = over 3 (is_at 1 0 ∷ []) (col 1 0 ∷ col 1 0 ∷ updated_cells) [] every

pub update_instance_is : (command_of (understood second_schema update_instance) ≡ Update 2 (record { lets = []; body = update_instance_query })) × IsPlain (understood second_schema update_instance)
unfolding understood everything
update_instance_is = (refl, (refl, refl))

-- ---- queries

abbrev pub all_cells : List Term
all_cells = col 1 1 ∷ col 1 2 ∷ col 1 3 ∷ col 1 4 ∷ col 1 5 ∷ col 1 6 ∷ col 1 7 ∷ col 1 8 ∷ col 1 9 ∷ col 1 10 ∷ col 1 11 ∷ col 1 12 ∷ col 1 13 ∷ []

abbrev pub all_names : List (List ℕ)
all_names = codes "instance_id" ∷ codes "seq" ∷ codes "kind" ∷ codes "binding_id" ∷ codes "service_id" ∷ codes "plan_id" ∷ codes "place" ∷ codes "spot" ∷ codes "params" ∷ codes "maint" ∷ codes "state" ∷ codes "note" ∷ codes "credentials" ∷ []

abbrev pub select_life : List ℕ
select_life = codes "SELECT instance_id, seq, kind, binding_id, service_id, plan_id, place, spot, params, maint, state, note, credentials FROM orders WHERE instance_id = ?1 ORDER BY instance_id, seq"

abbrev pub life_query : Query
life_query = over 1 (is_at 1 0 ∷ []) all_cells by_key every

pub select_life_is : (command_of (understood second_schema select_life) ≡ Select (record { lets = []; body = life_query }) all_names) × (reads_listing second_schema select_life ≡ false) × IsPlain (understood second_schema select_life)
unfolding understood everything
select_life_is = (refl, refl, (refl, refl))

abbrev pub instance_cells_read : List Term
instance_cells_read = col 1 1 ∷ col 1 2 ∷ col 1 3 ∷ col 1 4 ∷ col 1 5 ∷ col 1 6 ∷ col 1 7 ∷ col 1 8 ∷ col 1 9 ∷ col 1 10 ∷ []

abbrev pub instance_names : List (List ℕ)
instance_names = codes "instance_id" ∷ codes "phase" ∷ codes "busy" ∷ codes "last_seq" ∷ codes "service_id" ∷ codes "plan_id" ∷ codes "organization" ∷ codes "space" ∷ codes "params" ∷ codes "maint" ∷ []

abbrev pub select_instance : List ℕ
select_instance = codes "SELECT instance_id, phase, busy, last_seq, service_id, plan_id, organization, space, params, maint FROM instances WHERE instance_id = ?1 ORDER BY instance_id"

abbrev pub by_instance : List (Term × Key)
by_instance = (col 1 1, ascending Binary) ∷ []

abbrev pub instance_query : Query
instance_query = over 3 (is_at 1 0 ∷ []) instance_cells_read by_instance every

pub select_instance_is : (command_of (understood second_schema select_instance) ≡ Select (record { lets = []; body = instance_query }) instance_names) × (reads_listing second_schema select_instance ≡ false) × IsPlain (understood second_schema select_instance)
unfolding understood everything
select_instance_is = (refl, refl, (refl, refl))

abbrev pub select_next : List ℕ
select_next = codes "SELECT instance_id FROM instances WHERE instance_id > ?1 ORDER BY instance_id LIMIT 1"

abbrev pub next_tests : List Term
next_tests = op2 (Compare Gt Binary) (col 1 1) (col 0 0) ∷ []

abbrev pub next_query : Query
next_query = over 3 next_tests (col 1 1 ∷ []) by_instance (lit (Int (pos 1)))

pub select_next_is : (command_of (understood second_schema select_next) ≡ Select (record { lets = []; body = next_query }) (codes "instance_id" ∷ [])) × (reads_listing second_schema select_next ≡ false) × IsPlain (understood second_schema select_next)
unfolding understood everything
select_next_is = (refl, refl, (refl, refl))

abbrev pub select_busy : List ℕ
select_busy = codes "SELECT instance_id, last_seq FROM instances WHERE busy = 1 AND instance_id > ?1 ORDER BY instance_id LIMIT ?2"

abbrev pub busy_tests : List Term
busy_tests = op2 (Compare Eq Binary) (col 1 3) (lit (Int (pos 1))) ∷ op2 (Compare Gt Binary) (col 1 1) (col 0 0) ∷ []

abbrev pub busy_cells : List Term
busy_cells = col 1 1 ∷ col 1 4 ∷ []

abbrev pub busy_query : Query
busy_query = over 3 busy_tests busy_cells by_instance (col 0 1)

pub select_busy_is : (command_of (understood second_schema select_busy) ≡ Select (record { lets = []; body = busy_query }) (codes "instance_id" ∷ codes "last_seq" ∷ [])) × (reads_listing second_schema select_busy ≡ false) × IsPlain (understood second_schema select_busy)
unfolding understood everything
select_busy_is = (refl, refl, (refl, refl))
