-- What the texts of the statements and queries on bindings mean.
use Rattle.std.proofs.Common.{◌≡◌, ℕ, pos, List, [], ◌∷◌, codes, false, refl}
use Rattle.sqlite.specs.declared.types.Value.TheVariants.{Null, Int}
use Rattle.sqlite.specs.Query.{Query}
use Rattle.sqlite.specs.Term.{Term, lit, col}
use Rattle.sqlite.specs.Source.TheVariants.{Values}
use Rattle.sqlite.specs.Command.TheVariants.{Insert, Select, Update, Delete}
use Rattle.sqlite_value.specs.declared.keys.Collation.TheVariants.{Binary}
use Rattle.sqlite_value.specs.declared.keys.Key.{Key}
use Rattle.sqlite_value.specs.Keys.{ascending}
use Rattle.sqlite_tied.specs.Compute.{everything}
use Rattle.sqlite.specs.Listing.{understood, reads_listing}
use Rattle.sqlite.proofs.Callers.{IsPlain, command_of}
use Rattle.osb_tables.specs.Tables.{second_schema}
use Rattle.osb_rows.proofs.AnswerLemmas.{over}
use Rattle.osb_contexts.proofs.Texts.{every, is_at}

-- ---- statements

abbrev pub insert_binding : List ℕ
insert_binding = codes "INSERT INTO bindings (instance_id, binding_id, phase, service_id, plan_id, app_guid, bind_resource, params, credentials) VALUES (?1, ?2, ?3, ?4, ?5, ?6, ?7, ?8, ?9)"

abbrev pub insert_binding_terms : List Term
insert_binding_terms = lit Null ∷ col 0 0 ∷ col 0 1 ∷ col 0 2 ∷ col 0 3 ∷ col 0 4 ∷ col 0 5 ∷ col 0 6 ∷ col 0 7 ∷ col 0 8 ∷ []

pub insert_binding_is : (command_of (understood second_schema insert_binding) ≡ Insert 3 (Values insert_binding_terms 10)) × IsPlain (understood second_schema insert_binding)
unfolding understood everything
insert_binding_is = (refl, (refl, refl))

abbrev pub update_binding : List ℕ
update_binding = codes "UPDATE bindings SET phase = ?3, service_id = ?4, plan_id = ?5, app_guid = ?6, bind_resource = ?7, params = ?8, credentials = ?9 WHERE instance_id = ?1 AND binding_id = ?2"

-- what stays of the binding, and what it gets
abbrev pub rebound_cells : List Term
rebound_cells = col 1 1 ∷ col 1 2 ∷ col 0 2 ∷ col 0 3 ∷ col 0 4 ∷ col 0 5 ∷ col 0 6 ∷ col 0 7 ∷ col 0 8 ∷ []

abbrev pub at_binding : List Term
at_binding = is_at 1 0 ∷ is_at 2 1 ∷ []

abbrev pub update_binding_query : Query
update_binding_query = over 5 at_binding (col 1 0 ∷ col 1 0 ∷ rebound_cells) [] every

pub update_binding_is : (command_of (understood second_schema update_binding) ≡ Update 3 (record { lets = []; body = update_binding_query })) × IsPlain (understood second_schema update_binding)
unfolding understood everything
update_binding_is = (refl, (refl, refl))

abbrev pub delete_binding : List ℕ
delete_binding = codes "DELETE FROM bindings WHERE instance_id = ?1 AND binding_id = ?2"

abbrev pub delete_binding_query : Query
delete_binding_query = over 5 at_binding (col 1 0 ∷ []) [] every

pub delete_binding_is : (command_of (understood second_schema delete_binding) ≡ Delete 3 (record { lets = []; body = delete_binding_query })) × IsPlain (understood second_schema delete_binding)
unfolding understood everything
delete_binding_is = (refl, (refl, refl))

abbrev pub delete_bindings : List ℕ
delete_bindings = codes "DELETE FROM bindings WHERE instance_id = ?1"

abbrev pub at_instance : List Term
at_instance = is_at 1 0 ∷ []

abbrev pub delete_bindings_query : Query
delete_bindings_query = over 5 at_instance (col 1 0 ∷ []) [] every

pub delete_bindings_is : (command_of (understood second_schema delete_bindings) ≡ Delete 3 (record { lets = []; body = delete_bindings_query })) × IsPlain (understood second_schema delete_bindings)
unfolding understood everything
delete_bindings_is = (refl, (refl, refl))

-- ---- queries

abbrev pub binding_cells_read : List Term
binding_cells_read = col 1 1 ∷ col 1 2 ∷ col 1 3 ∷ col 1 4 ∷ col 1 5 ∷ col 1 6 ∷ col 1 7 ∷ col 1 8 ∷ col 1 9 ∷ []

abbrev pub binding_names : List (List ℕ)
binding_names = codes "instance_id" ∷ codes "binding_id" ∷ codes "phase" ∷ codes "service_id" ∷ codes "plan_id" ∷ codes "app_guid" ∷ codes "bind_resource" ∷ codes "params" ∷ codes "credentials" ∷ []

abbrev pub by_ids : List (Term × Key)
by_ids = (col 1 1, ascending Binary) ∷ (col 1 2, ascending Binary) ∷ []

abbrev pub select_binding : List ℕ
select_binding = codes "SELECT instance_id, binding_id, phase, service_id, plan_id, app_guid, bind_resource, params, credentials FROM bindings WHERE instance_id = ?1 AND binding_id = ?2 ORDER BY instance_id, binding_id"

pub select_binding_is : (command_of (understood second_schema select_binding) ≡ Select (record { lets = []; body = over 5 at_binding binding_cells_read by_ids every }) binding_names) × (reads_listing second_schema select_binding ≡ false) × IsPlain (understood second_schema select_binding)
unfolding understood everything
select_binding_is = (refl, refl, (refl, refl))

abbrev pub one : Term
one = lit (Int (pos 1))

abbrev pub select_bound : List ℕ
select_bound = codes "SELECT instance_id, binding_id, phase, service_id, plan_id, app_guid, bind_resource, params, credentials FROM bindings WHERE instance_id = ?1 ORDER BY instance_id, binding_id LIMIT 1"

pub select_bound_is : (command_of (understood second_schema select_bound) ≡ Select (record { lets = []; body = over 5 at_instance binding_cells_read by_ids one }) binding_names) × (reads_listing second_schema select_bound ≡ false) × IsPlain (understood second_schema select_bound)
unfolding understood everything
select_bound_is = (refl, refl, (refl, refl))
