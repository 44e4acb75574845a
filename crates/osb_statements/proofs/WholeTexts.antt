-- What the texts that read whole tables mean.
use Rattle.std.proofs.Common.{ℕ, List, [], ◌∷◌, codes, refl}
use Rattle.sqlite.specs.Term.{Term, col}
use Rattle.sqlite.specs.Listing.{understood}
use Rattle.sqlite_tied.specs.Compute.{everything}
use Rattle.sqlite_value.specs.declared.keys.Collation.TheVariants.{Binary}
use Rattle.sqlite_value.specs.declared.keys.Key.{Key}
use Rattle.sqlite_value.specs.Keys.{ascending}
use Rattle.osb_rows.proofs.AnswerLemmas.{over}
use Rattle.osb_statements.proofs.Texts.{all_cells, all_names, instance_cells_read, instance_names, by_instance}
use Rattle.osb_statements.proofs.BindingTexts.{binding_cells_read, binding_names, by_ids}
use Rattle.osb_tables.specs.Tables.{second_schema}
use Rattle.sqlite.proofs.Callers.{IsPlain}
use Rattle.osb_contexts.proofs.Texts.{IsQuery, by_key, every, between_tests}

abbrev pub version_cells_read : List Term
version_cells_read = col 1 1 ∷ []

abbrev pub by_version : List (Term × Key)
by_version = (col 1 1, ascending Binary) ∷ []

abbrev pub select_versions : List ℕ
select_versions = codes "SELECT version FROM format ORDER BY version"

pub select_versions_is : IsQuery select_versions (over 0 [] version_cells_read by_version every) (codes "version" ∷ [])
unfolding understood everything
select_versions_is = (refl, refl, (refl, refl))

-- ---- texts that read some instances

abbrev pub some_orders : List ℕ
some_orders = codes "SELECT instance_id, seq, kind, binding_id, service_id, plan_id, place, spot, params, maint, state, note, credentials FROM orders WHERE instance_id > ?1 AND instance_id <= ?2 ORDER BY instance_id, seq"

pub some_orders_is : IsQuery some_orders (over 1 between_tests all_cells by_key every) all_names
unfolding understood everything
some_orders_is = (refl, refl, (refl, refl))

abbrev pub some_instances : List ℕ
some_instances = codes "SELECT instance_id, phase, busy, last_seq, service_id, plan_id, organization, space, params, maint FROM instances WHERE instance_id > ?1 AND instance_id <= ?2 ORDER BY instance_id"

pub some_instances_is : IsQuery some_instances (over 3 between_tests instance_cells_read by_instance every) instance_names
unfolding understood everything
some_instances_is = (refl, refl, (refl, refl))

abbrev pub some_bindings : List ℕ
some_bindings = codes "SELECT instance_id, binding_id, phase, service_id, plan_id, app_guid, bind_resource, params, credentials FROM bindings WHERE instance_id > ?1 AND instance_id <= ?2 ORDER BY instance_id, binding_id"

pub some_bindings_is : IsQuery some_bindings (over 5 between_tests binding_cells_read by_ids every) binding_names
unfolding understood everything
some_bindings_is = (refl, refl, (refl, refl))

abbrev pub some_binding_rowids : List ℕ
some_binding_rowids = codes "SELECT rowid FROM bindings WHERE instance_id > ?1 AND instance_id <= ?2 ORDER BY instance_id, binding_id"

pub some_binding_rowids_is : IsQuery some_binding_rowids (over 5 between_tests (col 1 0 ∷ []) by_ids every) (codes "rowid" ∷ [])
unfolding understood everything
some_binding_rowids_is = (refl, refl, (refl, refl))

abbrev pub select_end : List ℕ
select_end = codes "SELECT instance_id FROM orders WHERE instance_id > ?1 ORDER BY instance_id, seq LIMIT 1 OFFSET ?2"

pub select_end_plain : IsPlain (understood second_schema select_end)
unfolding understood everything
select_end_plain = (refl, refl)

abbrev pub select_end_of_instances : List ℕ
select_end_of_instances = codes "SELECT instance_id FROM instances WHERE instance_id > ?1 ORDER BY instance_id LIMIT 1 OFFSET ?2"

pub select_end_of_instances_plain : IsPlain (understood second_schema select_end_of_instances)
unfolding understood everything
select_end_of_instances_plain = (refl, refl)

abbrev pub select_end_of_bindings : List ℕ
select_end_of_bindings = codes "SELECT instance_id FROM bindings WHERE instance_id > ?1 ORDER BY instance_id, binding_id LIMIT 1 OFFSET ?2"

pub select_end_of_bindings_plain : IsPlain (understood second_schema select_end_of_bindings)
unfolding understood everything
select_end_of_bindings_plain = (refl, refl)
