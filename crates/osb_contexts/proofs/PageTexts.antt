-- What the texts that read pages mean.
use Rattle.std.proofs.Common.{ℕ, List, [], ◌∷◌, codes, refl}
use Rattle.sqlite.specs.Query.{Query}
use Rattle.sqlite.specs.Term.{Term, col}
use Rattle.sqlite.specs.Listing.{understood}
use Rattle.sqlite_sql.specs.Term.{op2}
use Rattle.sqlite_sql.specs.declared.ops.BinaryOp.TheVariants.{Compare}
use Rattle.sqlite_sql.specs.declared.ops.CompareOp.TheVariants.{Ge}
use Rattle.sqlite_tied.specs.Compute.{everything}
use Rattle.sqlite_value.specs.declared.keys.Collation.TheVariants.{Binary}
use Rattle.osb_rows.proofs.AnswerLemmas.{over}
use Rattle.osb_contexts.proofs.Texts.{IsQuery, by_rowid, named_test}

-- a row's id, and whether it has the id of an instance
abbrev pub named_cells : List Term
named_cells = col 1 0 ∷ named_test ∷ []

-- the row's id isn't below the parameter
abbrev pub from_id : List Term
from_id = op2 (Compare Ge Binary) (col 1 0) (col 0 0) ∷ []

abbrev pub first_rows : ℕ → Query
first_rows tree = over tree [] named_cells by_rowid (col 0 0)

abbrev pub rows_from : ℕ → Query
rows_from tree = over tree from_id named_cells by_rowid (col 0 1)

abbrev pub names_shown : List (List ℕ)
names_shown = codes "rowid" ∷ codes "named" ∷ []

abbrev pub first_orders : List ℕ
first_orders = codes "SELECT rowid, instance_id > '' AND instance_id <= x'' AS named FROM orders ORDER BY rowid LIMIT ?1"

pub first_orders_is : IsQuery first_orders (first_rows 1) names_shown
unfolding understood everything
first_orders_is = (refl, refl, (refl, refl))

abbrev pub orders_from : List ℕ
orders_from = codes "SELECT rowid, instance_id > '' AND instance_id <= x'' AS named FROM orders WHERE rowid >= ?1 ORDER BY rowid LIMIT ?2"

pub orders_from_is : IsQuery orders_from (rows_from 1) names_shown
unfolding understood everything
orders_from_is = (refl, refl, (refl, refl))

abbrev pub first_instances : List ℕ
first_instances = codes "SELECT rowid, instance_id > '' AND instance_id <= x'' AS named FROM instances ORDER BY rowid LIMIT ?1"

pub first_instances_is : IsQuery first_instances (first_rows 3) names_shown
unfolding understood everything
first_instances_is = (refl, refl, (refl, refl))

abbrev pub instances_from : List ℕ
instances_from = codes "SELECT rowid, instance_id > '' AND instance_id <= x'' AS named FROM instances WHERE rowid >= ?1 ORDER BY rowid LIMIT ?2"

pub instances_from_is : IsQuery instances_from (rows_from 3) names_shown
unfolding understood everything
instances_from_is = (refl, refl, (refl, refl))

abbrev pub first_bindings : List ℕ
first_bindings = codes "SELECT rowid, instance_id > '' AND instance_id <= x'' AS named FROM bindings ORDER BY rowid LIMIT ?1"

pub first_bindings_is : IsQuery first_bindings (first_rows 5) names_shown
unfolding understood everything
first_bindings_is = (refl, refl, (refl, refl))

abbrev pub bindings_from : List ℕ
bindings_from = codes "SELECT rowid, instance_id > '' AND instance_id <= x'' AS named FROM bindings WHERE rowid >= ?1 ORDER BY rowid LIMIT ?2"

pub bindings_from_is : IsQuery bindings_from (rows_from 5) names_shown
unfolding understood everything
bindings_from_is = (refl, refl, (refl, refl))

abbrev pub first_contexts : List ℕ
first_contexts = codes "SELECT rowid, instance_id > '' AND instance_id <= x'' AS named FROM contexts ORDER BY rowid LIMIT ?1"

pub first_contexts_is : IsQuery first_contexts (first_rows 7) names_shown
unfolding understood everything
first_contexts_is = (refl, refl, (refl, refl))

abbrev pub contexts_from : List ℕ
contexts_from = codes "SELECT rowid, instance_id > '' AND instance_id <= x'' AS named FROM contexts WHERE rowid >= ?1 ORDER BY rowid LIMIT ?2"

pub contexts_from_is : IsQuery contexts_from (rows_from 7) names_shown
unfolding understood everything
contexts_from_is = (refl, refl, (refl, refl))
