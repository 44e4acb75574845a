-- How the tables are made.
use Rattle.std.proofs.Common.{◌≡◌, ℕ, [], ◌∷◌, false, None, Ok, sym, ap, subst, ◌∙◌}
use Rattle.sqlite.specs.Schema.{Schema}
use Rattle.sqlite.specs.Command.TheVariants.{CreateTable}
use Rattle.sqlite.specs.Change.{created, next_tree, KeepsRows}
use Rattle.sqlite.specs.Does.{Tally, lacks_sequence}
use Rattle.sqlite.specs.Effect.{Database}
use Rattle.sqlite.specs.State.{State, Writes, Executes}
use Rattle.sqlite.proofs.Callers.{runs_as}
use Rattle.osb_tables.specs.Tables.{format_table, no_schema, format_schema, orders_schema, instances_schema, tables_schema}
use Rattle.osb_statements.specs.Inside.{AreBlank}
use Rattle.osb_statements.proofs.Texts.{create_format, create_format_is, create_format_plain, create_orders, create_orders_is, create_orders_plain, orders_made, orders_placed, create_instances, create_instances_is, create_instances_plain, instances_made, instances_placed, create_bindings, create_bindings_is, create_bindings_plain, bindings_made, bindings_placed}
use Rattle.osb_rows.proofs.StatementLemmas.{went, same_value}

pub makes_format : (old new : State) (count : ℕ) → old.now.schema ≡ no_schema → AreBlank [] old.now.trees → Executes create_format [] old new (Ok count)
    → (new.now.schema ≡ format_schema) × AreBlank (0 ∷ []) new.now.trees
makes_format old new count has blank h =
    let w = subst (λ t. Writes old new None CreateTable t [] count) create_format_is.1 (runs_as create_format [] old new no_schema has CreateTable create_format_is.0 create_format_plain count h) in
    let all = went w.changed in
    let first = went all.1 in
    let made = first.1 in
    let both : Ok made.table ≡ Ok format_table = sym made.defined ∙ create_format_is.2 in
    let same : made.table ≡ format_table = same_value both in
    let schema : first.0.schema ≡ format_schema = made.is ∙ ap (λ s. created s made.table) has ∙ ap (created no_schema) same in
    let plain : lacks_sequence first.0.schema ≡ false = ap lacks_sequence schema in
    let now : new.now ≡ first.0 = ap (λ (p : Tally × Database). p.1) (same_value all.2) ∙ same_value (rw plain at first.2) in
    (ap (λ (d : Database). d.schema) now ∙ schema, (ap (λ (d : Database). d.trees 0) now ∙ subst (λ s. first.0.trees (next_tree s) ≡ []) has made.empty, tt))

pub makes_orders : (old new : State) (count : ℕ) → old.now.schema ≡ format_schema → AreBlank (0 ∷ []) old.now.trees → Executes create_orders [] old new (Ok count)
    → (new.now.schema ≡ orders_schema) × AreBlank (1 ∷ 0 ∷ []) new.now.trees
makes_orders old new count has blank h =
    let w = subst (λ t. Writes old new None CreateTable t [] count) create_orders_is.1 (runs_as create_orders [] old new format_schema has CreateTable create_orders_is.0 create_orders_plain count h) in
    let all = went w.changed in
    let first = went all.1 in
    let made = first.1 in
    let both : Ok made.table ≡ Ok orders_made = sym made.defined ∙ create_orders_is.2 in
    let same : made.table ≡ orders_made = same_value both in
    let schema : first.0.schema ≡ orders_schema = made.is ∙ ap (λ s. created s made.table) has ∙ ap (created format_schema) same ∙ orders_placed in
    let plain : lacks_sequence first.0.schema ≡ false = ap lacks_sequence schema in
    let now : new.now ≡ first.0 = ap (λ (p : Tally × Database). p.1) (same_value all.2) ∙ same_value (rw plain at first.2) in
    let others = subst (λ (s : Schema). KeepsRows s.tables old.now.trees first.0.trees) has made.others in
    (ap (λ (d : Database). d.schema) now ∙ schema, (ap (λ (d : Database). d.trees 1) now ∙ subst (λ s. first.0.trees (next_tree s) ≡ []) has made.empty, (ap (λ (d : Database). d.trees 0) now ∙ others.0 ∙ blank.0, tt)))

pub makes_instances : (old new : State) (count : ℕ) → old.now.schema ≡ orders_schema → AreBlank (1 ∷ 0 ∷ []) old.now.trees → Executes create_instances [] old new (Ok count)
    → (new.now.schema ≡ instances_schema) × AreBlank (3 ∷ 1 ∷ 0 ∷ []) new.now.trees
makes_instances old new count has blank h =
    let w = subst (λ t. Writes old new None CreateTable t [] count) create_instances_is.1 (runs_as create_instances [] old new orders_schema has CreateTable create_instances_is.0 create_instances_plain count h) in
    let all = went w.changed in
    let first = went all.1 in
    let made = first.1 in
    let both : Ok made.table ≡ Ok instances_made = sym made.defined ∙ create_instances_is.2 in
    let same : made.table ≡ instances_made = same_value both in
    let schema : first.0.schema ≡ instances_schema = made.is ∙ ap (λ s. created s made.table) has ∙ ap (created orders_schema) same ∙ instances_placed in
    let plain : lacks_sequence first.0.schema ≡ false = ap lacks_sequence schema in
    let now : new.now ≡ first.0 = ap (λ (p : Tally × Database). p.1) (same_value all.2) ∙ same_value (rw plain at first.2) in
    let others = subst (λ (s : Schema). KeepsRows s.tables old.now.trees first.0.trees) has made.others in
    (ap (λ (d : Database). d.schema) now ∙ schema, (ap (λ (d : Database). d.trees 3) now ∙ subst (λ s. first.0.trees (next_tree s) ≡ []) has made.empty, (ap (λ (d : Database). d.trees 1) now ∙ others.1.0 ∙ blank.0, (ap (λ (d : Database). d.trees 0) now ∙ others.0 ∙ blank.1.0, tt))))

pub makes_bindings : (old new : State) (count : ℕ) → old.now.schema ≡ instances_schema → AreBlank (3 ∷ 1 ∷ 0 ∷ []) old.now.trees → Executes create_bindings [] old new (Ok count)
    → (new.now.schema ≡ tables_schema) × AreBlank (5 ∷ 3 ∷ 1 ∷ 0 ∷ []) new.now.trees
makes_bindings old new count has blank h =
    let w = subst (λ t. Writes old new None CreateTable t [] count) create_bindings_is.1 (runs_as create_bindings [] old new instances_schema has CreateTable create_bindings_is.0 create_bindings_plain count h) in
    let all = went w.changed in
    let first = went all.1 in
    let made = first.1 in
    let both : Ok made.table ≡ Ok bindings_made = sym made.defined ∙ create_bindings_is.2 in
    let same : made.table ≡ bindings_made = same_value both in
    let schema : first.0.schema ≡ tables_schema = made.is ∙ ap (λ s. created s made.table) has ∙ ap (created instances_schema) same ∙ bindings_placed in
    let plain : lacks_sequence first.0.schema ≡ false = ap lacks_sequence schema in
    let now : new.now ≡ first.0 = ap (λ (p : Tally × Database). p.1) (same_value all.2) ∙ same_value (rw plain at first.2) in
    let others = subst (λ (s : Schema). KeepsRows s.tables old.now.trees first.0.trees) has made.others in
    (ap (λ (d : Database). d.schema) now ∙ schema, (ap (λ (d : Database). d.trees 5) now ∙ subst (λ s. first.0.trees (next_tree s) ≡ []) has made.empty, (ap (λ (d : Database). d.trees 3) now ∙ others.1.1.0 ∙ blank.0, (ap (λ (d : Database). d.trees 1) now ∙ others.1.0 ∙ blank.1.0, (ap (λ (d : Database). d.trees 0) now ∙ others.0 ∙ blank.1.1.0, tt)))))
