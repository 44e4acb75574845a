use Rattle.std.proofs.Common.{rules, ◌≡◌, refl}
use Rattle.std.specs.Prelude.{◌≢◌}
use Rattle.std.specs.FinMap.{empty}
use Rattle.sqlite.specs.Held.{state}
use Rattle.sqlite.proofs.StateLemmas.{survives_weaker}
use Rattle.osb_tables.specs.declared.schema.Indexes.{Indexes}
use Rattle.osb_tables.specs.Tables.{made, no_schema, tables_schema, five_tables}
use Rattle.osb_records.specs.Opened.{HoldsSame}
use Rattle.osb_statements.specs.Steps.{HoldsLives}
use Rattle.osb_records.proofs.OpenedLemmas.{empty_same, others_stand}
use Rattle.osb_records.proofs.adopt.take_settled.Goals as goal

pub returns-in-Nothing-clause-crash : goal.returns-in-Nothing-clause-crash
returns-in-Nothing-clause-crash g c =
    let old = state g.S.Store c.args.conn.now in
    let new = state g.S.Store c.make.new.conn in
    let none : old.now.schema ≡ no_schema = search rules in
    survives_weaker old new (HoldsLives empty) (HoldsSame old.now) (λ _ db holds. empty_same old.now none db holds) c.make.ensures.crash

pub returns-in-Others-clause-takes : goal.returns-in-Others-clause-takes
returns-in-Others-clause-takes g c =
    let old = state g.S.Store c.args.conn.now in
    let nothing : old.now.schema ≢ no_schema = search rules in
    let first : (indexes : Indexes) → old.now.schema ≢ made tables_schema indexes = search rules in
    let second : (indexes : Indexes) → old.now.schema ≢ made five_tables indexes = search rules in
    record { ready = tt; ok = λ _ _. tt; err = λ _ _. refl; not_ours = λ _ _. others_stand old.now nothing first second }
