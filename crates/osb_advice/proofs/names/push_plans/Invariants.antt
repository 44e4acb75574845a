use Rattle.std.proofs.Common.{◌≡◌, [], ◌++◌, drop, string_bytes}
use Rattle.serde_json.specs.View.{items_view}
use Rattle.osb_catalog.specs.declared.field.Field.TheVariants as the
use Rattle.osb_catalog.specs.Fields.{text_at}
use Rattle.osb_catalog.specs.IdSet.{has_id}
use Rattle.osb_catalog.specs.Items.{each}
use Rattle.osb_advice.specs.Names.{name_lines}
use Rattle.osb_advice.proofs.NameLemmas.{lines_by}
use Rattle.osb_advice.proofs.names.push_plans.Given as goal

abbrev pub invariant-loop-at : goal.invariant-loop-at
invariant-loop-at l = string_bytes l.text ++ lines_by l.number (has_id l.seen) l.at (each (text_at the.Name) (items_view (drop l.at l.plans))) ≡ string_bytes l.initial.text ++ name_lines l.number [] 0 (each (text_at the.Name) (items_view l.plans))
