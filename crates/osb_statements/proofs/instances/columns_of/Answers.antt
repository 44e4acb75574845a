use Rattle.std.proofs.Common.{Option, sym, subst}
use Rattle.osb_orders.specs.declared.view.Standing.{Standing}
use Rattle.osb_rows.specs.Rows.{HaveUtf8Texts}
use Rattle.osb_contexts.proofs.CellLemmas.{empty_in_utf8, text_in_utf8}
use Rattle.osb_statements.specs.Columns.{attributes_row}
use Rattle.osb_statements.specs.Instances.{attributes_shown}
use Rattle.osb_statements.proofs.instances.columns_of.Goals as goal

abbrev AreShown : Option Standing → Type 0
AreShown standing = HaveUtf8Texts (attributes_row (attributes_shown standing))

pub returns-in-None-clause-texts : goal.returns-in-None-clause-texts
returns-in-None-clause-texts c = subst AreShown (sym c.in-None.is) (empty_in_utf8, (empty_in_utf8, (empty_in_utf8, (empty_in_utf8, (empty_in_utf8, (empty_in_utf8, tt))))))

pub returns-in-Some-clause-texts : goal.returns-in-Some-clause-texts
returns-in-Some-clause-texts c = subst AreShown (sym c.in-Some.is) (
  text_in_utf8 _ _ c.as_str.ensures c.as_str.utf8,
  (
    text_in_utf8 _ _ c.as_str-in-Some.ensures c.as_str-in-Some.utf8,
    (
      text_in_utf8 _ _ c.as_str-in-Some-2.ensures c.as_str-in-Some-2.utf8,
      (
        text_in_utf8 _ _ c.as_str-in-Some-3.ensures c.as_str-in-Some-3.utf8,
        (
          text_in_utf8 _ _ c.as_str-in-Some-4.ensures c.as_str-in-Some-4.utf8,
          (text_in_utf8 _ _ c.as_str-in-Some-5.ensures c.as_str-in-Some-5.utf8, tt),
        ),
      ),
    ),
  ),
)
