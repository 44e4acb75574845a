use Rattle.std.proofs.Common.{◌==◌, rules}
use Rattle.std.proofs.lemmas.Iterator.Search.{any_from_yields_List}
use Rattle.std.proofs.lemmas.Iterator.Splits.{YieldsList-from_slice_split}
use borrow.Author.Tests.{tests}
use Rattle.httparse.specs.Grammar.{trim_ows}
use Rattle.osb_frames.specs.Fields.{same_ignoring_case}
use Rattle.osb_frames.proofs.field.lists_item.Goals as goal

pub returns : goal.returns
returns c =
    any_from_yields_List (λ item. same_ignoring_case (trim_ows item) c.args.word.now) _ _ _ c.any.ensures.ran
    (YieldsList-from_slice_split _ (λ byte. byte == 44) c.args.value.now c.split.ensures.rest c.split.ensures.done c.split.ensures.closure (λ x b q k. search (rules, tests)))
    (λ x b q k. search (rules, tests))
