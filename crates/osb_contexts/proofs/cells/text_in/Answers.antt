use Rattle.std.proofs.Common.{◌≡◌, true, rules, subst, sym}
use Rattle.std.specs.Str.{is_utf8}
use Rattle.std.proofs.lemmas.Str.{IsUtf8-string_bytes, is_utf8-from_IsUtf8}
use Rattle.osb_contexts.proofs.CellLemmas.{text_fits}
use Rattle.osb_contexts.proofs.cells.text_in.Goals as goal

pub returns-in_err-string-clause-known : goal.returns-in_err-string-clause-known
returns-in_err-string-clause-known c texts =
    let known = text_fits c.args.row.now c.args.at c.in_err-string.field-0.0 (λ high. search rules) c.in_err-string.ensures.kind c.in_err-string.ensures.which texts in
    search rules

pub returns-clause-utf8 : goal.returns-clause-utf8
returns-clause-utf8 c = subst (λ text. is_utf8 text ≡ true) (sym c.from.ensures) (is_utf8-from_IsUtf8 _ (IsUtf8-string_bytes c.in_ok-string.string))
