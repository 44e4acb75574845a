use Rattle.std.proofs.Common.{◌≡◌, true, rules, subst, sym}
use Rattle.std.specs.Str.{is_utf8}
use Rattle.std.proofs.lemmas.Str.{IsUtf8-string_bytes, is_utf8-from_IsUtf8}
use Rattle.osb_contexts.specs.Read.{IsUnfit}
use Rattle.osb_contexts.proofs.CellLemmas.{text_fits}
use Rattle.osb_statements.proofs.cells.text_in.Goals as goal

pub returns-in-Ok-clause-utf8 : goal.returns-in-Ok-clause-utf8
returns-in-Ok-clause-utf8 c = subst (λ text. is_utf8 text ≡ true) (sym c.from.ensures) (is_utf8-from_IsUtf8 _ (IsUtf8-string_bytes c.in-Ok.string))

pub returns-in-Err-Utf8Error-clause-known : goal.returns-in-Err-Utf8Error-clause-known
returns-in-Err-Utf8Error-clause-known c texts is =
    let error = c.in-Err-Utf8Error in
    text_fits c.args.row.now c.args.at error.field-0 (λ high. search rules) error.ensures.kind error.ensures.which texts (subst IsUnfit (sym error.field-0-is) tt)
