use Rattle.std.proofs.Common.{◌≡◌, ℕ, ◌==◌, ◌∙◌, ap, length, unwrap_or, rules, tests, arith}
use Rattle.std.specs.List.{position}
use Rattle.std.proofs.lemmas.Bool.Decides.{nat_tests}
use Rattle.std.proofs.lemmas.List.Sums.{prefix_len-le-length}
use Rattle.std.proofs.lemmas.Iterator.{YieldsList-from_slice}
use Rattle.std.proofs.lemmas.Iterator.Search.{position_from_yields_List}
use Rattle.osb_asks.proofs.target.position_of.Goals as goal

pub returns-clause-value : goal.returns-clause-value
returns-clause-value c =
    let test = λ (b : ℕ). b == c.args.byte in
    let bytes = c.args.bytes.now in
    let found : c.position-first.result ≡ position test bytes =
    position_from_yields_List test _ _ _ c.position-first.ensures.ran (YieldsList-from_slice _ c.iter.ensures.rest) (λ x b q k. search (rules, tests)) in
    c.unwrap_or.ensures ∙ ap (λ o. unwrap_or o (length bytes)) found ∙ grind (arith, nat_tests, prefix_len-le-length)
