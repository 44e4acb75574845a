use Rattle.std.proofs.Common.{◌∙◌, ap, arith, codes, ℕ, Option, unwrap_or}
use Rattle.std.specs.Str.Parse.{ExplainsUnsignedError, HasUnsignedDigitsIfOk, ParsesUnsigned}
use Rattle.clap.specs.Words.{found_of}
use Rattle.clap.proofs.WalkLemmas.{one_text-rows}
use Rattle.osb_cli.proofs.WordLemmas.{number_read}
use Rattle.osb_cli.proofs.words.process_of.Goals as goal

pub returns : goal.returns
returns c =
    let rows = one_text-rows (found_of c.args.found.now) (codes "pid") in
    let number = λ (o : Option ℕ). unwrap_or o 0 in
    number_read (λ text r. ParsesUnsigned 32 10 text r × ExplainsUnsignedError 10 text r × HasUnsignedDigitsIfOk text r) (λ text r reads. reads.0)
    4194304 (omega arith) _ c.get_one.result 0 (number c.get_one.result)
    (λ none. c.get_one.ensures.none (rows ∙ none))
    (λ text some. c.get_one.ensures.value text (rows ∙ some))
    (λ none. ap number none) (λ k some ge le. ap number some)
