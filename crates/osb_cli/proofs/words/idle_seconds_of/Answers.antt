use Rattle.std.proofs.Common.{rules, ◌∙◌, arith, codes}
use Rattle.std.specs.Str.Parse.{ExplainsUnsignedError, HasUnsignedDigitsIfOk, ParsesUnsigned}
use Rattle.clap.specs.Words.{found_of}
use Rattle.clap.proofs.WalkLemmas.{one_text-rows}
use Rattle.osb_cli.proofs.WordLemmas.{number_read}
use Rattle.osb_cli.proofs.words.idle_seconds_of.Goals as goal

pub returns : goal.returns
returns c =
    let rows = one_text-rows (found_of c.args.found.now) (codes "idle-limit") in
    number_read (λ text r. ParsesUnsigned 32 10 text r × ExplainsUnsignedError 10 text r × HasUnsignedDigitsIfOk text r) (λ text r reads. reads.0)
    86400 (omega arith) _ c.get_one.result 60 c.unwrap_or.result
    (λ none. c.get_one.ensures.none (rows ∙ none))
    (λ text some. c.get_one.ensures.value text (rows ∙ some))
    (λ none. search (rules, none)) (λ k some ge le. search (rules, some))
