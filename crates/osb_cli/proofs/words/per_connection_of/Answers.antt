use Rattle.std.proofs.Common.{rules, ◌∙◌, arith, codes}
use Rattle.std.specs.Str.Parse.{ExplainsUnsignedError, HasUnsignedDigitsIfOk, ParsesUnsigned}
use Rattle.clap.specs.Words.{found_of}
use Rattle.clap.proofs.WalkLemmas.{one_text-rows}
use Rattle.osb_cli.proofs.WordLemmas.{number_read}
use Rattle.osb_cli.proofs.words.per_connection_of.Goals as goal
use Rattle.osb_cli.proofs.words.per_connection_of.Goals.{in-Some, in-None}

pub returns : goal.returns
returns c =
    let rows = one_text-rows (found_of c.args.found.now) (codes "per-connection") in
    number_read (λ text r. ParsesUnsigned 32 10 text r × ExplainsUnsignedError 10 text r × HasUnsignedDigitsIfOk text r) (λ text r reads. reads.0)
    1000 (omega arith) _ c.get_one.result 1 _
    (λ none. c.get_one.ensures.none (rows ∙ none))
    (λ text some. c.get_one.ensures.value text (rows ∙ some))
    (λ none. elim c.match-get_one.branch [
      | in-Some w ↦ search (rules, none)
      | in-None w ↦ search (rules, none)
    ])
    (λ k some ge le. elim c.match-get_one.branch [
      | in-Some w ↦ search (rules, some)
      | in-None w ↦ search (rules, some)
    ])
