use Rattle.std.proofs.Common.{rules, ◌∙◌, codes}
use Rattle.clap.specs.Words.{found_of}
use Rattle.clap.proofs.WalkLemmas.{raw_values-rows}
use Rattle.osb_cli.proofs.words.files_of.Goals as goal
use Rattle.osb_cli.proofs.words.files_of.Goals.{in-Some+in_ok-extend_from_slice, in_default}

pub returns : goal.returns
returns c =
    let values = c.get_strs.ensures ∙ raw_values-rows (found_of c.args.found.now) (codes "connections") in
    elim c.match-get_strs.branch [
      | in-Some+in_ok-extend_from_slice w ↦ rw (← values) (search rules)
      | in_default w ↦ rw (← values) (search rules)
    ]
