use Rattle.std.proofs.Common.{◌∙◌, refl, codes}
use Rattle.clap.specs.Words.{found_of}
use Rattle.clap.proofs.WalkLemmas.{first_value-rows}
use Rattle.osb_cli.proofs.WordLemmas.{text_or}
use Rattle.osb_cli.proofs.words.backup_order.Goals as goal

pub returns : goal.returns
returns c =
    let found = found_of c.args.found.now in
    record {
      named = refl;
      database = text_or _ _ _ _ c.unwrap_or.ensures (c.get_str.ensures ∙ first_value-rows found (codes "database"));
      to = text_or _ _ _ _ c.unwrap_or-2.ensures (c.get_str-2.ensures ∙ first_value-rows found (codes "to"));
    }
