use Rattle.std.proofs.Common.{◌∙◌, refl, codes}
use Rattle.clap.specs.Words.{found_of}
use Rattle.clap.proofs.WalkLemmas.{first_value-rows}
use Rattle.osb_cli.proofs.WordLemmas.{text_or}
use Rattle.osb_cli.proofs.words.trim_order.Goals as goal

pub returns : goal.returns
returns c = record {
  named = refl;
  database = text_or _ _ _ _ c.unwrap_or-database.ensures (c.get_str.ensures ∙ first_value-rows (found_of c.args.found.now) (codes "database"));
}
