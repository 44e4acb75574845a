use Rattle.std.proofs.Common.{rules, ◌∙◌, refl, codes}
use Rattle.clap.specs.Words.{found_of}
use Rattle.clap.proofs.WalkLemmas.{first_value-rows}
use Rattle.osb_cli.proofs.WordLemmas.{text_or}
use Rattle.osb_cli.proofs.words.ready_order.Goals as goal

pub returns : goal.returns
returns c = record {
  named = refl;
  address = text_or _ _ _ _ c.unwrap_or.ensures (c.get_str.ensures ∙ first_value-rows (found_of c.args.found.now) (codes "address"));
  seconds = c.seconds_of.result;
  within = search rules;
  limit = c.seconds_of.ensures;
  process = c.process_of.ensures;
}
