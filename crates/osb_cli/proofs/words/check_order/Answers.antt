use Rattle.std.proofs.Common.{◌∙◌, refl, codes}
use Rattle.clap.specs.Words.{found_of}
use Rattle.clap.proofs.WalkLemmas.{first_value-rows, one_text-rows}
use Rattle.osb_cli.proofs.WordLemmas.{flag_given}
use Rattle.osb_cli.proofs.words.check_order.Goals as goal

pub returns : goal.returns
returns c =
    let found = found_of c.args.found.now in
    record {
      named = refl;
      settings = c.get_str.ensures ∙ first_value-rows found (codes "settings");
      explain = flag_given _ _ _ (one_text-rows found (codes "explain")) c.get_flag.ensures.none c.get_flag.ensures.value;
      database = c.get_str-2.ensures ∙ first_value-rows found (codes "database");
    }
