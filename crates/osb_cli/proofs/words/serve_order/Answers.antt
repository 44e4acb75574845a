use Rattle.std.proofs.Common.{rules, ◌∙◌, refl, codes}
use Rattle.clap.specs.Words.{found_of}
use Rattle.clap.proofs.WalkLemmas.{first_value-rows, one_text-rows}
use Rattle.osb_cli.proofs.WordLemmas.{flag_given, text_or}
use Rattle.osb_cli.proofs.words.serve_order.Goals as goal

pub returns : goal.returns
returns c =
    let found = found_of c.args.found.now in
    record {
      named = refl;
      settings = text_or _ _ _ _ c.unwrap_or.ensures (c.get_str.ensures ∙ first_value-rows found (codes "settings"));
      database = text_or _ _ _ _ c.unwrap_or-2.ensures (c.get_str-2.ensures ∙ first_value-rows found (codes "database"));
      existing = flag_given _ _ _ (one_text-rows found (codes "existing")) c.get_flag.ensures.none c.get_flag.ensures.value;
      address = text_or _ _ _ _ c.unwrap_or-3.ensures (c.get_str-3.ensures ∙ first_value-rows found (codes "listen"));
      connections = c.connections_of.ensures;
      per_connection = c.per_connection_of.ensures;
      seconds = c.seconds_of.result;
      time_limit = search rules;
      limit = c.seconds_of.ensures;
      idle_seconds = c.idle_seconds_of.result;
      idle_limit = search rules;
      idle = c.idle_seconds_of.ensures;
      together = c.together_of.ensures;
      explain = flag_given _ _ _ (one_text-rows found (codes "explain")) c.get_flag-2.ensures.none c.get_flag-2.ensures.value;
      wanted = c.wanted_of.ensures;
    }
