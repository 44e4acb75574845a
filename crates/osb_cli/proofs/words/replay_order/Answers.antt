use Rattle.std.proofs.Common.{◌∙◌, ap, codes, unwrap_or, []}
use Rattle.clap.specs.Words.{found_of}
use Rattle.clap.proofs.WalkLemmas.{first_value-rows}
use Rattle.osb_cli.proofs.words.replay_order.Goals as goal

pub returns : goal.returns
returns c name other another waits one last = record {
  no_backup = λ is. other (ap (λ o. unwrap_or o []) is);
  no_check = λ is. another (ap (λ o. unwrap_or o []) is);
  no_ready = λ is. waits (ap (λ o. unwrap_or o []) is);
  no_serve = λ is. one (ap (λ o. unwrap_or o []) is);
  no_trim = λ is. last (ap (λ o. unwrap_or o []) is);
  settings = c.get_str.ensures ∙ first_value-rows (found_of c.args.found.now) (codes "settings");
  connections = c.in_ok-files_of.ensures;
  per_connection = c.per_connection_of.ensures;
}
