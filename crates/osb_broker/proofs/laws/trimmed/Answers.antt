use Rattle.osb_trim.specs.Trimmed.{trimmed_lives}
use Rattle.osb_trim.proofs.MatchLemmas.{fronts_of, turned, matches_trimmed, matches_turned}
use Rattle.osb_broker.proofs.TrimmedRunLemmas.{same_runs}
use Rattle.osb_broker.proofs.TrimmedEpisodeLemmas.{same_episodes}
use Rattle.osb_broker.proofs.TrimmedExchangeLemmas.{same_exchanges}
use Rattle.osb_broker.proofs.laws.trimmed.Goals as goal

pub returns-clause-runs : goal.returns-clause-runs
returns-clause-runs c = λ rules limits takes k lives h.
    let fronts = fronts_of lives in
    let there = matches_trimmed lives h in
    let back = matches_turned fronts lives (trimmed_lives lives) there in (
      λ connections marks outputs after run. same_runs fronts rules takes limits k lives (trimmed_lives lives) connections marks outputs after there run,
      λ connections marks outputs after run. same_runs (turned fronts) rules takes limits k (trimmed_lives lives) lives connections marks outputs after back run,
    )

pub returns-clause-episodes : goal.returns-clause-episodes
returns-clause-episodes c = λ rules limits k lives h.
    let fronts = fronts_of lives in
    let there = matches_trimmed lives h in
    let back = matches_turned fronts lives (trimmed_lives lives) there in (
      λ episodes after are. same_episodes fronts rules limits k lives (trimmed_lives lives) episodes after there are,
      λ episodes after are. same_episodes (turned fronts) rules limits k (trimmed_lives lives) lives episodes after back are,
    )

pub returns-clause-exchanges : goal.returns-clause-exchanges
returns-clause-exchanges c = λ rules limits k lives h.
    let fronts = fronts_of lives in
    let there = matches_trimmed lives h in
    let back = matches_turned fronts lives (trimmed_lives lives) there in (
      λ runs after are. same_exchanges fronts rules limits k lives (trimmed_lives lives) runs after there are,
      λ runs after are. same_exchanges (turned fronts) rules limits k (trimmed_lives lives) lives runs after back are,
    )
