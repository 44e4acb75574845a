use Rattle.osb_trim.proofs.LifeLemmas.{trimmed_stays}
use Rattle.osb_trim.proofs.CountLemmas.{none_counts, unchanged}
use Rattle.osb_trim.proofs.LivesLemmas.{lives_stay}
use Rattle.osb_trim.proofs.laws.trims_once.Goals as goal

pub returns-clause-life : goal.returns-clause-life
returns-clause-life c = trimmed_stays

pub returns-clause-count : goal.returns-clause-count
returns-clause-count c = λ life. (unchanged life, none_counts life)

pub returns-clause-lives : goal.returns-clause-lives
returns-clause-lives c = lives_stay
