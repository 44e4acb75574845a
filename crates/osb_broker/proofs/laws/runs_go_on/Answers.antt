use Rattle.osb_broker.proofs.RunsLemmas.{run_more}
use Rattle.osb_broker.proofs.laws.runs_go_on.Goals as goal

pub returns : goal.returns
returns c = λ machine limits k s connections marks outputs t bytes more texts u run text.
    run_more machine limits k s connections marks outputs t bytes more texts u run text
