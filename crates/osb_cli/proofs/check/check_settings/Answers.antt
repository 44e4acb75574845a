use Rattle.osb_cli.proofs.CheckLemmas.{unexplained}
use Rattle.osb_cli.proofs.check.check_settings.Goals as goal

pub returns-else-explain-clause-checked : goal.returns-else-explain-clause-checked
returns-else-explain-clause-checked g c =
    rw c.if-explain.false (unexplained _ _ _ _ c.read_checked.result c.read_checked.ensures.are c.read_checked.ensures.written)
