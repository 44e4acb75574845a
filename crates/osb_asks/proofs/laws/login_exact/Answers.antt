use Rattle.osb_asks.proofs.CredentialLemmas.{login_exact}
use Rattle.osb_asks.proofs.laws.login_exact.Goals as goal

pub returns : goal.returns
returns c = login_exact
