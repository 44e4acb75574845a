use Rattle.osb_bare.proofs.LifeLemmas.{changed-bare, written-bare}
use Rattle.osb_bare.proofs.WordLemmas.{is_life-bare, allowed-bare}
use Rattle.osb_bare.proofs.LivesLemmas.{lives_changed-bare}
use Rattle.osb_bare.proofs.bare_changes.Goals as goal

pub returns : goal.returns
returns c = record { life = changed-bare; lives = lives_changed-bare; written = written-bare; well_formed = is_life-bare; allowed = allowed-bare }
