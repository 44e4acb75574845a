use Rattle.osb_joined.proofs.JoinLemmas.{life_of-joined, bare-joined, standing_joined, row_joined}
use Rattle.osb_joined.proofs.OrderLemmas.{lives_joined}
use Rattle.osb_joined.proofs.lives_joined.Goals as goal

pub returns : goal.returns
returns c = record { lives = lives_joined; standing = standing_joined; row = row_joined; bare = bare-joined; at = life_of-joined }
