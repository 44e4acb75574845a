use Rattle.osb_joined.proofs.ChangeLemmas.{contexts_changed, create_ends}
use Rattle.osb_joined.proofs.contexts_changed.Goals as goal

pub returns : goal.returns
returns c = record { changed = contexts_changed; create = create_ends }
