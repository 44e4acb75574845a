use Rattle.std.proofs.Common.{[], ◌∷◌, refl}
use Rattle.osb_bare.specs.Laws.{BareLivesHaveNoContext}
use Rattle.osb_bare.proofs.LivesLemmas.{is_lives-bare, life_of-bare, lives_in-bare}
use Rattle.osb_bare.proofs.bare_lives.Goals as goal

none_kept : BareLivesHaveNoContext
none_kept [] = tt
none_kept (order ∷ later) = (refl, none_kept later)

pub returns : goal.returns
returns c = record { no_context = none_kept; kept = is_lives-bare; life = life_of-bare; entries = lives_in-bare }
