use Rattle.osb_bare.proofs.LifeLemmas.{last_of-bare, named_in-bare, subject-bare}
use Rattle.osb_bare.proofs.CountLemmas.{counts-bare}
use Rattle.osb_bare.proofs.ViewLemmas.{listing-bare, plans_in_use-bare}
use Rattle.osb_bare.proofs.bare_views.Goals as goal

pub returns : goal.returns
returns c = record { last = last_of-bare; named = named_in-bare; subject = subject-bare; listing = listing-bare; plans = plans_in_use-bare; counts = counts-bare }
