use Rattle.osb_standing.proofs.ListingLemmas.{listed_by_rows}
use Rattle.osb_standing.proofs.laws.listing_by_rows.Goals as goal

pub returns : goal.returns
returns c = listed_by_rows
