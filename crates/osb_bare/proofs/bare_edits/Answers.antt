use Rattle.osb_bare.proofs.LifeLemmas.{row_after-bare, edit_of-bare}
use Rattle.osb_bare.proofs.bare_edits.Goals as goal

pub returns : goal.returns
returns c = record { row = row_after-bare; edit = edit_of-bare }
