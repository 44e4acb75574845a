use Rattle.osb_bare.proofs.LifeLemmas.{standing_of-bare, row_of-bare, bindings_of-bare, has_bindings-bare, birth_failed-bare}
use Rattle.osb_bare.proofs.bare_rows.Goals as goal

pub returns : goal.returns
returns c = record { standing = standing_of-bare; row = row_of-bare; bindings = bindings_of-bare; remain = has_bindings-bare; birth = birth_failed-bare }
