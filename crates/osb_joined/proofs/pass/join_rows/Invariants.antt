use Rattle.std.proofs.Common.{drop}
use Rattle.osb_joined.specs.Join.{is_of_standing}
use Rattle.osb_joined.specs.Fits.{fits_row}
use Rattle.osb_joined.proofs.PassLemmas.{Passes}
use Rattle.osb_joined.proofs.WithLemmas.{row_joins}
use Rattle.osb_joined.proofs.pass.join_rows.Given as goal

abbrev pub invariant-loop-context : goal.invariant-loop-context
invariant-loop-context l = Passes is_of_standing fits_row row_joins l.contexts l.instances l.joined.items (drop l.context-index l.contexts) l.left
