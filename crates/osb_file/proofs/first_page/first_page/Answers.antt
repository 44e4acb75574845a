use Rattle.std.proofs.Common.{refl, inl, inr}
use Rattle.osb_file.proofs.PageLemmas.{no_tables}
use Rattle.osb_file.proofs.first_page.first_page.Goals as goal

pub returns : goal.returns
returns c = rw c.copy_from_slice.ensures.after (no_tables _ (record {
  long = refl;
  header = (
    record { magic = refl; size = refl; versions = inl refl },
    record { fractions = refl; format = inr refl; encoding = inr refl; no_vacuum = (refl, refl); counted = refl },
  );
  pages = refl;
  trunk = refl;
  free = refl;
  flag = refl;
  freeblock = refl;
  cells = refl;
  content = refl;
  fragments = refl;
}))
