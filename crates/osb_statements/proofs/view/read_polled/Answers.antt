use Rattle.osb_statements.proofs.NamedLemmas.{unchanged_records}
use Rattle.osb_statements.proofs.view.read_polled.Goals as goal

pub read_subject-requires : goal.read_subject-requires
read_subject-requires g c clean live =
    let reads = c.in_ok-named.ensures.reads in
    unchanged_records _ _ reads.survives c.requires clean (reads.same clean (reads.was_open clean live))
