use Rattle.sqlite.specs.Files.{file_state}
use Rattle.osb_file.proofs.LookLemmas.{honest_is_clean}
use Rattle.osb_file.proofs.RewritingLemmas.{closed_holds}
use Rattle.osb_file.proofs.rewriting.close_records.Goals as goal

pub returns-clause-open : goal.returns-clause-open
returns-clause-open g c = rw (c.into_connection-conn.ensures.same) at c.close.ensures.open

pub returns-clause-holds : goal.returns-clause-holds
returns-clause-holds g c =
    let conn = c.into_connection-conn.result in
    rw (c.into_connection-conn.ensures.same) at (
    closed_holds c.close.result (λ files. g.D.Disk.seen files.db) (file_state conn) c.into_connection-conn.ensures.ready (honest_is_clean c.requires.honest conn) c.schema.ensures.live c.close.ensures.written c.close.ensures.open)
