use Rattle.sqlite.proofs.Callers.{memory_is_clean}
use Rattle.osb_records.proofs.records.open_memory.Goals as goal

pub returns : goal.returns
returns c = c.in_ok-make_tables.ensures.ok (memory_is_clean c.make_tables.new.conn)
