-- What stays of a writer where nothing is written to it.
use Rattle.std.specs.Prelude.{◌≡◌}
use Rattle.osb_frames.specs.declared.sink.Sink.{Ghosts}

-- no write was made of it, and it has the bytes that it had
pub record WritesNothing {W : Type 0} (sink : Ghosts W) (old new : W) : Type 0 where
  pub taken : sink.taken new ≡ sink.taken old
  pub writes : sink.writes new ≡ sink.writes old
  pub failures : sink.failures new ≡ sink.failures old
  pub failed_or_empty : sink.failed_or_empty new ≡ sink.failed_or_empty old
  pub contents : sink.contents new ≡ sink.contents old
