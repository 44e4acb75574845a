-- The bytes, the writes and the room of a writer that keeps what it takes.
use Rattle.std.specs.Prelude.{ℕ, ◌-◌, List, vec_len, vec_capacity}
use Rattle.osb_frames.specs.declared.in_memory.InMemory.{InMemory}
use Rattle.osb_frames.specs.Calls.{Call}

abbrev pub bytes_of : InMemory → List ℕ
bytes_of kept = kept.bytes.items

-- the writes that were made of it, the oldest first
abbrev pub calls_of : InMemory → List Call
calls_of kept = kept.calls.list

-- how many bytes more it surely takes
abbrev pub room_of : InMemory → ℕ
room_of kept = vec_capacity kept.bytes - vec_len kept.bytes
