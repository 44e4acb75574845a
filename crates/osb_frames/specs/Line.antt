-- A field line as contracts see it.
use Rattle.std.specs.Prelude.{ℕ, ◌&&◌, nat_le, List, [], length, if◌then◌else◌}
use Rattle.std.specs.List.{slice_range}
use Rattle.httparse.specs.declared.spans.HeaderSpan.{HeaderSpan}
use Rattle.osb_frames.specs.Fields.{Line}

-- the bytes from one place to another, and none where there aren't so many
abbrev pub part : List ℕ → ℕ → ℕ → List ℕ
part bytes start end =
    if nat_le start end && nat_le end (length bytes) then slice_range bytes start end else []

-- the field line of a head that is there
abbrev pub line_in : List ℕ → HeaderSpan → Line
line_in head span =
    (part head span.name.start span.name.end, part head span.value.start span.value.end)
