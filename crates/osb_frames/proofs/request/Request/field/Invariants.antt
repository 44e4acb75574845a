use Rattle.std.proofs.Common.{◌≡◌, map, drop}
use Rattle.osb_frames.specs.Line.{line_in}
use Rattle.osb_frames.specs.Fields.{values_of}
use Rattle.osb_frames.proofs.request.Request.field.Given as goal

abbrev pub invariant-loop-span : goal.invariant-loop-span
invariant-loop-span l =
    values_of l.name (map (line_in l.self.head.now) (drop l.span-index l.span-items))
    ≡ values_of l.name (map (line_in l.self.head.now) l.self.lines.now)
