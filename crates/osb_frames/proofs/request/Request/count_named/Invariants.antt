use Rattle.std.proofs.Common.{◌≡◌, ◌+◌, ◌≤◌, length, map, drop}
use Rattle.osb_frames.specs.Line.{line_in}
use Rattle.osb_frames.specs.Fields.{values_of}
use Rattle.osb_frames.proofs.request.Request.count_named.Given as goal

abbrev pub invariant-loop-span : goal.invariant-loop-span
invariant-loop-span l = record {
  small : l.count ≤ l.span-index;
  counted :
      l.count + length (values_of l.name (map (line_in l.self.head.now) (drop l.span-index l.span-items)))
      ≡ length (values_of l.name (map (line_in l.self.head.now) l.self.lines.now));
}
