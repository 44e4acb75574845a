use Rattle.std.proofs.Common.{◌≡◌, map, drop}
use Rattle.std.specs.Prelude.{codes}
use Rattle.std.specs.List.{list_any}
use Rattle.osb_frames.specs.Line.{line_in}
use Rattle.osb_frames.specs.Fields.{values_of, lists_item}
use Rattle.osb_frames.proofs.request.Request.closes.Given as goal

abbrev pub invariant-loop-span : goal.invariant-loop-span
invariant-loop-span l =
    list_any (lists_item (codes "close")) (values_of (codes "connection") (map (line_in l.self.head.now) (drop l.span-index l.span-items)))
    ≡ list_any (lists_item (codes "close")) (values_of (codes "connection") (map (line_in l.self.head.now) l.self.lines.now))
