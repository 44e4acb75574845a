use Rattle.std.proofs.Common.{◌≡◌, ◌++◌, drop}
use Rattle.serde_json.specs.View.{view}
use Rattle.osb_catalog.specs.Pieces.{whole_pieces}
use Rattle.osb_catalog.proofs.shown.push_whole.Given as goal

abbrev pub invariant-loop-field : goal.invariant-loop-field
invariant-loop-field l = l.members.items ++ whole_pieces (drop l.field-index l.fields) (view l.object) ≡ l.initial.members.items ++ whole_pieces l.fields (view l.object)
