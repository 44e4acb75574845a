use Rattle.std.proofs.Common.{◌≡◌, ◌∙◌}
use Rattle.osb_contexts.specs.Reads.{behind}
use Rattle.osb_records.proofs.ChangesLemmas.{next_can_be_made, next_made}
use Rattle.osb_records.proofs.changes.make_all_in.Goals as goal

pub make_in-requires-clause-made : goal.make_in-requires-clause-made
make_in-requires-clause-made g c =
    let old = behind g.S.Store c.args.tx.now in
    let now = behind g.S.Store c.loop-change.tx in
    next_can_be_made old now now c.args.changes.now c.loop-change.change-index c.change-item.result c.loop-change.invariant.made c.loop-change-test.true c.change-item.is c.requires.made

pub loop-change-preserved : goal.loop-change-preserved
loop-change-preserved g c =
    let old = behind g.S.Store c.args.tx.now in
    let now = behind g.S.Store c.loop-change.tx in
    let next = behind g.S.Store c.make_in.new.tx in
    let inside = c.in_ok-make_in.ensures.inside in
    record {
      same_reference = inside.same_reference ∙ c.loop-change.invariant.same_reference;
      made = next_made old now next c.args.changes.now c.loop-change.change-index c.change-item.result c.loop-change.invariant.made c.loop-change-test.true c.change-item.is c.requires.made
          inside.survives inside.kept c.in_ok-make_in.ensures.ok;
    }
