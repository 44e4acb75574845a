use Rattle.std.proofs.Common.{◌∙◌, sym, subst}
use Rattle.osb_orders.specs.declared.order.Change.TheVariants.{Append}
use Rattle.osb_standing.specs.Rows.{Bindings, bindings_of}
use Rattle.osb_audit.specs.Life.{LooksUpAs}
use Rattle.osb_audit.proofs.LifeLemmas.{life_push, written}
use Rattle.osb_audit.proofs.life.take.Goals as goal

pub returns : goal.returns
returns c = λ before found next.
    let order = c.args.order.now in
    let writes = written before order found.is_life next in
    record {
      is_life = life_push before order found.is_life next;
      row = sym (c.in_ok-row.ensures.follows before (Append order) writes (c.as_ref.ensures.value ∙ found.row) (λ _. found.birth));
      birth = c.birth_failed_after-found.ensures before found.birth;
      bindings = subst (λ (rows : Bindings). LooksUpAs rows c.apply.new.bindings) (sym (c.in_ok-edit.ensures.follows before (Append order) writes (c.get.ensures.value ∙ found.bindings order.binding))) (c.in_ok-apply.ensures (bindings_of before) found.bindings);
    }
