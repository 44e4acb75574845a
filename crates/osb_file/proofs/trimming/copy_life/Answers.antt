use Rattle.std.proofs.Common.{◌∙◌, sym, ap, subst}
use Rattle.sqlite.specs.Held.{state}
use Rattle.osb_orders.specs.IsLife.{IsLife}
use Rattle.osb_statements.specs.Steps.{stored}
use Rattle.osb_trim.specs.Trimmed.{trimmed}
use Rattle.osb_file.proofs.TrimmingLemmas.{named}
use Rattle.osb_file.proofs.trimming.copy_life.Goals as goal

pub append_all-requires-clause-id : goal.append_all-requires-clause-id
append_all-requires-clause-id g c =
    let live = c.in_ok-life.ensures.looks.found_open (c.requires.clean c.life.new.self) in
    (named (stored (state g.S.Store c.args.source.now)) c.args.id.now (c.lives_are_whole.ensures.whole (c.requires.clean c.args.source.now) live) (c.requires.some live)).id

pub append_all-requires-clause-life : goal.append_all-requires-clause-life
append_all-requires-clause-life g c =
    let live = c.in_ok-life.ensures.looks.found_open (c.requires.clean c.life.new.self) in
    let instance = named (stored (state g.S.Store c.args.source.now)) c.args.id.now (c.lives_are_whole.ensures.whole (c.requires.clean c.args.source.now) live) (c.requires.some live) in
    let orders = c.deref-2.ensures.value ∙ c.in_ok-orders.ensures ∙ ap trimmed (c.in_ok-life.ensures.ok (c.requires.clean c.life.new.self)) in
    subst IsLife (sym orders) (c.trimmed_is_whole.ensures.life _ instance.life)
