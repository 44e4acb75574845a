use Rattle.std.proofs.Common.{rules, ◌≡◌, ◌&&◌, sym, subst, to_z-of_z}
use Rattle.osb_contexts.specs.Pages.{tree_of, AreReadTo}
use Rattle.osb_contexts.specs.Reads.{behind}
use Rattle.osb_contexts.proofs.PageLemmas.{next_read}
use Rattle.osb_contexts.proofs.pages.read_next.Goals as goal

pub returns-clause-ok : goal.returns-clause-ok
returns-clause-ok g c clean was =
    let page = c.in_ok-page.page in
    let is = rw (c.deref.ensures.value) at c.in_ok-page.ensures in
    let table = (behind g.S.Store c.args.tx.now).now.trees (tree_of c.args.table) in
    let both : c.if-named.result ≡ (c.args.named && page.named) = search rules in
    subst (λ named. AreReadTo table named page.next) (sym both)
    (next_read c.args.most table c.in_ok-rows.rows.items c.args.id (rw (to_z-of_z c.ranges.id) at (c.in_ok-rows.ensures.ok clean)) c.args.named page.named was is.rowids is.named page.next is.next)
