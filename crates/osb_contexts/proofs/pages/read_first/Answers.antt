use Rattle.osb_rows.proofs.ResultLemmas.{if_ok}
use Rattle.osb_contexts.proofs.PageLemmas.{first_read}
use Rattle.osb_contexts.proofs.pages.read_first.Goals as goal

pub returns-clause-ok : goal.returns-clause-ok
returns-clause-ok g c clean =
    if_ok c.page_of.result (λ page is. first_read c.args.most _ c.in_ok-rows.rows.items (c.in_ok-rows.ensures.ok clean) page.named is.rowids is.named page.next is.next)
    (rw (c.deref.ensures.value) at c.page_of.ensures)
