use Rattle.std.proofs.Common.{refl, to_z-of_z}
use Rattle.osb_contexts.proofs.PageLemmas.{page_from}
use Rattle.osb_contexts.proofs.PageTexts.{orders_from, orders_from_is, instances_from, instances_from_is, bindings_from, bindings_from_is, contexts_from, contexts_from_is}
use Rattle.osb_contexts.proofs.StepLemmas.{if_read}
use Rattle.osb_contexts.proofs.pages.select_from.Goals as goal

pub select-requires-clause-plain : goal.select-requires-clause-plain
select-requires-clause-plain g c = orders_from_is.2

pub select-requires-in-Instances-clause-plain : goal.select-requires-in-Instances-clause-plain
select-requires-in-Instances-clause-plain g c = instances_from_is.2

pub select-requires-in-Bindings-clause-plain : goal.select-requires-in-Bindings-clause-plain
select-requires-in-Bindings-clause-plain g c = bindings_from_is.2

pub select-requires-in-Contexts-clause-plain : goal.select-requires-in-Contexts-clause-plain
select-requires-in-Contexts-clause-plain g c = contexts_from_is.2

pub returns-in-Orders-clause-ok : goal.returns-in-Orders-clause-ok
returns-in-Orders-clause-ok g c clean =
    if_read c.select.ensures.reads clean (λ before live rows h. rw (c.in-Orders.is) (page_from orders_from 1 _ _ (c.requires before live) c.args.most rows.items c.args.id orders_from_is refl h))
    (rw (c.params-to_sql.ensures, c.params-to_sql-in-Orders.ensures, to_z-of_z c.ranges.id) at (c.select.ensures.ok clean))

pub returns-in-Instances-clause-ok : goal.returns-in-Instances-clause-ok
returns-in-Instances-clause-ok g c clean =
    if_read c.select-in-Instances.ensures.reads clean (λ before live rows h. rw (c.in-Instances.is) (page_from instances_from 3 _ _ (c.requires before live) c.args.most rows.items c.args.id instances_from_is refl h))
    (rw (c.params-to_sql-in-Instances.ensures, c.params-to_sql-in-Instances-2.ensures, to_z-of_z c.ranges.id) at (c.select-in-Instances.ensures.ok clean))

pub returns-in-Bindings-clause-ok : goal.returns-in-Bindings-clause-ok
returns-in-Bindings-clause-ok g c clean =
    if_read c.select-in-Bindings.ensures.reads clean (λ before live rows h. rw (c.in-Bindings.is) (page_from bindings_from 5 _ _ (c.requires before live) c.args.most rows.items c.args.id bindings_from_is refl h))
    (rw (c.params-to_sql-in-Bindings.ensures, c.params-to_sql-in-Bindings-2.ensures, to_z-of_z c.ranges.id) at (c.select-in-Bindings.ensures.ok clean))

pub returns-in-Contexts-clause-ok : goal.returns-in-Contexts-clause-ok
returns-in-Contexts-clause-ok g c clean =
    if_read c.select-in-Contexts.ensures.reads clean (λ before live rows h. rw (c.in-Contexts.is) (page_from contexts_from 7 _ _ (c.requires before live) c.args.most rows.items c.args.id contexts_from_is refl h))
    (rw (c.params-to_sql-in-Contexts.ensures, c.params-to_sql-in-Contexts-2.ensures, to_z-of_z c.ranges.id) at (c.select-in-Contexts.ensures.ok clean))
