use Rattle.std.proofs.Common.{refl}
use Rattle.osb_contexts.proofs.PageLemmas.{first_page}
use Rattle.osb_contexts.proofs.PageTexts.{first_orders, first_orders_is, first_instances, first_instances_is, first_bindings, first_bindings_is, first_contexts, first_contexts_is}
use Rattle.osb_contexts.proofs.StepLemmas.{if_read}
use Rattle.osb_contexts.proofs.pages.select_first.Goals as goal

pub select-requires-clause-plain : goal.select-requires-clause-plain
select-requires-clause-plain g c = first_orders_is.2

pub select-requires-in-Instances-clause-plain : goal.select-requires-in-Instances-clause-plain
select-requires-in-Instances-clause-plain g c = first_instances_is.2

pub select-requires-in-Bindings-clause-plain : goal.select-requires-in-Bindings-clause-plain
select-requires-in-Bindings-clause-plain g c = first_bindings_is.2

pub select-requires-in-Contexts-clause-plain : goal.select-requires-in-Contexts-clause-plain
select-requires-in-Contexts-clause-plain g c = first_contexts_is.2

pub returns-in-Orders-clause-ok : goal.returns-in-Orders-clause-ok
returns-in-Orders-clause-ok g c clean =
    if_read c.select.ensures.reads clean (λ before live rows h. rw (c.in-Orders.is) (first_page first_orders 1 _ _ (c.requires before live) c.args.most rows.items first_orders_is refl h))
    (rw (c.params-to_sql.ensures) at (c.select.ensures.ok clean))

pub returns-in-Instances-clause-ok : goal.returns-in-Instances-clause-ok
returns-in-Instances-clause-ok g c clean =
    if_read c.select-in-Instances.ensures.reads clean (λ before live rows h. rw (c.in-Instances.is) (first_page first_instances 3 _ _ (c.requires before live) c.args.most rows.items first_instances_is refl h))
    (rw (c.params-to_sql-in-Instances.ensures) at (c.select-in-Instances.ensures.ok clean))

pub returns-in-Bindings-clause-ok : goal.returns-in-Bindings-clause-ok
returns-in-Bindings-clause-ok g c clean =
    if_read c.select-in-Bindings.ensures.reads clean (λ before live rows h. rw (c.in-Bindings.is) (first_page first_bindings 5 _ _ (c.requires before live) c.args.most rows.items first_bindings_is refl h))
    (rw (c.params-to_sql-in-Bindings.ensures) at (c.select-in-Bindings.ensures.ok clean))

pub returns-in-Contexts-clause-ok : goal.returns-in-Contexts-clause-ok
returns-in-Contexts-clause-ok g c clean =
    if_read c.select-in-Contexts.ensures.reads clean (λ before live rows h. rw (c.in-Contexts.is) (first_page first_contexts 7 _ _ (c.requires before live) c.args.most rows.items first_contexts_is refl h))
    (rw (c.params-to_sql-in-Contexts.ensures) at (c.select-in-Contexts.ensures.ok clean))
