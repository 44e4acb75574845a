use Rattle.osb_joined.proofs.AuditLemmas.{joined_once, rows_join, are_contexts_of}
use Rattle.osb_joined.proofs.lists_joined.Goals as goal

pub returns : goal.returns
returns c = record {
  once = joined_once;
  fit = λ orders instances bindings rows. rows_join orders instances bindings rows;
  only = λ contexts orders instances joined_orders joined_instances bindings joined rows. are_contexts_of joined_orders joined_instances bindings rows contexts orders instances joined;
}
