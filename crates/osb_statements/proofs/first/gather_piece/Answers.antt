use Rattle.std.proofs.Common.{rules}
use Rattle.osb_rows.proofs.ResultLemmas.{if_ok}
use Rattle.osb_statements.proofs.FitLemmas.{rows_fit}
use Rattle.osb_statements.proofs.RowPieceLemmas.{contexts_gathered, read_rows}
use Rattle.osb_statements.proofs.first.gather_piece.Goals as goal

pub returns-clause-ok : goal.returns-clause-ok
returns-clause-ok g c clean =
    let read = c.in_ok-read.read in
    if_ok c.contexts_of_piece.result (λ contexts found cut.
    let it = c.in_ok-read.ensures.ok clean cut in
    contexts_gathered _ read.orders.items read.instances.items read.bindings.items it.orders it.instances it.bindings contexts.items found.0 found.1)
    c.contexts_of_piece.ensures.ok

pub returns-clause-known : goal.returns-clause-known
returns-clause-known g c clean cut rows is =
    let read = c.in_ok-read.read in
    let it = c.in_ok-read.ensures.ok clean cut in
    c.contexts_of_piece.ensures.known (read_rows _ read.orders.items read.instances.items read.bindings.items it.orders it.instances it.bindings rows) is

pub returns-in_err-read-clause-known : goal.returns-in_err-read-clause-known
returns-in_err-read-clause-known g c clean cut rows is = c.in_err-read.ensures.known clean rows.holds (rows_fit _ rows) (search rules)
