use Rattle.osb_statements.proofs.NameLemmas.{parsed_number, some_number, no_error}
use Rattle.osb_statements.proofs.names.number_named.Goals as goal

pub returns-in-Ok : goal.returns-in-Ok
returns-in-Ok c order low named =
    some_number c.parse.result c.in-Ok.number order.number c.in-Ok.is (parsed_number c.args.name.now c.split_once.result c.split_once.ensures.cases _ c.in-Some.digits c.in-Some.is c.parse.result c.parse.ensures.value.0 order low named)

pub returns-in-Err : goal.returns-in-Err
returns-in-Err c order low named =
    absurd (no_error c.parse.result _ order.number c.in-Err.is (parsed_number c.args.name.now c.split_once.result c.split_once.ensures.cases _ c.in-Some.digits c.in-Some.is c.parse.result c.parse.ensures.value.0 order low named))
