use Rattle.std.proofs.Common.{◌∙◌, ◌++◌, ap, arith, refl, List}
use Rattle.osb_frames.specs.Calls.{Call}
use Rattle.osb_broker.specs.BrokerState.{lives_of}
use Rattle.osb_listen.proofs.ExchangeLemmas.{ends_served, stays_served, stays_then}
use Rattle.osb_listen.proofs.serving.serve_client.Goals as goal

pub returns-in-Ended-clause-served : goal.returns-in-Ended-clause-served
unfolding lives_of
returns-in-Ended-clause-served g c =
    let begun = c.in-Ended.ensures.begun in
    let is = begun.3 in
    let made = begun.1.made ∙ ap (λ (calls : List Call). calls ++ begun.0) c.requires.unread in (
      _,
      refl,
      ends_served _ _ _ _ _ c.args.client.number c.args.client.before _ _ begun.0 _ _ _ _ (omega (arith, c.left_of-left.ensures, c.per_connection.ensures.most)) begun.2 made c.requires.unsent c.requires.unfailed _ _ _ _ _ _
          _ c.met_fault.result c.in-Ended.ended (omega (arith, c.left_of-left.ensures, c.per_connection.ensures.most, c.requires.before)) is.0 is.1 c.met_fault.ensures is.2 is.3 c.leave.ensures.journal c.report_end.ensures,
    )

pub returns-in-Stays-clause-served : goal.returns-in-Stays-clause-served
unfolding lives_of
returns-in-Stays-clause-served g c =
    let begun = c.answer_next.ensures.begun in
    let is = stays_then _ _ _ c.in-Stays.is begun.3 in
    let made = begun.1.made ∙ ap (λ (calls : List Call). calls ++ begun.0) c.requires.unread in (
      _,
      refl,
      stays_served _ _ _ _ _ c.args.client.number c.args.client.before _ _ begun.0 _ _ _ _ (omega (arith, c.left_of-left.ensures, c.per_connection.ensures.most)) begun.2 made c.requires.unsent c.requires.unfailed _ _ _ _ _ _
          is.0 is.1 is.3 is.4 c.stay.ensures.journal refl refl,
    )
