use Rattle.std.proofs.Common.{◌∙◌, ◌++◌, [], ap, arith, inl, inr, refl, List}
use Rattle.osb_frames.specs.Calls.{Call}
use Rattle.osb_broker.specs.BrokerState.{lives_of}
use Rattle.osb_listen.proofs.ExchangeLemmas.{ends_served, none_serves_by, stays_served}
use Rattle.osb_listen.proofs.GroupLemmas.{last_so, open_so}
use Rattle.osb_listen.proofs.group.begin_client.Goals as goal

pub returns-in-Ended-clause-begun : goal.returns-in-Ended-clause-begun
unfolding lives_of
returns-in-Ended-clause-begun g c =
    let begun = c.in-Ended.ensures.begun in
    let is = begun.3 in
    let made = begun.1.made ∙ ap (λ (calls : List Call). calls ++ begun.0) c.requires.unread in
    let served = ends_served _ _ _ _ _ c.args.client.number c.args.client.before _ _ begun.0 _ _ _ _ (omega (arith, c.left_of-left.ensures, c.per_connection.ensures.most)) begun.2 made c.requires.unsent c.requires.unfailed _ _ _ _ _ _
    _ c.met_fault.result c.in-Ended.ended (omega (arith, c.left_of-left.ensures, c.per_connection.ensures.most, c.requires.before)) is.2 is.3 c.met_fault.ensures is.4 is.5 c.leave.ensures.journal c.report_end.ensures in
    (_, inl (refl, refl, is.0, refl, is.1), refl, served)

pub returns-in-Stays-clause-begun : goal.returns-in-Stays-clause-begun
unfolding lives_of
returns-in-Stays-clause-begun g c =
    let begun = c.in-Stays.ensures.begun in
    let is = begun.3 in
    let made = begun.1.made ∙ ap (λ (calls : List Call). calls ++ begun.0) c.requires.unread in
    let served = stays_served _ _ _ _ _ c.args.client.number c.args.client.before _ _ begun.0 _ _ _ _ (omega (arith, c.left_of-left.ensures, c.per_connection.ensures.most)) begun.2 made c.requires.unsent c.requires.unfailed _ _ _ _ _ _
    is.2 is.3 is.5 is.6 c.stay.ensures.journal refl refl in
    (_, inl (refl, refl, is.0, refl, is.1), refl, served)

pub returns-in-Waits-clause-begun : goal.returns-in-Waits-clause-begun
unfolding lives_of
returns-in-Waits-clause-begun g c =
    let begun = c.in-Waits.ensures.begun in
    let is = begun.3 in
    let made = begun.1.made ∙ ap (λ (calls : List Call). calls ++ begun.0) c.requires.unread in
    let kept = last_so _ _ _ _ _ _ _ begun.0 _ begun.2 made (ap g.L.Out.Sink.taken is.4 ∙ c.requires.unsent) (ap g.L.Out.Sink.failed_or_empty is.4 ∙ c.requires.unfailed) c.requires.before is.3 in
    let none = none_serves_by _ _ _ _ _ _ _ _ refl c.lives_are_whole.ensures.whole c.lives_are_whole.ensures.kept in
    ([], inr (inl (_, is.0, kept, refl, c.push_reserved.ensures.items, is.1, refl, is.2)), refl, rw is.5 none)

pub returns-in-MayStay-clause-begun : goal.returns-in-MayStay-clause-begun
unfolding lives_of
returns-in-MayStay-clause-begun g c =
    let begun = c.in-MayStay.ensures.begun in
    let is = begun.3 in
    let made = begun.1.made ∙ ap (λ (calls : List Call). calls ++ begun.0) c.requires.unread in
    let kept = open_so _ _ _ _ _ _ _ begun.0 _ begun.2 made (ap g.L.Out.Sink.taken is.4 ∙ c.requires.unsent) (ap g.L.Out.Sink.failed_or_empty is.4 ∙ c.requires.unfailed) _ (omega (arith, c.left_of-left.ensures, c.per_connection.ensures.most)) is.3 in
    let none = none_serves_by _ _ _ _ _ _ _ _ refl c.lives_are_whole.ensures.whole c.lives_are_whole.ensures.kept in
    ([], inr (inr (_, is.0, kept, refl, refl, is.1, c.push_reserved-in-MayStay.ensures.items, is.2)), refl, rw is.5 none)
