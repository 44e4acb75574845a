use Rattle.std.proofs.Common.{◌≡◌, ◌∙◌, ℕ, ◌∷◌, [], sym, ap, subst, inl, refl}
use Rattle.std.proofs.lemmas.Result.{IfErr-weaker}
use Rattle.sqlite.specs.Tree.{Trees}
use Rattle.sqlite.specs.State.{State, HasCleanDisk}
use Rattle.sqlite.specs.Held.{state}
use Rattle.osb_catalog.specs.Rules as catalog
use Rattle.osb_orders.specs.Lives.{Lives}
use Rattle.osb_statements.specs.Steps.{stored}
use Rattle.osb_file.specs.File.{AreLivesOf}
use Rattle.osb_broker.specs.BrokerState.{Works, lives_of, most_of, rules_in, store_of}
use Rattle.osb_listen.specs.Exchanges.{AreAsMany}
use Rattle.osb_listen.specs.Held.{LeadInto, Serving, origin_line}
use Rattle.osb_listen.proofs.HeldLemmas.{address_not_missing, before_at, has_nothing, if_some_and, known, leads_into, leads_nowhere, led, left_at, names_none, none_missed, nothing_served, of_no_file, without_broker}
use Rattle.osb_listen.proofs.RefusedLemmas.{says_more_with, says_only}
use Rattle.osb_listen.proofs.file.serve_file.Goals as goal

pub returns-in-Err-clause-served : goal.returns-in-Err-clause-served
returns-in-Err-clause-served g c =
    let rules = catalog.rules_of c.args.settings.now in
    let fault = c.in-Err.fault in
    (nothing_served fault, refl, has_nothing rules _ c.args.per_connection fault _ _ _ (of_no_file rules _ fault c.in-Err.ensures.fault), tt)

pub returns-in-Err-clause-missed : goal.returns-in-Err-clause-missed
returns-in-Err-clause-missed g c =
    let rules = catalog.rules_of c.args.settings.now in
    none_missed rules _ c.in-Err.fault (of_no_file rules _ c.in-Err.fault c.in-Err.ensures.fault)

pub returns-in-Err-broker_over-clause-served : goal.returns-in-Err-broker_over-clause-served
returns-in-Err-broker_over-clause-served g c =
    let rules = catalog.rules_of c.args.settings.now in
    let made = c.in-Err-broker_over in
    let place = c.args.place.now in (
      nothing_served made.fault,
      refl,
      has_nothing rules _ c.args.per_connection made.fault _ _ _ made.ensures.fault,
      if_some_and made.conn made.ensures.why made.ensures.fault_kept (λ conn why kept db has. record {
        works = λ works. without_broker rules c.args.per_connection place.existing db (stored (state g.D.Store.Store conn)) made.fault (why works db has);
        crash = λ clean. leads_nowhere rules c.args.per_connection db (state g.D.Store.Store conn) (kept clean db has);
      }),
    )

pub returns-in-Err-broker_over-clause-missed : goal.returns-in-Err-broker_over-clause-missed
returns-in-Err-broker_over-clause-missed g c =
    none_missed (catalog.rules_of c.args.settings.now) _ c.in-Err-broker_over.fault c.in-Err-broker_over.ensures.fault

pub returns-clause-served : goal.returns-clause-served
unfolding lives_of
returns-clause-served g c =
    let same = c.into_connection.ensures.same in
    let place = c.args.place.now in
    let made = c.in-Ok-broker_over in
    let broker = made.made.0 in
    let result = c.serve_at-result in
    let served = result.ensures.served in
    let serves = served.4 in
    let serving : Serving = record { ended = result.result; exchanges = served.2; before = origin_line made.made.1 ∷ [] } in
    let lives_are : lives_of g.D.Store.Store result.new.broker ≡ stored (state g.D.Store.Store c.into_connection.result) =
    sym c.into_records.ensures.lives ∙ ap (λ conn. stored (state g.D.Store.Store conn)) (sym same) in
    let is : state g.D.Store.Store c.into_connection.result ≡ store_of g.D.Store.Store result.new.broker =
    ap (λ conn. state g.D.Store.Store conn) same ∙ ap (λ records. state g.D.Store.Store records) c.into_records.ensures.same in
    let worked = λ (works : Works (state g.D.Store.Store c.into_connection.result)).
    c.into_records.ensures.works (subst (λ conn. Works (state g.D.Store.Store conn)) same works) in (
      serving,
      refl,
      record {
        journal = serves.journal;
        many = subst (λ (k : ℕ). AreAsMany result.result place.connections k served.2) made.ensures.most served.3;
        first = before_at result.result made.made.1 result.ensures.fault;
        lines = says_more_with _ _ _ _ _ _ _ _ (says_only _ _ _ _ _ c.say_origin.ensures) serves.lines;
      },
      λ db has. record {
        works = λ works.
            let before = result.ensures.works (worked works) in
            left_at (catalog.rules_of c.args.settings.now) c.args.per_connection place.existing db serving (stored (state g.D.Store.Store c.into_connection.result)) result.result result.ensures.fault (record {
              old = lives_of g.D.Store.Store broker;
              are_in = made.ensures.found before db has;
              origin = made.made.1;
              is = made.ensures.origin before db has;
              line = refl;
              asked = λ existing. made.ensures.existing (c.in-Ok.ensures.existing ∙ existing);
              limits = served.0;
              standard = served.1;
              lead = known (rules_in broker) (catalog.rules_of c.args.settings.now) served.0 (most_of broker) c.args.per_connection served.2 (lives_of g.D.Store.Store broker) (lives_of g.D.Store.Store result.new.broker)
                  (stored (state g.D.Store.Store c.into_connection.result)) made.ensures.rules made.ensures.most lives_are (serves.lead.lives _ _ (inl (worked works, refl, refl)));
            });
        crash = subst (λ (now : State). HasCleanDisk now → (old : Lives) → AreLivesOf db old → (left : Trees) → now.may_leave left → LeadInto (catalog.rules_of c.args.settings.now) c.args.per_connection old served.2 left) (sym is)
            (λ clean old are left may. led (rules_in broker) (catalog.rules_of c.args.settings.now) (most_of broker) c.args.per_connection made.ensures.rules made.ensures.most
            (leads_into (rules_in broker) served.0 (most_of broker) served.2 db (store_of g.D.Store.Store broker) (store_of g.D.Store.Store result.new.broker) served.1 (λ works. made.ensures.found works db has) (λ was_clean. made.ensures.kept was_clean db has)
            serves.lead result.ensures.crash clean old are left may));
      },
    )

pub returns-clause-lacks : goal.returns-clause-lacks
returns-clause-lacks g c =
    IfErr-weaker c.serve_at-result.result _ _ (λ fault is. names_none (catalog.rules_of c.args.settings.now) fault is) c.serve_at-result.ensures.fault

pub returns-clause-asked : goal.returns-clause-asked
returns-clause-asked g c =
    IfErr-weaker c.serve_at-result.result _ _ (λ fault is missing. absurd (address_not_missing fault is missing)) c.serve_at-result.ensures.fault

pub returns-clause-honest : goal.returns-clause-honest
returns-clause-honest g c clean =
    let is = ap (λ conn. state g.D.Store.Store conn) c.into_connection.ensures.same ∙ ap (λ records. state g.D.Store.Store records) c.into_records.ensures.same in
    c.in-Ok-broker_over.ensures.honest (c.serve_at-result.ensures.clean (subst (λ (now : State). HasCleanDisk now) is clean))
