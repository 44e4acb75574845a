use Rattle.std.proofs.Common.{◌∙◌, inl, inr, ap, arith, sym}
use Rattle.std.proofs.lemmas.Bool.{false≢true}
use Rattle.std.proofs.Math.Logic.{∥∥₁_map}
use Rattle.sqlite.specs.State.{HasCleanDisk}
use Rattle.sqlite.specs.Files.{file_state, over_files}
use Rattle.sqlite.proofs.StateLemmas.{survives_then}
use Rattle.osb_replies.specs.Text.{ReplyParts}
use Rattle.osb_frames.specs.Steps.{message}
use Rattle.osb_laws.specs.Failures.{is_500}
use Rattle.osb_broker.specs.BrokerState.{lives_of, rules_in, store_of}
use Rattle.osb_restart.proofs.FoundLemmas.{finds_either, finds_after}
use Rattle.osb_restart.proofs.requests.handled_and_restarted.Goals as goal

pub returns-clause-either : goal.returns-clause-either
returns-clause-either g c worked works =
    let old = store_of over_files c.args.broker in
    let new = file_state c.into_records.result in
    let after : HasCleanDisk new = c.in_ok-again.ensures.clean works.clean in
    let survives = survives_then old _ new _ _ _ (λ _ _ it. it) (λ _ _ none. absurd none) c.handle-status.ensures.crash c.into_records.ensures.crash in
    finds_either old new _ _ _ _ (λ _ it. it.holds) (c.lives_are_whole.ensures.kept worked) survives after (c.in_ok-again.ensures.found works.clean works.live)

pub returns-clause-answered : goal.returns-clause-answered
returns-clause-answered g c answered worked works =
    let old = store_of over_files c.args.broker in
    let left = store_of over_files c.handle-status.new.self in
    let new = file_state c.into_records.result in
    let after : HasCleanDisk new = c.in_ok-again.ensures.clean works.clean in
    let between : HasCleanDisk left = omega (arith, after, c.into_records.ensures.crash.clean) in
    let survives = survives_then old left new _ _ _ (λ _ _ it. it) (λ _ _ none. absurd none) c.handle-status.ensures.crash c.into_records.ensures.crash in
    let only = c.handle-status.ensures.durable worked between (λ refused. answered (ap (λ (reply : ReplyParts). reply.status) refused)) in
    finds_after old new _ _ _ _ (λ _ it. it.holds) (c.lives_are_whole.ensures.kept worked) survives after (c.in_ok-again.ensures.found works.clean works.live)
    (λ db may. elim (c.into_records.ensures.crash.crash after db may) [ inl before ↦ only db before | inr none ↦ absurd none ])

pub returns-clause-attempt : goal.returns-clause-attempt
returns-clause-attempt g c worked works limits bytes n front =
    ∥∥₁_map (returns-clause-either g c worked works)
    (λ either. c.histories.ensures.stops (rules_in c.args.broker) limits (lives_of over_files c.args.broker) bytes (message c.args.request.now) n _ _ front either
    (λ other. returns-clause-answered g c (λ is. absurd (false≢true (sym other ∙ ap is_500 is))) worked works))
