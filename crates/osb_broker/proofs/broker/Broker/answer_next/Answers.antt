use Rattle.std.proofs.Common.{length, subst, ap, ◌∙◌}
use Rattle.std.proofs.lemmas.Bool.{false≢true}
use Rattle.osb_broker.specs.BrokerState.{lives_of}
use Rattle.osb_broker.specs.Room.{limits_of}
use Rattle.osb_broker.specs.Serving.{EachWasNeeded}
use Rattle.osb_broker.proofs.OpenLemmas.{begun_weaker}
use Rattle.osb_broker.proofs.broker.Broker.answer_next.Goals as goal

pub returns-clause-begun : goal.returns-clause-begun
unfolding lives_of
returns-clause-begun g c =
    let it = c.begin_in-begun.ensures.begun in (
      it.0,
      it.1,
      subst (λ room. EachWasNeeded (limits_of c.args.buffer.now) 1 room it.0) (ap length c.as_mut_slice.ensures.value ∙ c.args.buffer.now.fits) it.2,
      begun_weaker c.begin_in-begun.result _ _ _ _ _ _ _ _
          (λ ended is. (is.2, is.3, is.4, is.5))
          (λ is. (is.2, is.3, is.4, is.5, is.6))
          (λ is. false≢true is.1)
          (λ is. false≢true is.1)
          it.3,
    )
