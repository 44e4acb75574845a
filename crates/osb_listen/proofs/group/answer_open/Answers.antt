use Rattle.std.proofs.Common.{◌∙◌, sym}
use Rattle.osb_broker.specs.BrokerState.{lives_of}
use Rattle.osb_broker.proofs.CrashLemmas.{leaves_weaker}
use Rattle.osb_broker.proofs.LostLemmas.{shown_run}
use Rattle.osb_listen.proofs.GroupLemmas.{all_so, as_many_kept, as_many_sent, open_answered}
use Rattle.osb_listen.proofs.RefusedLemmas.{says_only}
use Rattle.osb_listen.proofs.group.answer_open.Goals as goal

pub answer_each-requires-clause-unanswered : goal.answer_each-requires-clause-unanswered
answer_each-requires-clause-unanswered g c = all_so _ _ (λ client bytes is. is.unanswered) _ _ c.requires.kept

pub answer_each-requires-clause-count : goal.answer_each-requires-clause-count
answer_each-requires-clause-count g c = as_many_kept _ _ _ c.requires.kept ∙ sym c.answer_staying-replies.ensures.count

pub returns-clause-served : goal.returns-clause-served
unfolding lives_of
returns-clause-served g c =
    let served = c.answer_staying-replies.ensures in
    let sent = c.answer_each.ensures.sent in
    let are = open_answered _ _ _ _ _ _ c.exchanges.ensures.open_groups _ _ _ sent.0 c.requires.kept sent.1 in (
      sent.0,
      (as_many_sent _ _ _ _ sent.0 sent.1, sent.2),
      record {
        journal = sent.3;
        lead = record {
          lives = λ before after go. are before after (shown_run (served.served before after go));
          left = λ works clean. leaves_weaker (λ lives run. are _ lives run) (served.leaves works clean);
        };
        lines = says_only _ _ _ _ _ sent.4;
      },
    )
