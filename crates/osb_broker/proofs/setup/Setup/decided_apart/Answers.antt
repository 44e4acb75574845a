use Rattle.std.proofs.Common.{rules, ap, ◌∙◌}
use Rattle.osb_frames.specs.Steps.{message}
use Rattle.osb_replies.specs.Text.{reply_text}
use Rattle.osb_broker.specs.Inside.{given_rules}
use Rattle.osb_broker.proofs.GroupLemmas.{decides, of_others}
use Rattle.osb_broker.proofs.setup.Setup.decided_apart.Goals as goal

pub returns-in-Ok-text_of-clause-decides : goal.returns-in-Ok-text_of-clause-decides
returns-in-Ok-text_of-clause-decides g c works clean =
    decides g.S.Store (given_rules c.args.self.now) (message c.args.request.now) c.args.last c.args.records.now c.prepared.new.records c.in-Ok.field-0 c.in-Some.change _ c.in-Ok.ensures.gives c.in-Some.is (c.in-Ok-text_of.ensures ∙ ap reply_text c.reply_to.ensures) works clean

pub returns-in-Ok-text_of-clause-apart : goal.returns-in-Ok-text_of-clause-apart
returns-in-Ok-text_of-clause-apart g c = of_others c.args.changes.now c.in-Some.change.instance (search rules)
