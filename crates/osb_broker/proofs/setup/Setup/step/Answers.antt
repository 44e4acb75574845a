use Rattle.std.proofs.Common.{refl, sym, ◌∙◌}
use Rattle.osb_broker.specs.Inside.{given_rules}
use Rattle.osb_broker.proofs.StepLemmas.{of_instance, prepares}
use Rattle.osb_broker.proofs.setup.Setup.step.Goals as goal

pub returns-clause-alike : goal.returns-clause-alike
returns-clause-alike g c works clean lives whole alike =
    prepares (given_rules c.args.self.now) lives c.args.ask.now c.in_ok-answer.field-0 _ c.is_sound.ensures whole c.requires (c.in_ok-answer.ensures.ok clean ∙ sym alike) refl c.in_ok-pending.ensures

pub returns-clause-names : goal.returns-clause-names
returns-clause-names g c = of_instance c.args.ask.now _ _ c.in_ok-pending.ensures
