use Rattle.std.proofs.Common.{ap₂, ◌∙◌}
use Rattle.clap.specs.Words.{with_rule}
use Rattle.osb_cli.proofs.grammar.trim_command.Goals as goal

pub returns-clause-app : goal.returns-clause-app
returns-clause-app c = c.in_ok-arg.ensures.shape c.required_word.ensures.local ∙ ap₂ with_rule c.begun.ensures c.required_word.ensures.rule
