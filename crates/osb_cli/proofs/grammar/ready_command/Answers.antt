use Rattle.std.proofs.Common.{ap₂, ◌∙◌}
use Rattle.clap.specs.Words.{with_rule}
use Rattle.osb_cli.proofs.grammar.ready_command.Goals as goal

pub returns-clause-app : goal.returns-clause-app
returns-clause-app c =
    let address = c.in_ok-arg.ensures.shape c.required_word.ensures.local ∙ ap₂ with_rule c.begun.ensures c.required_word.ensures.rule in
    let within = c.in_ok-arg-2.ensures.shape c.seconds_option.ensures.local ∙ ap₂ with_rule address c.seconds_option.ensures.rule in
    c.in_ok-arg-3.ensures.shape c.pid_option.ensures.local ∙ ap₂ with_rule within c.pid_option.ensures.rule
