use Rattle.std.proofs.Common.{ap₂, ◌∙◌}
use Rattle.clap.specs.Words.{with_rule}
use Rattle.osb_cli.proofs.grammar.check_command.Goals as goal

pub returns-clause-app : goal.returns-clause-app
returns-clause-app c =
    let settings = c.in_ok-arg.ensures.shape c.settings_word.ensures.local ∙ ap₂ with_rule c.begun.ensures c.settings_word.ensures.rule in
    let explain = c.in_ok-arg-2.ensures.shape c.flag_option.ensures.local ∙ ap₂ with_rule settings c.flag_option.ensures.rule in
    c.in_ok-arg-3.ensures.shape c.text_option.ensures.local ∙ ap₂ with_rule explain c.text_option.ensures.rule
