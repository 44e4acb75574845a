use Rattle.std.proofs.Common.{ap₂, ◌∙◌}
use Rattle.clap.specs.Words.{with_rule}
use Rattle.osb_cli.proofs.grammar.serve_command.Goals as goal

pub returns-clause-app : goal.returns-clause-app
returns-clause-app c =
    let settings = c.in_ok-arg.ensures.shape c.required_option.ensures.local ∙ ap₂ with_rule c.begun.ensures c.required_option.ensures.rule in
    let database = c.in_ok-arg-2.ensures.shape c.required_option-2.ensures.local ∙ ap₂ with_rule settings c.required_option-2.ensures.rule in
    let existing = c.in_ok-arg-3.ensures.shape c.flag_option.ensures.local ∙ ap₂ with_rule database c.flag_option.ensures.rule in
    let listen = c.in_ok-arg-4.ensures.shape c.required_option-3.ensures.local ∙ ap₂ with_rule existing c.required_option-3.ensures.rule in
    let most = c.in_ok-arg-5.ensures.shape c.per_connection_option.ensures.local ∙ ap₂ with_rule listen c.per_connection_option.ensures.rule in
    let count = c.in_ok-arg-6.ensures.shape c.connections_option.ensures.local ∙ ap₂ with_rule most c.connections_option.ensures.rule in
    let limit = c.in_ok-arg-7.ensures.shape c.seconds_option.ensures.local ∙ ap₂ with_rule count c.seconds_option.ensures.rule in
    let idle = c.in_ok-arg-8.ensures.shape c.seconds_option-2.ensures.local ∙ ap₂ with_rule limit c.seconds_option-2.ensures.rule in
    let together = c.in_ok-arg-9.ensures.shape c.together_option.ensures.local ∙ ap₂ with_rule idle c.together_option.ensures.rule in
    c.in_ok-arg-10.ensures.shape c.flag_option-2.ensures.local ∙ ap₂ with_rule together c.flag_option-2.ensures.rule
