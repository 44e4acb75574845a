use Rattle.std.proofs.Common.{rules, ap, ap₂, ◌≡◌, ◌∙◌, codes, true}
use Rattle.clap.specs.Words.{App, app_of, new_app, with_subcommand}
use Rattle.clap.specs.Simple.{on_top}
use Rattle.osb_cli.proofs.WordLemmas.{has_no_globals}
use Rattle.osb_cli.proofs.grammar.osb_broker.Goals as goal

pub returns-clause-app : goal.returns-clause-app
returns-clause-app c =
    let top = λ (app : App). app.top in
    let plain = λ (app : App). app.top.is_plain in
    let named : app_of c.no_binary_name.result ≡ on_top (λ s. record s {
      no_binary_name = true;
      disable_help_subcommand = true;
      has_version = true;
    }) (new_app (codes "osb-broker")) = search (
      rules,
      c.new.ensures.app,
      c.version.ensures,
      c.about.ensures,
      c.after_help.ensures,
      c.disable_help_subcommand.ensures,
      c.no_binary_name.ensures,
    ) in
    let backup = c.in_ok-backup_command.ensures.app in
    let check = c.in_ok-check_command.ensures.app in
    let ready = c.in_ok-ready_command.ensures.app in
    let replay = c.in_ok-replay_command.ensures.app in
    let serve = c.in_ok-serve_command.ensures.app in
    let trim = c.in_ok-trim_command.ensures.app in
    let first = c.in_ok-subcommand.ensures.shape (has_no_globals _ _ _ _ (ap plain backup)) ∙ ap₂ with_subcommand named (ap top backup) in
    let one = c.in_ok-subcommand-2.ensures.shape (has_no_globals _ _ _ _ (ap plain check)) ∙ ap₂ with_subcommand first (ap top check) in
    let two = c.in_ok-subcommand-3.ensures.shape (has_no_globals _ _ _ _ (ap plain ready)) ∙ ap₂ with_subcommand one (ap top ready) in
    let three = c.in_ok-subcommand-4.ensures.shape (has_no_globals _ _ _ _ (ap plain replay)) ∙ ap₂ with_subcommand two (ap top replay) in
    let four = c.in_ok-subcommand-5.ensures.shape (has_no_globals _ _ _ _ (ap plain serve)) ∙ ap₂ with_subcommand three (ap top serve) in
    c.in_ok-subcommand-6.ensures.shape (has_no_globals _ _ _ _ (ap plain trim)) ∙ ap₂ with_subcommand four (ap top trim)
