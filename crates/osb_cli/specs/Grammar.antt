-- The commands and the words that each takes, as clap reads them.
use Rattle.std.specs.Prelude.{ℕ, true, List, codes, pos, Some}
use Rattle.clap.specs.Lexer.{usize_max}
use Rattle.clap.specs.Words.{App, Rule, new_app, new_rule, with_rule, with_subcommand}
use Rattle.clap.specs.Simple.{on_top}
use Rattle.clap.specs.declared.builder.ArgAction.TheVariants.{Append, SetTrue}
use Rattle.clap.specs.declared.builder.value_parser.ValueParser.TheVariants as parser

-- `--ID TEXT`, which may be left out
abbrev pub text_option : List ℕ → Rule
text_option id = record (new_rule id) { long = Some id; value_names = 1 }

-- `--ID TEXT`, which has to be there
abbrev pub required_option : List ℕ → Rule
required_option id = record (text_option id) { required = true }

-- `--ID N`, a number from 1 to the most, which may be left out
abbrev pub number_option : List ℕ → ℕ → Rule
number_option id most = record (text_option id) { parser = Some (parser.Signed (pos 1) (pos most)) }

-- the settings file of `check`, which may be left out
abbrev pub settings_word : Rule
settings_word = record (new_rule (codes "settings")) { value_names = 1 }

-- a word that has to be there
abbrev pub required_word : List ℕ → Rule
required_word id = record (new_rule id) { value_names = 1; required = true }

-- `--ID`
abbrev pub flag_option : List ℕ → Rule
flag_option id = record (new_rule id) { long = Some id; action = Some SetTrue }

-- the files of `replay`, any number of them
abbrev pub files_word : Rule
files_word = record (new_rule (codes "connections")) {
  value_names = 1;
  range = Some (record { start_inclusive = 0; end_inclusive = usize_max });
  action = Some Append;
}

abbrev pub per_connection_option : Rule
per_connection_option = number_option (codes "per-connection") 1000

abbrev pub backup_command : App
backup_command = with_rule (with_rule (new_app (codes "backup"))
    (required_word (codes "database"))) (required_word (codes "to"))

abbrev pub check_command : App
check_command = with_rule (with_rule (with_rule (new_app (codes "check"))
    settings_word) (flag_option (codes "explain"))) (text_option (codes "database"))

abbrev pub ready_command : App
ready_command = with_rule (with_rule (with_rule (new_app (codes "ready"))
    (required_word (codes "address"))) (number_option (codes "within") 86400))
    (number_option (codes "pid") 4194304)

abbrev pub replay_command : App
replay_command = with_rule (with_rule (with_rule (new_app (codes "replay"))
    (text_option (codes "settings"))) per_connection_option) files_word

abbrev pub serve_command : App
serve_command =
    with_rule (with_rule (with_rule (with_rule (with_rule (with_rule (with_rule (with_rule
    (with_rule (with_rule (new_app (codes "serve"))
    (required_option (codes "settings"))) (required_option (codes "database")))
    (flag_option (codes "existing")))
    (required_option (codes "listen"))) per_connection_option)
    (number_option (codes "connections") 1000000)) (number_option (codes "time-limit") 86400))
    (number_option (codes "idle-limit") 86400)) (number_option (codes "together") 1024))
    (flag_option (codes "explain"))

abbrev pub trim_command : App
trim_command = with_rule (new_app (codes "trim")) (required_word (codes "database"))

-- the words come without the program's name, and `help` is no command
abbrev pub osb_broker : App
osb_broker = with_subcommand (with_subcommand (with_subcommand (with_subcommand (with_subcommand
    (with_subcommand (on_top (λ s. record s {
      no_binary_name = true;
      disable_help_subcommand = true;
      has_version = true;
    })
    (new_app (codes "osb-broker")))
    backup_command.top) check_command.top) ready_command.top) replay_command.top)
    serve_command.top) trim_command.top
