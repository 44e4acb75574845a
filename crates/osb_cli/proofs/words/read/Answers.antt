use Rattle.std.proofs.Common.{rules, refl, ◌≡◌, ◌≢◌, ◌∙◌, sym, ap, subst, map, string_bytes, Some, codes}
use Rattle.clap.specs.Words.{found_of, rows_of, subcommand_of, takes}
use Rattle.osb_cli.specs.Grammar.{osb_broker}
use Rattle.osb_cli.specs.Inside.{Asks}
use Rattle.osb_cli.proofs.WordLemmas.{are_read, is_found, none_found}
use Rattle.osb_cli.proofs.words.read.Goals as goal

pub returns-in_err-matches-clause-err : goal.returns-in_err-matches-clause-err
returns-in_err-matches-clause-err c taken =
    let memory = c.in_err-matches.ensures.passes (ap (λ a. takes a (map string_bytes c.args.words.now)) c.in_ok-osb_broker.ensures.app ∙ taken) in
    search rules

pub returns-in-Some-backup-default-clause-ok : goal.returns-in-Some-backup-default-clause-ok
returns-in-Some-backup-default-clause-ok c =
    let words = map string_bytes c.args.words.now in
    let read = are_read _ words _ c.in_ok-osb_broker.ensures.app c.in_ok-matches.ensures.matches in
    let some = c.in-Some-backup-default in
    let rows = rows_of (found_of some.found.now) in
    let is : some.field-0-0.now ≡ codes "backup" = search rules in
    let found : subcommand_of osb_broker words ≡ Some (codes "backup", rows) = is_found words _ _ _ read some.ensures.name some.ensures.rows ∙ ap (λ name. Some (name, rows)) is in
    subst (λ it. Asks it c.backup_order.result) (sym found) c.backup_order.ensures

pub returns-in-Some-check-default-clause-ok : goal.returns-in-Some-check-default-clause-ok
returns-in-Some-check-default-clause-ok c =
    let words = map string_bytes c.args.words.now in
    let read = are_read _ words _ c.in_ok-osb_broker.ensures.app c.in_ok-matches.ensures.matches in
    let some = c.in-Some-check-default in
    let rows = rows_of (found_of some.found.now) in
    let is : some.field-0-0.now ≡ codes "check" = search rules in
    let found : subcommand_of osb_broker words ≡ Some (codes "check", rows) = is_found words _ _ _ read some.ensures.name some.ensures.rows ∙ ap (λ name. Some (name, rows)) is in
    subst (λ it. Asks it c.check_order.result) (sym found) c.check_order.ensures

pub returns-in-Some-ready-default-clause-ok : goal.returns-in-Some-ready-default-clause-ok
returns-in-Some-ready-default-clause-ok c =
    let words = map string_bytes c.args.words.now in
    let read = are_read _ words _ c.in_ok-osb_broker.ensures.app c.in_ok-matches.ensures.matches in
    let some = c.in-Some-ready-default in
    let rows = rows_of (found_of some.found.now) in
    let is : some.field-0-0.now ≡ codes "ready" = search rules in
    let found : subcommand_of osb_broker words ≡ Some (codes "ready", rows) = is_found words _ _ _ read some.ensures.name some.ensures.rows ∙ ap (λ name. Some (name, rows)) is in
    subst (λ it. Asks it c.ready_order.result) (sym found) c.ready_order.ensures

pub returns-in-Some-serve-default-clause-ok : goal.returns-in-Some-serve-default-clause-ok
returns-in-Some-serve-default-clause-ok c =
    let words = map string_bytes c.args.words.now in
    let read = are_read _ words _ c.in_ok-osb_broker.ensures.app c.in_ok-matches.ensures.matches in
    let some = c.in-Some-serve-default in
    let rows = rows_of (found_of some.found.now) in
    let is : some.field-0-0.now ≡ codes "serve" = search rules in
    let found : subcommand_of osb_broker words ≡ Some (codes "serve", rows) = is_found words _ _ _ read some.ensures.name some.ensures.rows ∙ ap (λ name. Some (name, rows)) is in
    subst (λ it. Asks it c.serve_order.result) (sym found) c.serve_order.ensures

pub returns-in-Some-trim-default-clause-ok : goal.returns-in-Some-trim-default-clause-ok
returns-in-Some-trim-default-clause-ok c =
    let words = map string_bytes c.args.words.now in
    let read = are_read _ words _ c.in_ok-osb_broker.ensures.app c.in_ok-matches.ensures.matches in
    let some = c.in-Some-trim-default in
    let rows = rows_of (found_of some.found.now) in
    let is : some.field-0-0.now ≡ codes "trim" = search rules in
    let found : subcommand_of osb_broker words ≡ Some (codes "trim", rows) = is_found words _ _ _ read some.ensures.name some.ensures.rows ∙ ap (λ name. Some (name, rows)) is in
    subst (λ it. Asks it c.trim_order.result) (sym found) c.trim_order.ensures

pub returns-in-Some-clause-ok : goal.returns-in-Some-clause-ok
returns-in-Some-clause-ok c =
    let words = map string_bytes c.args.words.now in
    let read = are_read _ words _ c.in_ok-osb_broker.ensures.app c.in_ok-matches.ensures.matches in
    let found = is_found words _ _ _ read c.in-Some.ensures.name c.in-Some.ensures.rows in
    let no_backup : c.in-Some.field-0-0.now ≢ codes "backup" = search rules in
    let no_check : c.in-Some.field-0-0.now ≢ codes "check" = search rules in
    let no_ready : c.in-Some.field-0-0.now ≢ codes "ready" = search rules in
    let no_serve : c.in-Some.field-0-0.now ≢ codes "serve" = search rules in
    let no_trim : c.in-Some.field-0-0.now ≢ codes "trim" = search rules in
    subst (λ it. Asks it c.in_ok-replay_order-in-Some.field-0) (sym found) (c.in_ok-replay_order-in-Some.ensures c.in-Some.field-0-0.now no_backup no_check no_ready no_serve no_trim)

pub returns-clause-ok : goal.returns-clause-ok
returns-clause-ok c =
    let words = map string_bytes c.args.words.now in
    let read = are_read _ words _ c.in_ok-osb_broker.ensures.app c.in_ok-matches.ensures.matches in
    let none = none_found words _ read c.in-None.ensures.rows in
    rw none (record { no_backup = λ is. cc; no_check = λ is. cc; no_ready = λ is. cc; no_serve = λ is. cc; no_trim = λ is. cc; settings = refl; connections = search rules; per_connection = refl })
