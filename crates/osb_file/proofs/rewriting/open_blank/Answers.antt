use Rattle.std.specs.FinMap.{empty}
use Rattle.sqlite.specs.Files.{file_state}
use Rattle.osb_statements.specs.Steps.{stored}
use Rattle.osb_file.proofs.LookLemmas.{honest_is_clean, if_ok_so}
use Rattle.osb_file.proofs.RewritingLemmas.{blank_has_lives, blank_lives}
use Rattle.osb_file.proofs.rewriting.open_blank.Goals as goal

pub adopt-requires : goal.adopt-requires
adopt-requires g c = record { clean = honest_is_clean c.requires.honest }

pub returns-in-Ok-clause-empty : goal.returns-in-Ok-clause-empty
returns-in-Ok-clause-empty g c =
    let conn = file_state c.in-Ok.conn in
    let clean = honest_is_clean c.requires.honest c.in-Ok.conn in
    let opened = c.in-Ok.ensures.opened clean in
    let found = c.in-Ok.ensures.found clean in
    if_ok_so c.adopt.result (λ records are live. blank_lives conn _ _ c.requires.blank.0 c.requires.blank.1 opened.0 opened.1 found.holds (stored (file_state records)) (are live)) c.adopt.ensures.ok

pub returns-in-Ok-clause-ours : goal.returns-in-Ok-clause-ours
returns-in-Ok-clause-ours g c is =
    let conn = file_state c.in-Ok.conn in
    let clean = honest_is_clean c.requires.honest c.in-Ok.conn in
    let opened = c.in-Ok.ensures.opened clean in
    let found = c.in-Ok.ensures.found clean in
    c.adopt.ensures.not_ours is empty (blank_has_lives conn _ _ c.requires.blank.0 c.requires.blank.1 opened.0 opened.1 found.holds)
