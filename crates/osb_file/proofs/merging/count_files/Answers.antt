use Rattle.std.proofs.Common.{sym, inl}
use Rattle.sqlite.specs.Files.{file_state}
use Rattle.osb_file.proofs.FileLemmas.{lives_found, opened_stand}
use Rattle.osb_file.proofs.LookLemmas.{honest_is_clean, if_ok_so}
use Rattle.osb_file.proofs.merging.count_files.Goals as goal

pub count_in-requires : goal.count_in-requires
count_in-requires g c = record { clean = honest_is_clean c.requires.honest }

pub returns-in-Ok-clause-counted : goal.returns-in-Ok-clause-counted
returns-in-Ok-clause-counted g c =
    let conn = file_state c.in-Ok.conn in
    let clean = honest_is_clean c.requires.honest c.in-Ok.conn in
    let opened = c.in-Ok.ensures.opened clean in
    let found = c.in-Ok.ensures.found clean in
    if_ok_so c.count_in.result (λ counts are. (
      conn.committed.trees,
      λ db holds. sym (found.holds db holds),
      (are.0, opened_stand conn are.0 opened.0 opened.1 are.1, are.2),
    )) c.count_in.ensures.counted

pub returns-in-Ok-clause-not_ours : goal.returns-in-Ok-clause-not_ours
returns-in-Ok-clause-not_ours g c is db holds lives are =
    let conn = file_state c.in-Ok.conn in
    let clean = honest_is_clean c.requires.honest c.in-Ok.conn in
    let opened = c.in-Ok.ensures.opened clean in
    let found = c.in-Ok.ensures.found clean in
    c.count_in.ensures.not_ours is lives (lives_found conn db lives opened.0 opened.1 (inl (found.holds db holds)) are)
