use Rattle.std.proofs.Common.{codes, refl, inl, inr, map, string_bytes}
use Rattle.std.proofs.lemmas.Option.{IfSome_then}
use Rattle.std.proofs.lemmas.Result.{IfErr-weaker, on_ok_weaker}
use Rattle.osb_cli.specs.Inside.{AsksBackup, AsksCheck, AsksReady, AsksReplay, AsksServe, AsksTrim}
use Rattle.osb_cli.proofs.DoneLemmas.{done_well, if_failed, is_answered, is_backed_up, is_checked, is_listened, is_replayed, is_trimmed, not_both}
use Rattle.osb_cli.proofs.ReportedLemmas.{of_command, other_text, unserved_more}
use Rattle.osb_cli.proofs.ServeLemmas.{finds_unless_plan, in_vain, left_as}
use Rattle.osb_cli.specs.Words.{found_by, text_in}
use Rattle.osb_cli.proofs.commands.perform.Goals as goal

pub returns-in-Backup-clause-done : goal.returns-in-Backup-clause-done
returns-in-Backup-clause-done g c taken =
    let asks : AsksBackup _ c.in-Backup.asked = rw c.in-Backup.is at c.in-Ok.ensures.ok in
    done_well c.backup.result c.without_file-in-Backup.result.0 _ c.without_file-in-Backup.ensures.well
    (on_ok_weaker c.backup.result (λ made. is_backed_up _ _ _ _ _ _ c.in-Backup.asked asks made) c.backup.ensures.made)

pub returns-in-Check-clause-done : goal.returns-in-Check-clause-done
returns-in-Check-clause-done g c taken =
    let asks : AsksCheck _ c.in-Check.asked = rw c.in-Check.is at c.in-Ok.ensures.ok in
    on_ok_weaker c.check.result (λ checked. is_checked _ _ _ _ _ _ c.in-Check.asked asks checked) c.check.ensures.checked

pub returns-in-Ready-clause-done : goal.returns-in-Ready-clause-done
returns-in-Ready-clause-done g c taken =
    let asks : AsksReady _ c.in-Ready.asked = rw c.in-Ready.is at c.in-Ok.ensures.ok in
    done_well c.ready.result c.without_file-in-Ready.result.0 _ c.without_file-in-Ready.ensures.well
    (on_ok_weaker c.ready.result (λ at. is_answered _ _ _ _ _ _ c.in-Ready.asked asks at refl) c.ready.ensures.address)

pub returns-in-Replay-clause-done : goal.returns-in-Replay-clause-done
returns-in-Replay-clause-done g c taken =
    let asks : AsksReplay _ c.in-Replay.asked = rw c.in-Replay.is at c.in-Ok.ensures.ok in
    done_well c.replay.result c.without_file-in-Replay.result.0 _ c.without_file-in-Replay.ensures.well
    (on_ok_weaker c.replay.result (λ replayed. is_replayed _ _ _ _ _ _ c.in-Replay.asked asks replayed) c.replay.ensures.replayed)

pub returns-in-Trim-clause-done : goal.returns-in-Trim-clause-done
returns-in-Trim-clause-done g c taken =
    let asks : AsksTrim _ c.in-Trim.asked = rw c.in-Trim.is at c.in-Ok.ensures.ok in
    done_well c.trim.result c.without_file-in-Trim.result.0 _ c.without_file-in-Trim.ensures.well
    (on_ok_weaker c.trim.result (λ made. is_trimmed _ _ _ _ _ _ c.in-Trim.asked asks made) c.trim.ensures.made)

pub returns-in-Serve-clause-done : goal.returns-in-Serve-clause-done
returns-in-Serve-clause-done g c taken =
    let asks : AsksServe _ c.in-Serve.asked = rw c.in-Serve.is at c.in-Ok.ensures.ok in
    on_ok_weaker c.listen.result.0 (λ told. is_listened _ _ _ _ _ _ c.in-Serve.asked asks told) c.listen.ensures.told

pub returns-in-Err-clause-done : goal.returns-in-Err-clause-done
returns-in-Err-clause-done g c taken =
    done_well c.answer_words.result c.without_file.result.0 _ c.without_file.ensures.well
    (in_vain c.answer_words.result _ (c.answer_words.ensures.memory (c.in-Err.ensures.err taken)))

pub returns-in-Serve-clause-served : goal.returns-in-Serve-clause-served
returns-in-Serve-clause-served g c =
    let asks : AsksServe _ c.in-Serve.asked = rw c.in-Serve.is at c.in-Ok.ensures.ok in
    IfSome_then c.listen.result.1 c.listen.ensures.served (λ conn served. (
      served.0,
      served.1,
      record { connections = c.in-Serve.asked.place.connections; of_all = asks.connections; per_connection = c.in-Serve.asked.per_connection.number; of_each = asks.per_connection; served = served.2 },
      λ db has. left_as _ _ c.in-Serve.asked db served.0 _ asks (served.3 db has),
    ))

pub returns-in-Serve-clause-lacks : goal.returns-in-Serve-clause-lacks
returns-in-Serve-clause-lacks g c =
    let asks : AsksServe _ c.in-Serve.asked = rw c.in-Serve.is at c.in-Ok.ensures.ok in
    rw asks.settings at c.listen.ensures.lacks

pub returns-in-Serve-clause-finds : goal.returns-in-Serve-clause-finds
returns-in-Serve-clause-finds g c =
    let asks : AsksServe _ c.in-Serve.asked = rw c.in-Serve.is at c.in-Ok.ensures.ok in
    if_failed c.listen.result.0 _ (λ fault plan. inl asks.named)

pub returns-in-Check-clause-finds : goal.returns-in-Check-clause-finds
returns-in-Check-clause-finds g c =
    let asks : AsksCheck _ c.in-Check.asked = rw c.in-Check.is at c.in-Ok.ensures.ok in
    if_failed c.check.result _ (λ fault plan. inr asks.named)

pub returns-in-Check-clause-checks : goal.returns-in-Check-clause-checks
returns-in-Check-clause-checks g c =
    let asks : AsksCheck _ c.in-Check.asked = rw c.in-Check.is at c.in-Ok.ensures.ok in
    IfErr-weaker c.check.result _ _ (λ fault finds _. rw (asks.settings, asks.database) at finds) c.check.ensures.lacks

pub returns-in-Serve-clause-checks : goal.returns-in-Serve-clause-checks
returns-in-Serve-clause-checks g c =
    let asks : AsksServe _ c.in-Serve.asked = rw c.in-Serve.is at c.in-Ok.ensures.ok in
    if_failed c.listen.result.0 _ (λ fault checks. absurd (not_both _ (codes "serve") (codes "check") refl asks.named checks))

pub returns-in-Backup-clause-checks : goal.returns-in-Backup-clause-checks
returns-in-Backup-clause-checks g c =
    IfErr-weaker c.without_file-in-Backup.result.0 _ _ (λ fault other _. finds_unless_plan _ (text_in (codes "settings") (found_by (map string_bytes c.args.words.now))) (text_in (codes "database") (found_by (map string_bytes c.args.words.now))) fault other) c.without_file-in-Backup.ensures.other

pub returns-in-Ready-clause-checks : goal.returns-in-Ready-clause-checks
returns-in-Ready-clause-checks g c =
    IfErr-weaker c.without_file-in-Ready.result.0 _ _ (λ fault other _. finds_unless_plan _ (text_in (codes "settings") (found_by (map string_bytes c.args.words.now))) (text_in (codes "database") (found_by (map string_bytes c.args.words.now))) fault other) c.without_file-in-Ready.ensures.other

pub returns-in-Trim-clause-checks : goal.returns-in-Trim-clause-checks
returns-in-Trim-clause-checks g c =
    IfErr-weaker c.without_file-in-Trim.result.0 _ _ (λ fault other _. finds_unless_plan _ (text_in (codes "settings") (found_by (map string_bytes c.args.words.now))) (text_in (codes "database") (found_by (map string_bytes c.args.words.now))) fault other) c.without_file-in-Trim.ensures.other

pub returns-in-Replay-clause-checks : goal.returns-in-Replay-clause-checks
returns-in-Replay-clause-checks g c =
    IfErr-weaker c.without_file-in-Replay.result.0 _ _ (λ fault other _. finds_unless_plan _ (text_in (codes "settings") (found_by (map string_bytes c.args.words.now))) (text_in (codes "database") (found_by (map string_bytes c.args.words.now))) fault other) c.without_file-in-Replay.ensures.other

pub returns-in-Err-clause-checks : goal.returns-in-Err-clause-checks
returns-in-Err-clause-checks g c =
    IfErr-weaker c.without_file.result.0 _ _ (λ fault other _. finds_unless_plan _ (text_in (codes "settings") (found_by (map string_bytes c.args.words.now))) (text_in (codes "database") (found_by (map string_bytes c.args.words.now))) fault other) c.without_file.ensures.other

pub returns-in-Backup-clause-opened : goal.returns-in-Backup-clause-opened
returns-in-Backup-clause-opened g c taken serves =
    let asks : AsksBackup _ c.in-Backup.asked = rw c.in-Backup.is at c.in-Ok.ensures.ok in
    absurd (not_both _ (codes "backup") (codes "serve") refl asks.named serves)

pub returns-in-Check-clause-opened : goal.returns-in-Check-clause-opened
returns-in-Check-clause-opened g c taken serves =
    let asks : AsksCheck _ c.in-Check.asked = rw c.in-Check.is at c.in-Ok.ensures.ok in
    absurd (not_both _ (codes "check") (codes "serve") refl asks.named serves)

pub returns-in-Ready-clause-opened : goal.returns-in-Ready-clause-opened
returns-in-Ready-clause-opened g c taken serves =
    let asks : AsksReady _ c.in-Ready.asked = rw c.in-Ready.is at c.in-Ok.ensures.ok in
    absurd (not_both _ (codes "ready") (codes "serve") refl asks.named serves)

pub returns-in-Trim-clause-opened : goal.returns-in-Trim-clause-opened
returns-in-Trim-clause-opened g c taken serves =
    let asks : AsksTrim _ c.in-Trim.asked = rw c.in-Trim.is at c.in-Ok.ensures.ok in
    absurd (not_both _ (codes "trim") (codes "serve") refl asks.named serves)

pub returns-in-Replay-clause-opened : goal.returns-in-Replay-clause-opened
returns-in-Replay-clause-opened g c taken serves =
    let asks : AsksReplay _ c.in-Replay.asked = rw c.in-Replay.is at c.in-Ok.ensures.ok in
    absurd (asks.no_serve serves)

pub returns-in-Err-clause-opened : goal.returns-in-Err-clause-opened
returns-in-Err-clause-opened g c taken serves =
    done_well c.answer_words.result c.without_file.result.0 _ c.without_file.ensures.well
    (in_vain c.answer_words.result _ (c.answer_words.ensures.memory (c.in-Err.ensures.err taken)))

pub returns-in-Serve-clause-unopened : goal.returns-in-Serve-clause-unopened
returns-in-Serve-clause-unopened g c other =
    let asks : AsksServe _ c.in-Serve.asked = rw c.in-Serve.is at c.in-Ok.ensures.ok in
    absurd (other asks.named)

pub returns-in-Serve-clause-fault : goal.returns-in-Serve-clause-fault
returns-in-Serve-clause-fault g c =
    let asks : AsksServe _ c.in-Serve.asked = rw c.in-Serve.is at c.in-Ok.ensures.ok in
    IfErr-weaker c.listen.result.0 _ _ (unserved_more _ _ (λ text are. record { serve = λ _. rw asks.settings at are; other = λ other. absurd (other asks.named) })) c.listen.ensures.fault

pub returns-in-Backup-clause-fault : goal.returns-in-Backup-clause-fault
returns-in-Backup-clause-fault g c =
    of_command (λ text. ⊥) _ (λ text are. absurd are)
    c.backup.result c.without_file-in-Backup.result.0 c.without_file-in-Backup.ensures.same
    (IfErr-weaker c.backup.result _ _ (other_text (λ text. ⊥)) c.backup.ensures.other)

pub returns-in-Ready-clause-fault : goal.returns-in-Ready-clause-fault
returns-in-Ready-clause-fault g c =
    of_command (λ text. ⊥) _ (λ text are. absurd are)
    c.ready.result c.without_file-in-Ready.result.0 c.without_file-in-Ready.ensures.same
    (IfErr-weaker c.ready.result _ _ (other_text (λ text. ⊥)) c.ready.ensures.other)

pub returns-in-Trim-clause-fault : goal.returns-in-Trim-clause-fault
returns-in-Trim-clause-fault g c =
    of_command (λ text. ⊥) _ (λ text are. absurd are)
    c.trim.result c.without_file-in-Trim.result.0 c.without_file-in-Trim.ensures.same
    (IfErr-weaker c.trim.result _ _ (other_text (λ text. ⊥)) c.trim.ensures.other)

pub returns-in-Check-clause-fault : goal.returns-in-Check-clause-fault
returns-in-Check-clause-fault g c =
    let asks : AsksCheck _ c.in-Check.asked = rw c.in-Check.is at c.in-Ok.ensures.ok in
    IfErr-weaker c.check.result _ _ (unserved_more _ _ (λ text are. record { serve = λ serves. absurd (not_both _ (codes "check") (codes "serve") refl asks.named serves); other = λ _. rw asks.settings at are })) c.check.ensures.fault

pub returns-in-Replay-clause-fault : goal.returns-in-Replay-clause-fault
returns-in-Replay-clause-fault g c =
    let asks : AsksReplay _ c.in-Replay.asked = rw c.in-Replay.is at c.in-Ok.ensures.ok in
    of_command _ _ (λ text are. record { serve = λ serves. absurd (asks.no_serve serves); other = λ _. rw asks.settings at are })
    c.replay.result c.without_file-in-Replay.result.0 c.without_file-in-Replay.ensures.same c.replay.ensures.fault

pub returns-in-Err-clause-fault : goal.returns-in-Err-clause-fault
returns-in-Err-clause-fault g c =
    of_command (λ text. ⊥) _ (λ text are. absurd are)
    c.answer_words.result c.without_file.result.0 c.without_file.ensures.same
    (IfErr-weaker c.answer_words.result _ _ (other_text (λ text. ⊥)) c.answer_words.ensures.other)
