use Rattle.std.proofs.Common.{subst, ◌∷◌, []}
use Rattle.osb_listen.specs.Lines.{Says}
use Rattle.osb_listen.proofs.PartLemmas.{says_sent}
use Rattle.osb_listen.proofs.client_end.report_end.Goals as goal

pub returns : goal.returns
returns g c =
    let errors = c.args.errors.now in
    let sink = c.send_all.new.sink in
    let sent = c.send_all.ensures in
    subst (λ line. Says (line ∷ []) (g.E.Sink.taken errors) (g.E.Sink.taken sink) (g.E.Sink.failed_or_empty errors) (g.E.Sink.failed_or_empty sink)) c.line_for.ensures
    (says_sent c.send_all.result _ _ _ _ _ sent.sent sent.cut sent.quiet sent.cause)
