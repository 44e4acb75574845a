use Rattle.std.proofs.Common.{◌≡◌, refl, subst, sym, inl, inr, true, false, ◌∷◌, []}
use Rattle.osb_listen.specs.Lines.{line_of, Says}
use Rattle.osb_listen.proofs.GroupLemmas.{none_failed_if, one_failed_if, reply_sent}
use Rattle.osb_listen.proofs.group.answer_client.Goals as goal

pub returns-then-stays-clause-answered : goal.returns-then-stays-clause-answered
returns-then-stays-clause-answered g c =
    let sent = c.send_reply-ended.ensures in
    let both = reply_sent c.send_reply-ended.result _ c.args.reply.now _ _ _ _ sent.fault c.requires sent.ok sent.err in
    let old = c.args.errors.now in
    let errors = c.report_end.new.errors in
    let lines = subst (λ by. Says (line_of by ∷ []) (g.E.Sink.taken old) (g.E.Sink.taken errors) (g.E.Sink.failed_or_empty old) (g.E.Sink.failed_or_empty errors)) (sym both.1) c.report_end.ensures in
    let yes = c.goes_on-stays.ensures.yes c.if-stays.true in (
      _,
      record {
        number = refl;
        before = refl;
        text = both.0;
        read = refl;
        stays = λ e. (yes.0, yes.1, none_failed_if c.send_reply-ended.result _ _ _ c.requires.unfailed sent.ok yes.2);
        ends = λ (e : true ≡ false). cc;
      },
      refl,
      c.stay.ensures.journal,
      lines,
    )

pub returns-clause-answered : goal.returns-clause-answered
returns-clause-answered g c =
    let sent = c.send_reply-ended.ensures in
    let both = reply_sent c.send_reply-ended.result _ c.args.reply.now _ _ _ _ sent.fault c.requires sent.ok sent.err in
    let old = c.args.errors.now in
    let errors = c.report_end.new.errors in
    let lines = subst (λ by. Says (line_of by ∷ []) (g.E.Sink.taken old) (g.E.Sink.taken errors) (g.E.Sink.failed_or_empty old) (g.E.Sink.failed_or_empty errors)) (sym both.1) c.report_end.ensures in (
      _,
      record {
        number = refl;
        before = refl;
        text = both.0;
        read = refl;
        stays = λ (e : false ≡ true). cc;
        ends = λ e. elim (c.goes_on-stays.ensures.no c.if-stays.false) [
          | inl may ↦ inl may
          | inr (inl is) ↦ inr (inl is)
          | inr (inr failed) ↦ inr (inr (one_failed_if c.send_reply-ended.result _ _ _ _ sent.err failed))
        ];
      },
      refl,
      c.leave.ensures.journal,
      lines,
    )
