use Rattle.std.proofs.Common.{◌∷◌, [], ◌+◌, ◌∙◌, ap₂, refl, sym}
use Rattle.osb_listen.proofs.ExchangeLemmas.{ended_more, some_more}
use Rattle.osb_listen.proofs.GroupLemmas.{byte_is}
use Rattle.osb_listen.proofs.group.serve_both.Goals as goal

pub returns-clause-served : goal.returns-clause-served
returns-clause-served g c =
    let one = c.serve_client-one.ensures in
    let two = c.serve_client-two.ensures in
    let first = one.served in
    let second = rw (one.rules, one.limits, one.most) at two.served in (
      first.0 ∷ second.0 ∷ [],
      (refl, ended_more (first.0 ∷ []) (second.0 ∷ []) ∙ ap₂ (λ n m. n + m) (first.1 ∙ sym (c.from.ensures ∙ byte_is c.serve_client-one.result)) (second.1 ∙ sym (c.from-2.ensures ∙ byte_is c.serve_client-two.result))),
      some_more _ _ _ _ _ _ _ _ _ _ _ _ _ _ _ (first.0 ∷ []) (second.0 ∷ []) one.worked two.worked first.2 second.2,
    )
