use Rattle.std.proofs.Common.{inl, inr, refl}
use Rattle.std.proofs.lemmas.Result.{IfOk-weaker}
use Rattle.osb_broker.specs.BrokerState.{lives_of}
use Rattle.osb_broker.proofs.CrashLemmas.{leaves_weaker}
use Rattle.osb_broker.proofs.GroupLemmas.{each_leaves}
use Rattle.osb_broker.proofs.LostLemmas.{result_weaker}
use Rattle.osb_broker.proofs.OnceLemmas.{served_once}
use Rattle.osb_broker.proofs.broker.Broker.serve_all.Goals as goal

pub returns-clause-ok : goal.returns-clause-ok
unfolding lives_of
returns-clause-ok g c works = IfOk-weaker c.serve_each.result _ _ (λ outputs serves. (_, (refl, refl, refl), serves.served _ _ (inl (works, refl, refl)))) c.serve_each.ensures.ok

pub returns-clause-once : goal.returns-clause-once
unfolding lives_of
returns-clause-once g c works one =
    let formed = c.lives_are_whole.ensures.whole (c.serve_each.ensures.worked.works works) in
    IfOk-weaker c.serve_each.result _ _
    (λ outputs serves. (_, (refl, refl, refl), served_once c.valid_texts.ensures.valid_texts _ _ _ _ _ _ _ c.is_sound.ensures formed one (serves.served _ _ (inl (works, refl, refl)))))
    c.serve_each.ensures.ok

pub returns-clause-shut : goal.returns-clause-shut
returns-clause-shut g c clean shut lives = IfOk-weaker c.serve_each.result _ _ (λ outputs serves. (_, (refl, refl, refl), serves.served lives lives (inr (clean, shut, refl)))) c.serve_each.ensures.ok

pub returns-clause-leaves : goal.returns-clause-leaves
unfolding lives_of
returns-clause-leaves g c works clean =
    leaves_weaker (λ lives. result_weaker c.serve_each.result _ _ _ (λ outputs run. (_, (refl, refl, refl), run))) (each_leaves g.S.Store _ _ _ _ _ _ c.serve_each.result c.serve_each.ensures.ok c.serve_each.ensures.err c.serve_each.ensures.kept works clean)
