use Rattle.std.proofs.lemmas.Result.{IfErr-weaker, on_ok_weaker}
use Rattle.osb_catalog.specs.Rules.{rules_of}
use Rattle.osb_cli.proofs.CheckLemmas.{accepts, finds, no_settings}
use Rattle.osb_cli.proofs.check.check_both.Goals as goal

pub returns-clause-checked : goal.returns-clause-checked
returns-clause-checked g c =
    on_ok_weaker c.check_plans.result (λ offers. accepts _ _ _ c.in_ok-settings.settings c.in_ok-settings.ensures.are _ _ _ _ c.in_ok-seen.seen
    c.in_ok-settings.ensures.checked c.in_ok-seen.ensures.looked c.in_ok-seen.ensures.seen offers) c.check_plans.ensures.ok

pub returns-clause-lacks : goal.returns-clause-lacks
returns-clause-lacks g c =
    IfErr-weaker c.check_plans.result _ _ (λ fault lacks. finds _ _ _ c.in_ok-settings.settings c.in_ok-settings.ensures.are c.in_ok-seen.seen fault c.in_ok-seen.ensures.seen lacks) c.check_plans.ensures.lacks

pub returns-clause-fault : goal.returns-clause-fault
returns-clause-fault g c =
    IfErr-weaker c.check_plans.result _ _ (λ fault lacks. no_settings _ (rules_of c.in_ok-settings.settings) c.in_ok-seen.seen fault lacks) c.check_plans.ensures.lacks
