use Rattle.std.proofs.Common.{◌∙◌, ◌++◌, [], ◌∷◌, ap, refl, sym, arith}
use Rattle.std.proofs.lemmas.List.{append-nil, append_assoc, length-append}
use Rattle.osb_catalog.specs.Rules.{rules_of}
use Rattle.osb_listen.proofs.ExchangeLemmas.{standard}
use Rattle.osb_restart.proofs.RunLemmas.{all_more, holds_old, lived_more}
use Rattle.osb_restart.proofs.runs.serve_runs.Goals as goal

pub loop-init : goal.loop-init
loop-init g c = record {
  lived = ([], refl, sym (append-nil _), λ clean db has old are. holds_old (rules_of c.args.settings.now) c.args.per_connection _ db old has are);
}

pub loop-preserved : goal.loop-preserved
loop-preserved g c =
    let before = c.loop.invariant.lived in
    let run = c.in_ok-left.ensures.served in
    record {
      lived = (
        before.0 ++ run.0 ∷ [],
        grind (arith, length-append before.0 (run.0 ∷ []), before.1),
        run.1 ∙ ap (λ journal. journal ++ run.0) before.2 ∙ append_assoc _ _ run.0 ∙ ap (λ said. g.L.Entrance.journal c.args.entrance.now ++ said) (sym (all_more before.0 run.0)),
        λ clean db has old are. lived_more (rules_of c.args.settings.now) c.args.per_connection old before.0 run.0 _ _ (before.3 (c.in_ok-left.ensures.clean clean) db has old are) (run.2 clean),
      );
    }

pub returns : goal.returns
returns g c =
    let it = c.loop.invariant.lived in
    record {
      lived = (
        it.0,
        omega (arith, it.1, c.loop-test.false, c.loop.auto.counter-end),
        it.2,
        λ clean db has old are. (standard.0, standard.1, it.3 clean db has old are),
      );
    }
