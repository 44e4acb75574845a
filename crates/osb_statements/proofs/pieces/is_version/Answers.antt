use Rattle.std.proofs.Common.{rules, ◌≡◌, true, [], ◌∷◌}
use Rattle.std.specs.Prelude.{◌↔◌}
use Rattle.osb_contexts.specs.Reads.{behind}
use Rattle.osb_statements.proofs.StoredPieceLemmas.{version_read}
use Rattle.osb_statements.proofs.pieces.is_version.Goals as goal

pub returns-clause-ok : goal.returns-clause-ok
returns-clause-ok g c clean =
    let versions = c.in_ok-versions.versions.items in
    let read = version_read c.args.version (behind g.S.Store c.args.tx.now).now.trees versions (c.in_ok-versions.ensures.ok clean) in
    let says : (c.eq.result ≡ true) ↔ (versions ≡ c.args.version ∷ []) = search rules in
    (λ is. read.0 (says.0 is), λ held. says.1 (read.1 held))
