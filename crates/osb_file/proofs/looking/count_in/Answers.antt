use Rattle.std.proofs.Common.{rules, ◌≡◌}
use Rattle.sqlite.specs.Held.{state}
use Rattle.osb_statements.specs.Steps.{stored}
use Rattle.osb_file.specs.declared.unseen.Unseen.TheVariants.{NotOurs}
use Rattle.osb_file.proofs.LookLemmas.{if_ok_so}
use Rattle.osb_file.proofs.looking.count_in.Goals as goal

pub returns-in-Ok-clause-counted : goal.returns-in-Ok-clause-counted
returns-in-Ok-clause-counted g c =
    let records = c.in-Ok.records in
    if_ok_so c.counts_of.result (λ counts are. (stored (state g.S.Store records), c.in-Ok.ensures.ok (c.requires.clean records) are.0, are.1)) c.counts_of.ensures.ok

pub returns-in-Err-clause-not_ours : goal.returns-in-Err-clause-not_ours
returns-in-Err-clause-not_ours g c is =
    let ours : c.unadopted.result ≡ NotOurs = search rules in
    c.in-Err.ensures.not_ours (c.requires.clean c.in-Err.left) (c.unadopted.ensures.ours ours)
