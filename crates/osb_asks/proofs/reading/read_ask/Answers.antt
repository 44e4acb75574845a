use Rattle.std.proofs.Common.{rules}
use Rattle.osb_frames.specs.Steps.{message}
use Rattle.osb_catalog.specs.Rules.{rules_of}
use Rattle.osb_asks.specs.Asks.{ask_of}
use Rattle.osb_asks.specs.Reads.{Meets}
use Rattle.osb_asks.proofs.AskLemmas.{valid_texts_result, offered_result}
use Rattle.osb_asks.proofs.reading.read_ask.Goals as goal

pub returns-clause-valid_texts : goal.returns-clause-valid_texts
returns-clause-valid_texts c =
    let settings = rules_of c.args.settings.now in
    let request = message c.args.request.now in
    let reads : Meets c.ask_at.result (ask_of settings request) = search rules in
    valid_texts_result settings request c.ask_at.result reads

pub returns-clause-offered : goal.returns-clause-offered
returns-clause-offered c =
    let settings = rules_of c.args.settings.now in
    let request = message c.args.request.now in
    let reads : Meets c.ask_at.result (ask_of settings request) = search rules in
    offered_result settings request c.ask_at.result reads
