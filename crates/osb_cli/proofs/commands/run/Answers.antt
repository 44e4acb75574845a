use Rattle.std.proofs.Common.{◌≡◌, ◌∙◌, true, None, ap, subst, map, string_bytes}
use Rattle.std.proofs.lemmas.Option.{IfSome_then}
use Rattle.clap.specs.Words.{subcommand_of, takes}
use Rattle.osb_cli.specs.Grammar.{osb_broker}
use Rattle.osb_cli.specs.Reported.{Reports}
use Rattle.osb_cli.proofs.DoneLemmas.{is_plain, nothing_named, nothing_taken}
use Rattle.osb_cli.proofs.ReportedLemmas.{reports_of}
use Rattle.osb_cli.proofs.ServeLemmas.{fault_if_4, finds_if_4, finds_some, if_none_then, names_some, serves_if_4}
use Rattle.osb_cli.proofs.StatusLemmas.{well_if_0}
use Rattle.osb_cli.proofs.commands.run.Goals as goal

pub returns-clause-done : goal.returns-clause-done
returns-clause-done g c taken zero =
    well_if_0 c.perform-done.result.0 c.status_of.result _ c.status_of.ensures.fails zero (c.perform-done.ensures.done taken)

pub returns-clause-plain : goal.returns-clause-plain
returns-clause-plain g c none zero =
    let taken : takes osb_broker (map string_bytes c.args.words.now) ≡ true = rw none nothing_taken in
    let found : subcommand_of osb_broker (map string_bytes c.args.words.now) ≡ None = rw none nothing_named in
    is_plain _ _ _ _ _ _ found (well_if_0 c.perform-done.result.0 c.status_of.result _ c.status_of.ensures.fails zero (c.perform-done.ensures.done taken))

pub returns-clause-served : goal.returns-clause-served
returns-clause-served g c =
    let contents = g.F.NamedFiles.contents c.args.files.now in
    let found = subcommand_of osb_broker (map string_bytes c.args.words.now) in
    let done = c.perform-done in
    let status = c.status_of in
    IfSome_then done.result.1 done.ensures.served (λ conn served. (
      served.0,
      g.E.Sink.taken done.new.errors,
      g.E.Sink.failed_or_empty done.new.errors,
      served.2,
      record {
        well = λ zero. (well_if_0 done.result.0 status.result _ status.ensures.fails zero served.1, well_if_0 done.result.0 status.result _ status.ensures.fails zero status.ensures.quiet);
        other = λ some. reports_of contents found done.result.0 status.result _ _ _ _ status.ensures.zero some done.ensures.fault status.ensures.reports;
      },
      served.3,
    ))

pub returns-clause-quiet : goal.returns-clause-quiet
returns-clause-quiet g c zero =
    let done = c.perform-done in
    let status = c.status_of in
    let quiet = well_if_0 done.result.0 status.result _ status.ensures.fails zero status.ensures.quiet in
    if_none_then done.result.1 done.ensures.untouched (λ same. quiet ∙ ap (λ errors. g.E.Sink.taken errors) same)

pub returns-clause-opened : goal.returns-clause-opened
returns-clause-opened g c taken zero serves =
    well_if_0 c.perform-done.result.0 c.status_of.result _ c.status_of.ensures.fails zero (c.perform-done.ensures.opened taken serves)

pub returns-clause-finds : goal.returns-clause-finds
returns-clause-finds g c four =
    serves_if_4 c.perform-done.result.0 c.status_of.result c.status_of.ensures.zero four (c.status_of.ensures.plan four) c.perform-done.ensures.finds

pub returns-clause-checks : goal.returns-clause-checks
returns-clause-checks g c four checks =
    finds_if_4 c.perform-done.result.0 c.status_of.result c.status_of.ensures.zero four (c.status_of.ensures.plan four) c.perform-done.ensures.checks
    (λ fault is finds. finds_some (g.F.NamedFiles.contents c.args.files.now) (subcommand_of osb_broker (map string_bytes c.args.words.now)) fault is (finds checks))

pub returns-clause-lacks : goal.returns-clause-lacks
returns-clause-lacks g c four =
    let status = c.status_of in
    let done = c.perform-done in
    fault_if_4 done.result.0 status.result done.result.1 _ _ status.ensures.zero four (status.ensures.plan four) done.ensures.lacks
    (λ fault is conn lacks works db holds. names_some (g.F.NamedFiles.contents c.args.files.now) (subcommand_of osb_broker (map string_bytes c.args.words.now)) db fault is (lacks works db holds))

pub returns-clause-reports : goal.returns-clause-reports
returns-clause-reports g c some =
    let contents = g.F.NamedFiles.contents c.args.files.now in
    let found = subcommand_of osb_broker (map string_bytes c.args.words.now) in
    let done = c.perform-done in
    let status = c.status_of in
    let said = g.E.Sink.taken status.new.errors in
    let failed = g.E.Sink.failed_or_empty status.new.errors in
    let reports = reports_of contents found done.result.0 status.result _ _ _ _ status.ensures.zero some done.ensures.fault status.ensures.reports in
    if_none_then done.result.1 done.ensures.untouched
    (λ same. subst (λ errors. Reports contents found status.result (g.E.Sink.taken errors) said (g.E.Sink.failed_or_empty errors) failed) same reports)
