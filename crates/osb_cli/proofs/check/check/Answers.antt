use Rattle.std.proofs.Common.{refl}
use Rattle.osb_cli.proofs.check.check.Goals as goal

pub returns-in_ok-look_at-in-None-Some-clause-checked : goal.returns-in_ok-look_at-in-None-Some-clause-checked
returns-in_ok-look_at-in-None-Some-clause-checked g c =
    rw (c.in-None-Some.is-0, c.in-None-Some.is-1) (record {
      between = g.W.Sink.taken c.args.output.now;
      settings_checked = refl;
      database_checked = c.in_ok-look_at-in-None-Some.ensures.looked;
      accepted = tt;
    })

pub returns-in_ok-check_settings-in-Some-None-clause-checked : goal.returns-in_ok-check_settings-in-Some-None-clause-checked
returns-in_ok-check_settings-in-Some-None-clause-checked g c =
    rw (c.in-Some-None.is-0, c.in-Some-None.is-1) (record {
      between = g.W.Sink.taken c.check_settings.new.output;
      settings_checked = c.in_ok-check_settings-in-Some-None.ensures.checked;
      database_checked = refl;
      accepted = tt;
    })
