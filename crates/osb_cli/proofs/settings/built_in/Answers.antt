use Rattle.std.proofs.Common.{refl}
use Rattle.osb_cli.specs.BuiltIn.{built_in}
use Rattle.osb_cli.proofs.settings.built_in.Goals as goal

pub returns : goal.returns
unfolding built_in
returns c = refl
