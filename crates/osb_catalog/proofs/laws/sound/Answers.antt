use Rattle.osb_catalog.proofs.SoundRead.{sound}
use Rattle.osb_catalog.proofs.laws.sound.Goals as goal

pub returns : goal.returns
returns c = sound
