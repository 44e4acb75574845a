use Rattle.std.proofs.Common.{refl}
use Rattle.std.specs.Fmt.{digits}
use Rattle.osb_replies.specs.Text.{reply_text}
use Rattle.osb_listen.proofs.ready.answer.Goals as goal

pub returns : goal.returns
unfolding reply_text digits
returns c = refl
