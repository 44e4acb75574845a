use Rattle.osb_frames.proofs.CutLemmas.{request_exact, stops_exact, ends_exact}
use Rattle.osb_frames.proofs.FrontLemmas.{front_unique}
use Rattle.osb_frames.proofs.laws.one_front.Goals as goal

pub returns : goal.returns
returns c = record { request = request_exact; stops = stops_exact; ends = ends_exact; one = front_unique }
