use Rattle.osb_frames.proofs.FrontLemmas.{whole_inside, finds_whole, finds_fault, stands_at_end, shows_at_end}
use Rattle.osb_frames.proofs.StayLemmas.{step_stays, more_fits}
use Rattle.osb_frames.proofs.step.next.Goals as goal

pub returns : goal.returns
returns c =
    let limits = c.args.limits.now in
    let bytes = c.args.buf.now in
    let over = c.args.ended in
    let step = c.step_at.result in
    let says = c.step_at.ensures.says in
    record {
      says = says;
      size = whole_inside limits bytes over step says;
      room = more_fits limits bytes over step says;
      stays = step_stays limits bytes over step says;
      finds = finds_whole limits bytes over step says;
      stops = finds_fault limits bytes over step says;
      stands = λ end. stands_at_end limits bytes over step end says;
      shows = λ end. shows_at_end limits bytes over step end says;
    }
