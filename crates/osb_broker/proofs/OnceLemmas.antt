-- Connections of one request each, served.
use Rattle.std.proofs.Common.{◌≡◌, ℕ, true, List, subst}
use Rattle.osb_frames.specs.declared.limits.Limits.{Limits}
use Rattle.osb_catalog.specs.Rules.{Rules}
use Rattle.osb_catalog.specs.Sound.{AreSound}
use Rattle.osb_orders.specs.Lives.{Lives}
use Rattle.osb_orders.specs.IsLife.{IsLives}
use Rattle.osb_broker.specs.Connection.{Run}
use Rattle.osb_broker.specs.Steps.{capped}
use Rattle.osb_broker.specs.Served.{RunServed}
use Rattle.osb_broker.specs.Once.{ServedOnce}
use Rattle.osb_broker.proofs.RequestLemmas.{AreValidTexts}
use Rattle.osb_broker.proofs.RepeatLemmas.{once}
use Rattle.osb_broker.proofs.ApartLemmas.{are_apart}

pub served_once : AreValidTexts → (rules : Rules) (limits : Limits) (k : ℕ) (s : Lives) (connections outputs : List (List ℕ)) (t : Lives) → AreSound rules → IsLives s → k ≡ 1 → RunServed (capped rules) limits k s connections outputs t → ServedOnce rules limits s connections outputs t
served_once valid_texts rules limits k s connections outputs t sound h one run =
    let is = subst (λ n. Run (capped rules) limits n s connections run.marks run.texts t) one run.is in
    record {
      marks = run.marks;
      texts = run.texts;
      is = is;
      written = run.written;
      once = once valid_texts rules limits (λ q. true) s connections run.marks run.texts t sound h is;
      apart = are_apart valid_texts rules limits (λ q. true) s connections run.marks run.texts t sound h is;
    }
