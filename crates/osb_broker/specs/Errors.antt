-- A reply that reports an error has changed nothing.
use Rattle.std.specs.Prelude.{◌≡◌, false}
use Rattle.osb_frames.specs.Cuts.{Message}
use Rattle.osb_catalog.specs.Rules.{Rules}
use Rattle.osb_orders.specs.Lives.{Lives}
use Rattle.osb_laws.specs.Statuses.{is_success}
use Rattle.osb_broker.specs.Steps.{machine}

-- a request that isn't answered 200, 201 or 202 leaves the lives
abbrev pub ErrorsStay : Type 0
ErrorsStay = (rules : Rules) (lives : Lives) (q : Message) →
    let step = (machine rules).step lives q in
    is_success step.0.status ≡ false → step.1 ≡ lives
