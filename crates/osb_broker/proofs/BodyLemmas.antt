-- The body of each reply is a JSON object: that of the answer table, of an error, or `{}`.
use Rattle.std.proofs.Common.{◌≡◌, Bool, true, false, Result, Ok, Err, codes, refl, sym, ap, subst}
use Rattle.serde_json.specs.Data.{no_members}
use Rattle.osb_frames.specs.declared.step.StopKind.{StopKind}
use Rattle.osb_frames.specs.Cuts.{Message}
use Rattle.osb_replies.specs.Text.{ReplyParts}
use Rattle.osb_replies.specs.declared.fixed_error.FixedError.TheVariants as told
use Rattle.osb_catalog.specs.Rules.{Rules}
use Rattle.osb_catalog.specs.Sound.{AreSound}
use Rattle.osb_asks.specs.declared.ask.Ask.{Ask}
use Rattle.osb_asks.specs.declared.ask_fault.AskFault.{AskFault}
use Rattle.osb_asks.specs.declared.ask_fault.AskFault.TheVariants as fault
use Rattle.osb_asks.specs.Asks.{ask_of}
use Rattle.osb_orders.specs.Lives.{Lives}
use Rattle.osb_orders.specs.IsLife.{IsLives}
use Rattle.osb_laws.specs.Bodies.{IsObjectBody, BodiesAreObjects, ErrorsAreObjects}
use Rattle.osb_broker.specs.Faults.{fault_answer}
use Rattle.osb_broker.specs.Machine.{Answered, error_of, fault_reply}
use Rattle.osb_broker.specs.Steps.{machine, step_for}

nothing_said : IsObjectBody (codes "{}")
nothing_said = record { members = no_members; text = refl; ordered = tt; whole = refl }

module _ (errors : ErrorsAreObjects) where
  pub faults_are_objects : (fault : StopKind) → IsObjectBody (fault_reply fault).body
  faults_are_objects fault = errors (error_of fault)

  fault_is : (fault : AskFault) → IsObjectBody (fault_answer fault).body
  fault_is fault.NoDoor = nothing_said
  fault_is fault.Auth = nothing_said
  fault_is fault.Version = errors told.Version
  fault_is fault.NoRoute = nothing_said
  fault_is fault.Id = errors told.Id
  fault_is fault.Query = errors told.Query
  fault_is fault.Body = errors told.Body
  fault_is fault.NotInCatalog = errors told.NotInCatalog
  fault_is fault.Memory = nothing_said

  module _ (table : BodiesAreObjects) where
    step_is : (rules : Rules) (lives : Lives) (read : Result Ask AskFault) → AreSound rules → IsObjectBody rules.catalog → IsLives lives
        → IsObjectBody (step_for rules lives read).0.body
    step_is rules lives (Ok ask) sound catalog h = table rules lives ask sound catalog h
    step_is rules lives (Err fault) sound catalog h = fault_is fault

    pub replies_are_objects : (rules : Rules) (lives after : Lives) (q : Message) (last mark : Bool) (reply : ReplyParts) → AreSound rules → IsObjectBody rules.catalog → IsLives lives
        → Answered (machine rules) q last mark lives reply after → IsObjectBody reply.body
    replies_are_objects rules lives after q last true reply sound catalog h answered = subst IsObjectBody (sym (ap (λ (r : ReplyParts). r.body) answered.1)) nothing_said
    replies_are_objects rules lives after q last false reply sound catalog h answered = subst IsObjectBody (sym (ap (λ (r : ReplyParts). r.body) answered.0)) (step_is rules lives (ask_of rules q) sound catalog h)
