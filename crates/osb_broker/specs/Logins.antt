-- What lacks the logins of its door changes nothing and learns nothing, and each door has its own asks.
use Rattle.std.specs.Prelude.{◌≡◌, ◌⊎◌, ℕ, Bool, true, false, List, Some, Ok, Any, codes}
use Rattle.osb_frames.specs.Cuts.{Message}
use Rattle.osb_catalog.specs.Rules.{Rules}
use Rattle.osb_asks.specs.declared.ask.Ask.{Ask}
use Rattle.osb_asks.specs.declared.ask.Ask.TheVariants as the
use Rattle.osb_asks.specs.declared.ask_fault.AskFault.TheVariants.{Auth}
use Rattle.osb_asks.specs.Credentials.{is_some_login}
use Rattle.osb_asks.specs.Doors.{Entrance, entry_of}
use Rattle.osb_asks.specs.Admission.{has_field, is_let_in}
use Rattle.osb_asks.specs.Asks.{ask_of}
use Rattle.osb_orders.specs.Lives.{Lives}
use Rattle.osb_broker.specs.Faults.{fault_answer}
use Rattle.osb_broker.specs.Steps.{machine}

-- the request names a door and lacks its logins
pub record IsUnknown (rules : Rules) (q : Message) : Type 0 where
  pub entrance : Entrance
  pub enters : entry_of q.target ≡ Some entrance
  pub out : is_let_in rules entrance.door q.lines ≡ false

-- such a request has the fixed answer 401 from any lives, which stay, and it meets no refusal of memory
abbrev pub UnknownLearnNothing : Type 0
UnknownLearnNothing = (rules : Rules) (lives : Lives) (q : Message) → IsUnknown rules q →
    ((machine rules).step lives q ≡ (fault_answer Auth, lives))
    × ((machine rules).takes_memory q ≡ false)

-- the request has the login with one of these tokens
abbrev pub has_login : List (List ℕ) → Message → Bool
has_login tokens q = has_field (codes "authorization") (is_some_login tokens) q.lines

-- only the backend lists orders and reports them
abbrev pub is_of_backend : Ask → Bool
is_of_backend (the.Orders ask) = true
is_of_backend (the.Report ask) = true
is_of_backend _ = false

-- an ask of the backend has a login of the backend, and any other one of the platform
abbrev pub AsksHaveLogins : Type 0
AsksHaveLogins = (rules : Rules) (q : Message) (ask : Ask) → ask_of rules q ≡ Ok ask →
    ((is_of_backend ask ≡ true) × (has_login rules.backend_tokens q ≡ true))
    ⊎ ((is_of_backend ask ≡ false) × (has_login rules.platform_tokens q ≡ true))

-- some token is among both
abbrev pub ShareOne : List (List ℕ) → List (List ℕ) → Type 0
ShareOne tokens others = Any (λ token. Any (λ other. token ≡ other) others) tokens

-- if platform and backend share no login, nothing that has one of the platform is asked as the backend
abbrev pub PlatformReportsNothing : Type 0
PlatformReportsNothing = (rules : Rules) (q : Message) (ask : Ask) →
    ¬ ShareOne rules.platform_tokens rules.backend_tokens →
    has_login rules.platform_tokens q ≡ true → ask_of rules q ≡ Ok ask → is_of_backend ask ≡ false
