-- Requests that are decided one after the other, before any of their changes is made. For contracts inside the crate.
use Rattle.std.specs.Prelude.{◌≡◌, ◌≢◌, ◌⊎◌, ◌<◌, ◌≤◌, ◌==◌, ℕ, Bool, List, [], ◌∷◌, ◌++◌, length}
use Rattle.std.specs.Global.{Vec}
use Rattle.std.specs.List.{AllByRecursion}
use Rattle.sqlite.specs.Tree.{Trees}
use Rattle.sqlite.specs.State.{State}
use Rattle.osb_frames.specs.declared.limits.Limits.{Limits}
use Rattle.osb_frames.specs.Cuts.{Message, whole, IsFront}
use Rattle.osb_replies.specs.Text.{reply_text}
use Rattle.osb_catalog.specs.Rules.{Rules}
use Rattle.osb_orders.specs.declared.order.Change.TheVariants.{Nothing}
use Rattle.osb_orders.specs.Lives.{Lives, life_of}
use Rattle.osb_orders.specs.Changed.{lives_changed}
use Rattle.osb_orders.specs.IsLife.{IsLives}
use Rattle.osb_records.specs.declared.change.LifeChange.{LifeChange}
use Rattle.osb_records.specs.Changes.{all_changed, AllCanBeMade, CanBeMade, ChangesSomething}
use Rattle.osb_records.specs.Commit.{Commits}
use Rattle.osb_statements.specs.Steps.{stored}
use Rattle.osb_broker.specs.declared.groups.Group.{Group}
use Rattle.osb_broker.specs.Machine.{reply_of}
use Rattle.osb_broker.specs.Steps.{machine}

-- the change is of another instance than each of these
abbrev pub IsOfAnother : LifeChange → List LifeChange → Type 0
IsOfAnother one changes = AllByRecursion (λ other. other.instance ≢ one.instance) changes

-- From all lives in which the instance of the change has the life that it has in these, the request is answered by this
-- text, and leads to the changed lives.
abbrev pub Decides : Rules → Message → Bool → Lives → List ℕ → LifeChange → Type 0
Decides rules q last lives text one =
    (others : Lives) → IsLives others → life_of others one.instance ≡ life_of lives one.instance →
    (text ≡ reply_text (reply_of q last ((machine rules).step others q).0))
    × (lives_changed one.change one.instance others ≡ ((machine rules).step others q).1)
    × CanBeMade one others

-- behind the first n bytes of a connection no request is answered: of k that may come only one
-- does, or no byte follows
abbrev pub NoneFollows : ℕ → ℕ → List ℕ → Type 0
NoneFollows k n bytes = (k ≡ 1) ⊎ ((1 < k) × (length bytes ≤ n))

-- on each connection one request is answered, by its text from the lives that the one before left
abbrev pub AreAnswered : Rules → Limits → ℕ → Lives → List (List ℕ) → List (List ℕ) → Lives →
    Type 0
AreAnswered rules limits k old [] [] new = new ≡ old
AreAnswered rules limits k old (bytes ∷ connections) (text ∷ texts) new =
    (q : Message) × (n : ℕ) × IsFront limits bytes (whole q n) × NoneFollows k n bytes
    × (text ≡ reply_text (reply_of q (k == 1) ((machine rules).step old q).0))
    × AreAnswered rules limits k ((machine rules).step old q).1 connections texts new
AreAnswered rules limits k old _ _ new = ⊥

-- From these lives the connections are answered so once these changes are made, which can be.
pub record IsGroup (rules : Rules) (limits : Limits) (k : ℕ) (lives : Lives)
    (connections texts : List (List ℕ)) (changes : List LifeChange) : Type 0 where
  pub answered : AreAnswered rules limits k lives connections texts (all_changed changes lives)
  pub made : AllCanBeMade changes lives
  pub some : AllByRecursion ChangesSomething changes
  pub whole : IsLives (all_changed changes lives)

-- A connection was taken into a group: its request is decided by these lives, and its change, which is of another instance
-- than those before, has to be made too, if it is one.
pub record Joins (rules : Rules) (limits : Limits) (k : ℕ) (lives : Lives) (bytes : List ℕ)
    (old new : Group) : Type 0 where
  pub q : Message
  pub n : ℕ
  pub front : IsFront limits bytes (whole q n)
  pub last : NoneFollows k n bytes
  pub output : Vec ℕ
  pub one : LifeChange
  pub decides : Decides rules q (k == 1) lives output.items one
  pub apart : IsOfAnother one old.changes.items
  pub outputs : new.outputs.items ≡ old.outputs.items ++ output ∷ []
  pub none : one.change ≡ Nothing → new.changes.items ≡ old.changes.items
  pub some : one.change ≢ Nothing → new.changes.items ≡ old.changes.items ++ one ∷ []

-- the database has the lives after all of these connections
pub record HasAll (rules : Rules) (limits : Limits) (k : ℕ) (old : State)
    (connections : List (List ℕ)) (db : Trees) : Type 0 where
  pub texts : List (List ℕ)
  pub lives : Lives
  pub answered : AreAnswered rules limits k (stored old) connections texts lives
  pub commits : Commits old lives db
