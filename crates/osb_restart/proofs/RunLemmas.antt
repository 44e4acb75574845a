-- What runs of the program leave, one after the other.
use Rattle.std.proofs.Common.{◌≡◌, ◌∙◌, ◌<◌, ◌≤◌, ℕ, Bool, IsTrue, inl, List, [], ◌∷◌, ◌++◌, refl, sym, ap, subst}
use Rattle.std.proofs.lemmas.List.{append-nil, append_assoc}
use Rattle.std.proofs.Math.Bridge.{le_prop}
use Rattle.std.proofs.Math.Logic.{∥∥₁_map, ∥∥₁_elim, ∥∥₁_prop}
use Rattle.sqlite_disk.specs.declared.Disk.{Ghosts}
use Rattle.sqlite_wal.specs.Recovery.{Image}
use Rattle.sqlite_wal.specs.Files.{outcomes}
use Rattle.sqlite_wal.specs.Reads.{AreClean}
use Rattle.sqlite.specs.Tree.{Trees}
use Rattle.sqlite.specs.State.{State, HasCleanDisk}
use Rattle.sqlite.specs.Held.{AreDatabases}
use Rattle.sqlite_trees.specs.View.{IsClean}
use Rattle.sqlite_store.specs.declared.store.FileStore.{FileStore}
use Rattle.sqlite_store.specs.FileStore.{view, recovers, files}
use Rattle.osb_frames.specs.declared.limits.Limits.{Limits}
use Rattle.osb_frames.specs.declared.limits.TheConstants.{MOST_HEAD, MOST_FIELDS, MOST_BODY}
use Rattle.osb_catalog.specs.Rules.{Rules}
use Rattle.osb_orders.specs.Lives.{Lives}
use Rattle.osb_file.specs.File.{AreLivesOf, HasTrees}
use Rattle.osb_broker.specs.Exchanges.{Exchange, AreExchanges, AreRuns, all_exchanges}
use Rattle.osb_broker.specs.Served.{AreStandard}
use Rattle.osb_listen.specs.Held.{LeavesFile, Serving}
use Rattle.osb_listen.proofs.ExchangeLemmas.{standard}
use Rattle.osb_restart.specs.Runs.{HoldsSome, Leads}
use Rattle.osb_restart.proofs.StopLemmas.{images_hold}

-- ---- the standard limits are one

abbrev limits_of : (head fields body : ℕ) → 0 < head → head ≤ MOST_HEAD → fields ≤ MOST_FIELDS → body ≤ MOST_BODY → Limits
limits_of head fields body some of_head of_fields of_body =
    record { head = head; fields = fields; body = body; has_head = some; head_is_standard = of_head; fields_are_standard = of_fields; body_is_standard = of_body }

same_numbers : (h f b : ℕ) (s s2 : 0 < h) (p p2 : h ≤ MOST_HEAD) (q q2 : f ≤ MOST_FIELDS) (r r2 : b ≤ MOST_BODY) → limits_of h f b s p q r ≡ limits_of h f b s2 p2 q2 r2
same_numbers h f b s s2 p p2 q q2 r r2 =
    ap (λ x. limits_of h f b x p q r) (le_prop s s2) ∙ ap (λ x. limits_of h f b s2 x q r) (le_prop p p2)
    ∙ ap (λ x. limits_of h f b s2 p2 x r) (le_prop q q2) ∙ ap (λ x. limits_of h f b s2 p2 q2 x) (le_prop r r2)

same_limits : (a b : Limits) → a.head ≡ b.head → a.fields ≡ b.fields → a.body ≡ b.body → a ≡ b
same_limits a b heads fields bodies =
    subst (λ h. (s : 0 < h) (p : h ≤ MOST_HEAD) → a ≡ limits_of h b.fields b.body s p b.fields_are_standard b.body_is_standard) heads
    (subst (λ f. (q : f ≤ MOST_FIELDS) (s : 0 < a.head) (p : a.head ≤ MOST_HEAD) → a ≡ limits_of a.head f b.body s p q b.body_is_standard) fields
    (subst (λ d. (r : d ≤ MOST_BODY) (q : a.fields ≤ MOST_FIELDS) (s : 0 < a.head) (p : a.head ≤ MOST_HEAD) → a ≡ limits_of a.head a.fields d s p q r) bodies
    (λ r q s p. same_numbers a.head a.fields a.body a.has_head s a.head_is_standard p a.fields_are_standard q a.body_is_standard r) b.body_is_standard) b.fields_are_standard) b.has_head b.head_is_standard

standard_once : (limits : Limits) → AreStandard limits → limits ≡ standard.0
standard_once limits are =
    same_limits limits standard.0 (are.0 ∙ sym standard.1.0) (are.1 ∙ sym standard.1.1) (are.2 ∙ sym standard.1.2)

-- ---- one episode more

module _ (rules : Rules) (limits : Limits) (k : ℕ) where
  runs_more : (old : Lives) (runs : List (List Exchange)) (mid : Lives) (exchanges : List Exchange) (new : Lives) → AreRuns rules limits k old runs mid → AreExchanges rules limits k mid exchanges new
      → AreRuns rules limits k old (runs ++ exchanges ∷ []) new
  runs_more old [] mid exchanges new same then =
      (new, subst (λ (s : Lives). AreExchanges rules limits k s exchanges new) same then, refl)
  runs_more old (first ∷ runs) mid exchanges new (between, one, before) then =
      (between, one, runs_more between runs mid exchanges new before then)

pub all_more : (runs : List (List Exchange)) (exchanges : List Exchange) → all_exchanges (runs ++ exchanges ∷ []) ≡ all_exchanges runs ++ exchanges
all_more [] exchanges = append-nil exchanges
all_more (first ∷ runs) exchanges =
    ap (λ later. first ++ later) (all_more runs exchanges) ∙ sym (append_assoc first (all_exchanges runs) exchanges)

-- ---- a run, and runs

pub holds_old : (rules : Rules) (k : ℕ) (image : Image) (db : Trees) (old : Lives) → HasTrees image db → AreLivesOf db old → HoldsSome image (λ new. AreRuns rules standard.0 k old [] new)
holds_old rules k image db old has are = ∣ (db, has, old, are, refl) ∣₁

pub lived_more : (rules : Rules) (k : ℕ) (old : Lives) (runs : List (List Exchange)) (exchanges : List Exchange) (mid new : Image)
    → HoldsSome mid (λ lives. AreRuns rules standard.0 k old runs lives) → Leads rules k mid exchanges new
    → HoldsSome new (λ lives. AreRuns rules standard.0 k old (runs ++ exchanges ∷ []) lives)
lived_more rules k old runs exchanges mid new so_far lead =
    ∥∥₁_elim so_far ∥∥₁_prop (λ at.
    ∥∥₁_map (lead at.0 at.1 at.2 at.3) (λ it.
    let said = subst (λ (l : Limits). AreExchanges rules l k at.2 exchanges it.2) (standard_once it.4.0 it.4.1) it.4.2 in
    (it.0, it.1, it.2, it.3, runs_more rules standard.0 k old runs at.2 exchanges it.2 at.4 said)))

-- a run that ended, and what a stop leaves of its files
pub leads : {D : Type 0} {g : Ghosts D} (rules : Rules) (k : ℕ) (existing : Bool) (serving : Serving) (was : Image) (now : State) (last : FileStore D g) (log db : D) (image : Image)
    → (log, db) ≡ files last → AreClean g log db → outcomes g log db image → (IsClean (view last) → IsTrue (view last).is_numbered) → (IsClean (view last) → AreDatabases (recovers last))
    → ((trees : Trees) → recovers last trees → now.may_leave trees) → HasCleanDisk now → ((trees : Trees) → HasTrees was trees → LeavesFile rules k existing trees serving now)
    → Leads rules k was serving.exchanges image
leads rules k existing serving was now last log db image same clean left numbered sound outcome now_clean leaves trees has old are =
    ∥∥₁_map (images_hold last log db same clean image left numbered sound) (λ found.
    let lead = (leaves trees has).crash now_clean old are found.0 (outcome found.0 found.1) in
    (found.0, inl found.2, lead.lives, lead.are_in, (lead.limits, lead.standard, lead.lead)))
