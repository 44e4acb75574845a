-- Requests that are decided one after the other, and whose changes are made in one transaction.
use Rattle.std.proofs.Common.{◌≡◌, ◌≢◌, ◌∙◌, ℕ, zero, suc, ◌<◌, ◌≤◌, ◌+◌, ◌==◌, ◌||◌, get_or, inl, inr, Bool, true, false, not, bytes_eq, List, [], ◌∷◌, ◌++◌, length, map, take, drop, vec_items, Option, None, Some, unwrap_or, if◌then◌else◌, Result, Ok, Err, OnErr, IfOk, MatchResult, IsTrue, sym, refl, ap, subst, arith}
use Rattle.std.specs.Global.{Vec}
use Rattle.std.specs.Ordering.{nat_cmp, eq_by_cmp}
use Rattle.std.specs.Cmp.Lexicographic.{slice_cmp, nat_list_cmp_total}
use Rattle.std.specs.FinMap.{get, insert, get-insert}
use Rattle.std.proofs.lemmas.Map.Text.{is_eq-slice_cmp}
use Rattle.std.specs.List.{concat, list_all, AllByRecursion}
use Rattle.std.proofs.lemmas.Bool.{and_parts, ne_eqb, true≢false}
use Rattle.std.proofs.lemmas.Slice.Eq.{bytes_eq-Decides}
use Rattle.std.proofs.lemmas.List.{append-nil, append_assoc, drop-drop, length-drop, map-append, nil_from_length, take_all}
use Rattle.std.proofs.Math.Seq.{take-add}
use Rattle.sqlite.specs.Tree.{Trees}
use Rattle.sqlite.specs.Held.{Held, state}
use Rattle.sqlite.specs.State.{State, HasCleanDisk, Survives}
use Rattle.sqlite.proofs.StateLemmas.{survives_then, survives_weaker}
use Rattle.sqlite_trees.specs.declared.store.Store.{Ghosts}
use Rattle.osb_frames.specs.declared.limits.Limits.{Limits}
use Rattle.osb_frames.specs.Cuts as cut
use Rattle.osb_frames.specs.Cuts.{Message, closes, fault, whole, IsFront, empty, End, ended, closed}
use Rattle.osb_frames.proofs.FrontLemmas.{front_unique}
use Rattle.osb_replies.specs.Parts.{refused}
use Rattle.osb_replies.specs.Text.{ReplyParts, reply_text}
use Rattle.osb_catalog.specs.Rules.{Rules}
use Rattle.osb_asks.specs.Asks.{ask_of}
use Rattle.osb_orders.specs.declared.order.Change.{Change}
use Rattle.osb_orders.specs.declared.order.Change.TheVariants.{Nothing, Append, Finish}
use Rattle.osb_orders.specs.Life.{Life}
use Rattle.osb_orders.specs.Lives.{Lives, life_of}
use Rattle.osb_orders.specs.Changed.{lives_changed}
use Rattle.osb_orders.specs.IsLife.{IsLives}
use Rattle.osb_laws.proofs.MapLemmas.{answers_apart}
use Rattle.osb_records.specs.declared.change.LifeChange.{LifeChange}
use Rattle.osb_records.specs.Changes.{all_changed, AllCanBeMade, CanBeMade, ChangesSomething}
use Rattle.osb_records.specs.Commit.{Commits}
use Rattle.osb_records.specs.CrashLeaves.{KeepsLives}
use Rattle.osb_records.proofs.ChangesLemmas.{changed_more}
use Rattle.osb_statements.specs.Steps.{HoldsLives, LeavesOnly, stored}
use Rattle.osb_broker.specs.declared.groups.Group.{Group}
use Rattle.osb_broker.specs.declared.prepared.Prepared.{Prepared}
use Rattle.osb_broker.specs.BrokerState.{IsShut, LivesGo, Works}
use Rattle.osb_broker.specs.Connection.{Run}
use Rattle.osb_broker.specs.Crashes.{LeavesLives, LostAnswer, RunOrLost, ServedOrLost}
use Rattle.osb_broker.specs.Groups.{AreAnswered, Decides, HasAll, IsGroup, IsOfAnother, Joins, NoneFollows}
use Rattle.osb_broker.specs.Inside.{AreAnsweredAlike, EachStays, GivesPrepared, IsOfInstance, LivesStay, ServesEach, ServesMore, Worked}
use Rattle.osb_broker.specs.Machine.{Answered, Machine, reply_of}
use Rattle.osb_broker.specs.Prepared.{after_pending, answer_parts, IsApplicable}
use Rattle.osb_broker.specs.Served.{RunServed, Served}
use Rattle.osb_broker.specs.Steps.{capped, machine, needs_lives}
use Rattle.osb_broker.proofs.CrashLemmas.{leaves_next, leaves_stored, leaves_weaker}
use Rattle.osb_broker.proofs.LostLemmas.{shown_run}
use Rattle.osb_broker.proofs.OneByOne.{TextTo, GoesOn, ends, faults, answers, OneByOne}
use Rattle.osb_broker.proofs.OneByOneLemmas.{alone, at_nothing, in_front, one_by_one, text_of_request}
use Rattle.osb_broker.proofs.StoreLemmas.{survives_same}
use Rattle.osb_broker.proofs.WholeLemmas.{taken_next}
use Rattle.osb_broker.proofs.ShutLemmas.{go_through, is_shut, lives_stay, not_touched, worked_then}

-- ---- changes of other instances

stays_put : (lives : Lives) (at id : List ℕ) (life : Life) → id ≢ at → life_of (insert lives at life) id ≡ life_of lives id
stays_put lives at id life differ = ap (λ (found : Option Life). unwrap_or found []) (get-insert nat_list_cmp_total lives at life id) ∙ by (eq_by_cmp (slice_cmp nat_cmp) id at) refl
  where
    by : (b : Bool) → eq_by_cmp (slice_cmp nat_cmp) id at ≡ b → unwrap_or (if b then Some life else get lives id) [] ≡ life_of lives id
    by false e = refl
    by true e = absurd (differ ((bytes_eq-Decides id at).0 (sym (is_eq-slice_cmp id at) ∙ e)))

of_another : (change : Change) (at id : List ℕ) (lives : Lives) → at ≢ id → life_of (lives_changed change at lives) id ≡ life_of lives id
of_another Nothing at id lives differ = refl
of_another (Append order) at id lives differ = stays_put lives at id _ (λ e. differ (sym e))
of_another (Finish number outcome) at id lives differ = stays_put lives at id _ (λ e. differ (sym e))

all_of_others : (changes : List LifeChange) (one : LifeChange) (lives : Lives) → IsOfAnother one changes → life_of (all_changed changes lives) one.instance ≡ life_of lives one.instance
all_of_others [] one lives others = refl
all_of_others (first ∷ changes) one lives others =
    all_of_others changes one (lives_changed first.change first.instance lives) others.1 ∙ of_another first.change first.instance one.instance lives others.0

-- ---- a request that is decided

-- what it is answered, and its change, from all lives that have the same life of its instance
pub decides : {S E : Type 0} (g : Ghosts S) (rules : Rules) (q : Message) (last : Bool) (old new : Held S) (prepared : Prepared) (one : LifeChange) (text : List ℕ) → GivesPrepared {E = E} g rules (ask_of rules q) old new (Ok prepared) → prepared.pending ≡ Some one → text ≡ reply_text (reply_of q last (answer_parts prepared.answer))
    → Works (state g old) → HasCleanDisk (state g new) → Decides rules q last (stored (state g old)) text one
decides g rules q last old new prepared one text gives some is works clean others formed same =
    let names : IsOfInstance (ask_of rules q) (Some one) = subst (IsOfInstance (ask_of rules q)) some gives.names in
    let alike : AreAnsweredAlike rules (ask_of rules q) (stored (state g old)) others =
    subst (λ asked. AreAnsweredAlike rules asked (stored (state g old)) others) (sym names.1) (answers_apart rules others (stored (state g old)) names.0 one.instance names.2 same) in
    let prepares = gives.alike works clean others formed alike in (
      is ∙ ap (λ answer. reply_text (reply_of q last answer)) prepares.answer,
      sym (ap (λ pending. after_pending pending others) some) ∙ prepares.lives_are,
      subst (λ pending. IsApplicable pending others) some prepares.allowed,
    )

-- it needs the lives, so the store was open
pub decides_open : {S E : Type 0} (g : Ghosts S) (rules : Rules) (q : Message) (old new : Held S) (prepared : Prepared) (one : LifeChange) → GivesPrepared {E = E} g rules (ask_of rules q) old new (Ok prepared) → prepared.pending ≡ Some one → HasCleanDisk (state g new) → IsTrue (state g old).is_open
decides_open g rules q old new prepared one gives some clean = by (needs_lives (ask_of rules q)) refl
  where
    by : (needs : Bool) → needs_lives (ask_of rules q) ≡ needs → IsTrue (state g old).is_open
    by true e = gives.was_open clean e
    by false e = let none : Some one ≡ None = sym some ∙ gives.silent e in cc

-- ---- a group

pub no_group : (rules : Rules) (limits : Limits) (k : ℕ) (lives : Lives) → IsLives lives → IsGroup rules limits k lives [] [] []
no_group rules limits k lives formed = record { answered = refl; made = tt; some = tt; whole = formed }

answered_more : (rules : Rules) (limits : Limits) (k : ℕ) (old mid : Lives) (connections texts : List (List ℕ)) (bytes text : List ℕ) (q : Message) (n : ℕ) → AreAnswered rules limits k old connections texts mid → IsFront limits bytes (whole q n) → NoneFollows k n bytes → text ≡ reply_text (reply_of q (k == 1) ((machine rules).step mid q).0)
    → AreAnswered rules limits k old (connections ++ bytes ∷ []) (texts ++ text ∷ []) ((machine rules).step mid q).1
answered_more rules limits k old mid [] [] bytes text q n is front last says =
    (q, n, front, last, subst (λ s. text ≡ reply_text (reply_of q (k == 1) ((machine rules).step s q).0)) is says, ap (λ s. ((machine rules).step s q).1) is)
answered_more rules limits k old mid (one ∷ connections) (other ∷ texts) bytes text q n (r, m, at, behind, told, is) front last says =
    (r, m, at, behind, told, answered_more rules limits k ((machine rules).step old r).1 mid connections texts bytes text q n is front last says)
answered_more rules limits k old mid [] (other ∷ texts) bytes text q n is front last says = absurd is
answered_more rules limits k old mid (one ∷ connections) [] bytes text q n is front last says = absurd is

made_more : (changes : List LifeChange) (one : LifeChange) (lives : Lives) → AllCanBeMade changes lives → CanBeMade one (all_changed changes lives) → AllCanBeMade (changes ++ one ∷ []) lives
made_more [] one lives all here = (here, tt)
made_more (first ∷ changes) one lives all here = (all.0, made_more changes one (lives_changed first.change first.instance lives) all.1 here)

pub some_more : (changes : List LifeChange) (one : LifeChange) → AllByRecursion ChangesSomething changes → ChangesSomething one → AllByRecursion ChangesSomething (changes ++ one ∷ [])
some_more [] one all here = (here, tt)
some_more (first ∷ changes) one all here = (all.0, some_more changes one all.1 here)

-- with one connection more
module _ (rules : Rules) (limits : Limits) (k : ℕ) (lives : Lives) (connections : List (List ℕ)) (bytes : List ℕ) (old new : Group)
    (group : IsGroup rules limits k lives connections (map vec_items old.outputs.items) old.changes.items) (joins : Joins rules limits k lives bytes old new) where
  abbrev one : LifeChange
  one = joins.one

  abbrev before : List LifeChange
  before = old.changes.items

  abbrev mid : Lives
  mid = all_changed before lives

  abbrev after : Lives
  after = ((machine rules).step mid joins.q).1

  abbrev Grown : List LifeChange → Type 0
  Grown changes = IsGroup rules limits k lives (connections ++ bytes ∷ []) (map vec_items new.outputs.items) changes

  decided : (joins.output.items ≡ reply_text (reply_of joins.q (k == 1) ((machine rules).step mid joins.q).0)) × (lives_changed one.change one.instance mid ≡ after) × CanBeMade one mid
  decided = joins.decides mid group.whole (all_of_others before one lives joins.apart)

  outputs : map vec_items new.outputs.items ≡ map vec_items old.outputs.items ++ joins.output.items ∷ []
  outputs = ap (map vec_items) joins.outputs ∙ map-append vec_items old.outputs.items (joins.output ∷ [])

  answered : AreAnswered rules limits k lives (connections ++ bytes ∷ []) (map vec_items new.outputs.items) after
  answered = subst (λ l. AreAnswered rules limits k lives (connections ++ bytes ∷ []) l after) (sym outputs) (answered_more rules limits k lives mid connections _ bytes _ joins.q joins.n group.answered joins.front joins.last decided.0)

  changes_nothing : one.change ≡ Nothing → Grown new.changes.items
  changes_nothing e =
      let same : new.changes.items ≡ before = joins.none e in
      let still : mid ≡ after = sym (ap (λ c. lives_changed c one.instance mid) e) ∙ decided.1 in
      subst Grown (sym same) (record {
        answered = subst (AreAnswered rules limits k lives (connections ++ bytes ∷ []) (map vec_items new.outputs.items)) (sym still) answered;
        made = group.made;
        some = group.some;
        whole = group.whole;
      })

  changes_it : ChangesSomething one → Grown new.changes.items
  changes_it differs =
      let grown : new.changes.items ≡ before ++ one ∷ [] = joins.some differs in
      let leads : all_changed (before ++ one ∷ []) lives ≡ lives_changed one.change one.instance mid = changed_more before one lives in
      subst Grown (sym grown) (record {
        answered = subst (AreAnswered rules limits k lives (connections ++ bytes ∷ []) (map vec_items new.outputs.items)) (sym (leads ∙ decided.1)) answered;
        made = made_more before one lives group.made decided.2;
        some = some_more before one group.some differs;
        whole = subst IsLives (sym leads) decided.2.0;
      })

  by_change : (c : Change) → one.change ≡ c → Grown new.changes.items
  by_change Nothing e = changes_nothing e
  by_change (Append order) e = changes_it (λ none. let no : Append order ≡ Nothing = sym e ∙ none in cc)
  by_change (Finish number outcome) e = changes_it (λ none. let no : Finish number outcome ≡ Nothing = sym e ∙ none in cc)

  pub group_more : Grown new.changes.items
  group_more = by_change one.change refl

-- the next of these connections is behind those before it
pub asked_next : (connections : List (Vec ℕ)) (i : ℕ) (connection : Vec ℕ) → i < length connections → connection ≡ get_or connections i connection → map vec_items (take (i + 1) connections) ≡ map vec_items (take i connections) ++ connection.items ∷ []
asked_next connections i connection low at = ap (map vec_items) (taken_next connections i connection low at) ∙ map-append vec_items (take i connections) (connection ∷ [])

-- connections that were done, and the first so many of the rest
module _ (connections : List (Vec ℕ)) (done count : ℕ) (rest : List (Vec ℕ)) (is : rest ≡ drop done connections) where
  pub rest_next : drop count rest ≡ drop (done + count) connections
  rest_next = ap (drop count) is ∙ drop-drop count done connections

  pub asked_so_far : map vec_items (take (done + count) connections) ≡ map vec_items (take done connections) ++ map vec_items (take count rest)
  asked_so_far = ap (map vec_items) (take-add done count connections) ∙ map-append vec_items (take done connections) (take count (drop done connections)) ∙ ap (λ l. map vec_items (take done connections) ++ map vec_items (take count l)) (sym is)

pub all_done : (connections : List (Vec ℕ)) (done : ℕ) → drop done connections ≡ [] → take done connections ≡ connections
all_done connections done none = take_all done connections (omega (arith, ap length none, length-drop done connections))

-- with the next of these connections
pub group_on : (rules : Rules) (limits : Limits) (k : ℕ) (lives : Lives) (connections : List (Vec ℕ)) (i : ℕ) (connection : Vec ℕ) (old new : Group) → i < length connections → connection ≡ get_or connections i connection
    → IsGroup rules limits k lives (map vec_items (take i connections)) (map vec_items old.outputs.items) old.changes.items → Joins rules limits k lives connection.items old new
    → IsGroup rules limits k lives (map vec_items (take (i + 1) connections)) (map vec_items new.outputs.items) new.changes.items
group_on rules limits k lives connections i connection old new low at group joins =
    subst (λ l. IsGroup rules limits k lives l (map vec_items new.outputs.items) new.changes.items)
    (sym (asked_next connections i connection low at))
    (group_more rules limits k lives (map vec_items (take i connections)) connection.items old new group joins)

-- one read after another leaves the lives
pub stays_on : {old mid new : State} → LivesStay old mid → LivesStay mid new → LivesStay old new
stays_on {old} {mid} {new} first second = record {
  works = λ works. first.works (second.works works);
  same = λ works. second.same works ∙ first.same (second.works works);
  crash = survives_then old mid new _ _ _ (λ _ db none. none) (λ _ db none. none) first.crash second.crash;
}

-- what leaves the lives works with the store
pub stays_worked : {old new : State} → LivesStay old new → Worked old new
stays_worked {old} {new} stays = record {
  works = stays.works;
  clean = λ clean. omega (arith, stays.crash.clean);
  crash = survives_weaker old new _ _ (λ _ db none. absurd none) stays.crash;
}

pub stays_here : {s : State} → LivesStay s s
stays_here {s} = record { works = λ works. works; same = λ works. refl; crash = survives_same s _ }

-- none of them is of this instance
pub of_others : (changes : List LifeChange) (id : List ℕ) → list_all (λ (one : LifeChange). not (bytes_eq one.instance id)) changes ≡ true → AllByRecursion (λ (one : LifeChange). one.instance ≢ id) changes
of_others [] id all = tt
of_others (one ∷ changes) id all =
    let both = and_parts (not (bytes_eq one.instance id)) _ all in
    ((λ same. true≢false (sym both.0 ∙ ap not ((bytes_eq-Decides one.instance id).1 same))), of_others changes id both.1)

-- ---- what it comes to

-- no byte is behind the last
pub none_behind : (n : ℕ) (bytes : List ℕ) → length bytes ≤ n → drop n bytes ≡ []
none_behind n bytes last = nil_from_length (drop n bytes) (omega (arith, last, length-drop n bytes))

module _ (rules : Rules) (limits : Limits) where
  -- a connection on which one request is answered, and others might come that don't
  one_of_more : (k : ℕ) (lives : Lives) (bytes : List ℕ) (q : Message) (n : ℕ) → IsFront limits bytes (whole q n) → length bytes ≤ n → (shut : Bool) → closes q ≡ shut
      → (end : End) × TextTo (capped rules) limits (suc (suc k)) lives bytes (false ∷ []) (reply_text (reply_of q (suc k == 0) ((machine rules).step lives q).0) ∷ []) end ((machine rules).step lives q).1
  one_of_more k lives bytes q n front last true shut = (closed, alone (capped rules) limits (suc k) lives bytes q n front (ap (λ c. c || (suc k == 0)) shut))
  one_of_more k lives bytes q n front last false shut =
      let none : IsFront limits (drop n bytes) cut.nothing = empty (none_behind n bytes last) refl in
      (ended, in_front (capped rules) limits (suc k) lives bytes q n [] [] ended ((machine rules).step lives q).1 front shut (at_nothing (capped rules) limits k ((machine rules).step lives q).1 (drop n bytes) none))

  one_served : (k : ℕ) (lives : Lives) (bytes text : List ℕ) (q : Message) (n : ℕ) → IsFront limits bytes (whole q n) → NoneFollows k n bytes → text ≡ reply_text (reply_of q (k == 1) ((machine rules).step lives q).0) → Served (capped rules) limits k lives bytes [] text ((machine rules).step lives q).1
  one_served k lives bytes text q n front (inl one) says =
      let reply = reply_of q true ((machine rules).step lives q).0 in
      let told : text ≡ reply_text reply = says ∙ ap (λ j. reply_text (reply_of q (j == 1) ((machine rules).step lives q).0)) one in
      subst (λ j. Served (capped rules) limits j lives bytes [] text ((machine rules).step lives q).1) (sym one) (record {
        marks = false ∷ [];
        texts = reply_text reply ∷ [];
        is = text_of_request (capped rules) limits lives bytes q n false reply ((machine rules).step lives q).1 front (refl, refl);
        written = told ∙ sym (append-nil (reply_text reply));
      })
  one_served (suc (suc k)) lives bytes text q n front (inr (more, last)) says =
      let said : Bool → List ℕ = λ last. reply_text (reply_of q last ((machine rules).step lives q).0) in
      let same : (suc (suc k) == 1) ≡ (suc k == 0) = ne_eqb (suc (suc k)) 1 (omega arith) ∙ sym (ne_eqb (suc k) 0 (omega arith)) in
      record {
        marks = false ∷ [];
        texts = said (suc k == 0) ∷ [];
        is = (one_of_more k lives bytes q n front last (closes q) refl).1.0;
        written = says ∙ ap said same ∙ sym (append-nil (said (suc k == 0)));
      }
  one_served (suc zero) lives bytes text q n front (inr (more, last)) says = absurd (one_is_not_more more)
    where
      one_is_not_more : suc zero < suc zero → ⊥
      one_is_not_more more = omega (arith, more)
  one_served zero lives bytes text q n front (inr (more, last)) says = absurd (none_is_not_more more)
    where
      none_is_not_more : suc zero < zero → ⊥
      none_is_not_more more = omega (arith, more)

pub answered_run : (rules : Rules) (limits : Limits) (k : ℕ) (old : Lives) (connections texts : List (List ℕ)) (new : Lives) → AreAnswered rules limits k old connections texts new → RunServed (capped rules) limits k old connections texts new
answered_run rules limits k old [] [] new is = record { marks = []; texts = []; is = is; written = refl }
answered_run rules limits k old (bytes ∷ connections) (text ∷ texts) new (q, n, front, last, says, is) =
    let one = one_served rules limits k old bytes text q n front last says in
    let more = answered_run rules limits k ((machine rules).step old q).1 connections texts new is in
    record {
      marks = one.marks ∷ more.marks;
      texts = one.texts ∷ more.texts;
      is = (_, one.is, more.is);
      written = ap (λ l. l ∷ texts) one.written ∙ ap (λ l. concat one.texts ∷ l) more.written;
    }
answered_run rules limits k old [] (text ∷ texts) new is = absurd is
answered_run rules limits k old (bytes ∷ connections) [] new is = absurd is

module _ (rules : Rules) (limits : Limits) where
  -- what was answered where one request is: the fixed 500, and the lives stay, or the machine's reply
  pub record OneAnswer (k : ℕ) (lives : Lives) (texts : List (List ℕ)) (q : Message) (new : Lives) : Type 0 where
    pub mark : Bool
    pub reply : ReplyParts
    pub answered : Answered (capped rules) q (k == 0) mark lives reply new
    pub says : texts ≡ reply_text reply ∷ []

  -- nothing is answered of no bytes
  nothing_more : (k : ℕ) (lives : Lives) (bytes : List ℕ) (marks : List Bool) (texts : List (List ℕ)) (new : Lives) → bytes ≡ [] → OneByOne (capped rules) limits k lives bytes marks texts new → (texts ≡ []) × (new ≡ lives)
  nothing_more zero lives bytes marks texts new none done = (done.1, done.2)
  nothing_more (suc k) lives bytes marks texts new none (ends at done) = (done.1, done.2)
  nothing_more (suc k) lives bytes marks texts new none (faults f at a b c) = let same = front_unique limits bytes (fault f) cut.nothing at (empty none refl) in cc
  nothing_more (suc k) lives bytes marks texts new none (answers mark text close u later ma ta one em ex goes) = let same = front_unique limits bytes (whole one.q one.n) cut.nothing one.front (empty none refl) in cc

  pub one_answer : (k : ℕ) (lives : Lives) (bytes : List ℕ) (marks : List Bool) (texts : List (List ℕ)) (new : Lives) (q : Message) (n : ℕ) → IsFront limits bytes (whole q n) → NoneFollows (suc k) n bytes → OneByOne (capped rules) limits (suc k) lives bytes marks texts new → OneAnswer k lives texts q new
  one_answer k lives bytes marks texts new q n front last (ends at done) = let same = front_unique limits bytes cut.nothing (whole q n) at front in cc
  one_answer k lives bytes marks texts new q n front last (faults f at a b c) = let same = front_unique limits bytes (fault f) (whole q n) at front in cc
  one_answer k lives bytes marks texts new q n front last (answers mark text close u later ma ta one em ex goes) =
      let same = front_unique limits bytes (whole one.q one.n) (whole q n) one.front front in
      let is : one.q ≡ q = cc in
      let so_many : one.n ≡ n = cc in
      let behind = done_behind close (one.after ∙ ap (λ l. drop l bytes) so_many) goes in
      record {
        mark = mark;
        reply = one.reply;
        answered = subst (λ v. Answered (capped rules) q (k == 0) mark lives one.reply v) (sym behind.1) (subst (λ r. Answered (capped rules) r (k == 0) mark lives one.reply u) is one.answered);
        says = ex ∙ ap (λ l. text ∷ l) behind.0 ∙ ap (λ l. l ∷ []) one.says;
      }
    where
      done_behind : (close : Bool) → later ≡ drop n bytes → GoesOn close (OneByOne (capped rules) limits k u later) u ma ta new → (ta ≡ []) × (new ≡ u)
      done_behind true is done = (done.1, done.2)
      done_behind false is more = by last
        where
          by : NoneFollows (suc k) n bytes → (ta ≡ []) × (new ≡ u)
          by (inl only) = let none : k ≡ 0 = omega (arith, only) in let done = subst (λ j. OneByOne (capped rules) limits j u later ma ta new) none more in (done.1, done.2)
          by (inr (some, short)) = nothing_more k u later ma ta new (is ∙ none_behind n bytes short) more

-- A request of which the output is one that any lives may have, and which leaves them: it was carried out, and its answer
-- was lost, or it changes nothing.
lost_one : (rules : Rules) (limits : Limits) (k : ℕ) (lives : Lives) (bytes output : List ℕ) (q : Message) (n : ℕ) → IsFront limits bytes (whole q n) → NoneFollows (suc k) n bytes → Served (capped rules) limits (suc k) lives bytes [] output lives → ServedOrLost (capped rules) limits (suc k) lives bytes [] output ((machine rules).step lives q).1
lost_one rules limits k lives bytes output q n front last served = by it.mark it.answered
  where
    after : Lives
    after = ((machine rules).step lives q).1

    it : OneAnswer rules limits k lives served.texts q lives
    it = one_answer rules limits k lives bytes served.marks served.texts lives q n front last (one_by_one (capped rules) limits (suc k) lives bytes served.marks served.texts lives served.is)

    lost : served.texts ≡ reply_text refused ∷ [] → LostAnswer (Ok tt) (capped rules) limits (suc k) lives bytes [] output lives after
    lost told = record {
      requests = [];
      held = bytes;
      past = refl;
      fewer = omega arith;
      q = q;
      n = n;
      front = front;
      takes_memory = refl;
      count = length (reply_text refused);
      whole = refl;
      written = served.written ∙ ap concat told ∙ append-nil (reply_text refused) ∙ sym (take_all (length (reply_text refused)) (reply_text refused) (omega arith));
      answered = refl;
      leaves = refl;
    }

    by : (mark : Bool) → Answered (capped rules) q (k == 0) mark lives it.reply lives → ServedOrLost (capped rules) limits (suc k) lives bytes [] output after
    by true answered = record { shown = lives; served = served; is = inr (lost (it.says ∙ ap (λ p. reply_text p ∷ []) answered.1)) }
    by false answered = record { shown = lives; served = served; is = inl (sym answered.1) }

-- all of a group were carried out, and their answers were lost
all_lost : (rules : Rules) (limits : Limits) (k : ℕ) (old : Lives) (connections texts outputs : List (List ℕ)) (new : Lives) → AreAnswered rules limits (suc k) old connections texts new → EachStays (capped rules) limits (suc k) connections outputs → RunOrLost (capped rules) limits (suc k) old connections outputs new
all_lost rules limits k old [] [] [] new is stays = is
all_lost rules limits k old (bytes ∷ connections) (text ∷ texts) (output ∷ outputs) new (q, n, front, last, says, is) stays =
    (_, lost_one rules limits k old bytes output q n front last (stays.0 old), all_lost rules limits k ((machine rules).step old q).1 connections texts outputs new is stays.1)
all_lost rules limits k old [] (text ∷ texts) outputs new is stays = absurd is
all_lost rules limits k old (bytes ∷ connections) [] outputs new is stays = absurd is
all_lost rules limits k old [] [] (output ∷ outputs) new is stays = absurd stays
all_lost rules limits k old (bytes ∷ connections) (text ∷ texts) [] new is stays = absurd stays

-- ---- connections, and others after them

run_then : {S : Type 0} (m : Machine S) (limits : Limits) (k : ℕ) (s : S) (cs : List (List ℕ)) (ms : List (List Bool)) (xs : List (List (List ℕ))) (u : S) (ds : List (List ℕ)) (ns : List (List Bool)) (ys : List (List (List ℕ))) (t : S) → Run m limits k s cs ms xs u → Run m limits k u ds ns ys t → Run m limits k s (cs ++ ds) (ms ++ ns) (xs ++ ys) t
run_then m limits k s [] [] [] u ds ns ys t is more = subst (λ v. Run m limits k v ds ns ys t) is more
run_then m limits k s (c ∷ cs) (mark ∷ ms) (x ∷ xs) u ds ns ys t (v, first, is) more = (v, first, run_then m limits k v cs ms xs u ds ns ys t is more)
run_then m limits k s [] [] (x ∷ xs) u ds ns ys t is more = absurd is
run_then m limits k s [] (mark ∷ ms) xs u ds ns ys t is more = absurd is
run_then m limits k s (c ∷ cs) [] xs u ds ns ys t is more = absurd is
run_then m limits k s (c ∷ cs) (mark ∷ ms) [] u ds ns ys t is more = absurd is

served_then : {S : Type 0} (m : Machine S) (limits : Limits) (k : ℕ) (s : S) (cs os : List (List ℕ)) (u : S) (ds ps : List (List ℕ)) (t : S) → RunServed m limits k s cs os u → RunServed m limits k u ds ps t → RunServed m limits k s (cs ++ ds) (os ++ ps) t
served_then m limits k s cs os u ds ps t first second = record {
  marks = first.marks ++ second.marks;
  texts = first.texts ++ second.texts;
  is = run_then m limits k s cs first.marks first.texts u ds second.marks second.texts t first.is second.is;
  written = ap (λ l. l ++ ps) first.written ∙ ap (λ l. map concat first.texts ++ l) second.written ∙ sym (map-append concat first.texts second.texts);
}

lost_then : {S : Type 0} (m : Machine S) (limits : Limits) (k : ℕ) (s : S) (cs os : List (List ℕ)) (u : S) (ds ps : List (List ℕ)) (t : S) → RunOrLost m limits k s cs os u → RunOrLost m limits k u ds ps t → RunOrLost m limits k s (cs ++ ds) (os ++ ps) t
lost_then m limits k s [] [] u ds ps t is more = subst (λ v. RunOrLost m limits k v ds ps t) is more
lost_then m limits k s (c ∷ cs) (o ∷ os) u ds ps t (v, first, is) more = (v, first, lost_then m limits k v cs os u ds ps t is more)
lost_then m limits k s [] (o ∷ os) u ds ps t is more = absurd is
lost_then m limits k s (c ∷ cs) [] u ds ps t is more = absurd is

stays_then : (m : Machine Lives) (limits : Limits) (k : ℕ) (cs os ds ps : List (List ℕ)) → EachStays m limits k cs os → EachStays m limits k ds ps → EachStays m limits k (cs ++ ds) (os ++ ps)
stays_then m limits k [] [] ds ps first second = second
stays_then m limits k (c ∷ cs) (o ∷ os) ds ps first second = (first.0, stays_then m limits k cs os ds ps first.1 second)
stays_then m limits k [] (o ∷ os) ds ps first second = absurd first
stays_then m limits k (c ∷ cs) [] ds ps first second = absurd first

pub serves_then : {S : Type 0} {g : Ghosts S} {m : Machine Lives} {limits : Limits} {k : ℕ} {cs os ds ps : List (List ℕ)} {old mid new : Held S} → ServesEach g m limits k cs os old mid → ServesEach g m limits k ds ps mid new → ServesEach g m limits k (cs ++ ds) (os ++ ps) old new
serves_then {g = g} {m = m} {limits = limits} {k = k} {cs = cs} {os = os} {ds = ds} {ps = ps} {old = old} {mid = mid} {new = new} first second = record {
  served = λ before after go.
      let through = go_through first.worked second.worked before after go in
      served_then m limits k before cs os through.0 ds ps after (first.served before through.0 through.1) (second.served through.0 after through.2);
  stays = λ clean shut.
      let clean_mid = second.worked.clean clean in
      stays_then m limits k cs os ds ps (first.stays clean_mid shut) (second.stays clean (is_shut (state g old) (state g mid) first.worked.works clean_mid shut));
  worked = worked_then first.worked second.worked;
  leaves = leaves_next (λ u t. RunOrLost m limits k u ds ps t) first.worked second.worked first.leaves (λ works. shown_run (first.served _ _ (inl (works, refl, refl)))) second.leaves (λ lives clean shut. shown_run (second.served lives lives (inr (clean, shut, refl))))
      (λ s t one more. lost_then m limits k _ cs os s ds ps t one more);
}

-- none yet
pub serves_none : {S : Type 0} {g : Ghosts S} {m : Machine Lives} {limits : Limits} {k : ℕ} {records : Held S} → (Works (state g records) → IsLives (stored (state g records))) → (Works (state g records) → KeepsLives (state g records) (stored (state g records))) → ServesEach g m limits k [] [] records records
serves_none formed kept = record {
  served = λ before after go. record { marks = []; texts = []; is = lives_stay go; written = refl };
  stays = λ clean shut. tt;
  worked = not_touched;
  leaves = λ works clean. leaves_stored (formed works) (kept works) refl;
}

-- outputs after those that were there, and others after them
pub more_then : {S : Type 0} {g : Ghosts S} {m : Machine Lives} {limits : Limits} {k : ℕ} {cs ds : List (List ℕ)} {was is new_is : List (Vec ℕ)} {old mid new : Held S} → ServesMore g m limits k cs was is old mid → ServesMore g m limits k ds is new_is mid new → ServesMore g m limits k (cs ++ ds) was new_is old new
more_then {g = g} {m = m} {limits = limits} {k = k} {cs = cs} {ds = ds} {was = was} {old = old} {new = new} first second = record {
  more = first.more ++ second.more;
  follow = second.follow ∙ ap (λ l. l ++ second.more) first.follow ∙ append_assoc was first.more second.more;
  serves = subst (λ os. ServesEach g m limits k (cs ++ ds) os old new) (sym (map-append vec_items first.more second.more)) (serves_then first.serves second.serves);
}

pub more_none : {S : Type 0} {g : Ghosts S} {m : Machine Lives} {limits : Limits} {k : ℕ} {records : Held S} (was : List (Vec ℕ)) → (Works (state g records) → IsLives (stored (state g records))) → (Works (state g records) → KeepsLives (state g records) (stored (state g records))) → ServesMore g m limits k [] was was records records
more_none was formed kept = record { more = []; follow = sym (append-nil was); serves = serves_none formed kept }

-- outputs after none
pub from_empty : {S : Type 0} {g : Ghosts S} {m : Machine Lives} {limits : Limits} {k : ℕ} {cs : List (List ℕ)} {was is : List (Vec ℕ)} {old new : Held S} → was ≡ [] → ServesMore g m limits k cs was is old new → ServesEach g m limits k cs (map vec_items is) old new
from_empty {g = g} {m = m} {limits = limits} {k = k} {cs = cs} {old = old} {new = new} none serves =
    subst (λ os. ServesEach g m limits k cs (map vec_items os) old new) (sym (serves.follow ∙ ap (λ l. l ++ serves.more) none)) serves.serves

-- one connection, with its output
pub serves_one : {S : Type 0} {g : Ghosts S} {m : Machine Lives} {limits : Limits} {k : ℕ} {bytes : List ℕ} {old new : Held S} (output : Vec ℕ) → ((before after : Lives) → LivesGo (state g old) (state g new) before after → Served m limits k before bytes [] output.items after) → Worked (state g old) (state g new)
    → (Works (state g old) → HasCleanDisk (state g new) → LeavesLives (state g new) (λ lives. ServedOrLost m limits k (stored (state g old)) bytes [] output.items lives)) → ServesEach g m limits k (bytes ∷ []) (output.items ∷ []) old new
serves_one {m = m} {limits = limits} {k = k} output served worked leaves = record {
  served = λ before after go.
      let one = served before after go in
      record { marks = one.marks ∷ []; texts = one.texts ∷ []; is = (after, one.is, refl); written = ap (λ l. l ∷ []) one.written };
  stays = λ clean shut. ((λ lives. served lives lives (inr (clean, shut, refl))), tt);
  worked = worked;
  leaves = λ works clean. leaves_weaker (λ lives one. (lives, one, refl)) (leaves works clean);
}

-- ---- a group, committed or given up

module _ {S : Type 0} (g : Ghosts S) (rules : Rules) (limits : Limits) (k : ℕ) (connections texts : List (List ℕ)) (changes : List LifeChange) (old mid new : Held S)
    (stays : LivesStay (state g old) (state g mid)) (live_old : HasCleanDisk (state g mid) → IsTrue (state g old).is_open)
    (group : Works (state g old) → HasCleanDisk (state g mid) → IsGroup rules limits k (stored (state g old)) connections texts changes)
    (formed : Works (state g old) → IsLives (stored (state g old))) (kept : Works (state g old) → KeepsLives (state g old) (stored (state g old)))
    (works_mid : Works (state g new) → Works (state g mid))
    (crash : Survives (state g mid) (state g new) (Commits (state g mid) (all_changed changes (stored (state g mid))))) where
  abbrev s : Lives
  s = stored (state g old)

  clean_mid : HasCleanDisk (state g new) → HasCleanDisk (state g mid)
  clean_mid clean = omega (arith, crash.clean)

  -- the lives that were decided by
  leads : HasCleanDisk (state g mid) → IsTrue (state g mid).is_open → all_changed changes (stored (state g mid)) ≡ all_changed changes s
  leads clean live = ap (all_changed changes) (stays.same (record { clean = clean; live = live }))

  worked_old : HasCleanDisk (state g mid) → IsTrue (state g mid).is_open → Works (state g old)
  worked_old clean live = stays.works (record { clean = clean; live = live })

  group_crash : Survives (state g old) (state g new) (λ _. IsTrue (state g old).is_open)
  group_crash = survives_then (state g old) (state g mid) (state g new) _ _ _ (λ clean db none. absurd none) (λ clean db commits. (worked_old (clean_mid clean) commits.was_open).live) stays.crash crash

  pub group_worked : Worked (state g old) (state g new)
  group_worked = record { works = λ works. stays.works (works_mid works); clean = λ clean. omega (arith, crash.clean, stays.crash.clean); crash = group_crash }

  not_shut : {X : Type 0} → HasCleanDisk (state g new) → IsShut (state g old) → X
  not_shut clean shut = let both : true ≡ false = sym (live_old (clean_mid clean)) ∙ shut in absurd (true≢false both)

  -- all changes were made
  module _ (ok : HasCleanDisk (state g new) → stored (state g new) ≡ all_changed changes (stored (state g mid))) (none : changes ≡ [] → new ≡ mid)
      (live_mid : HasCleanDisk (state g new) → changes ≢ [] → IsTrue (state g mid).is_open) (durable : HasCleanDisk (state g new) → changes ≢ [] → LeavesOnly (state g new) (stored (state g new))) where
    -- what a crash leaves has the lives after all
    pub group_left : Works (state g old) → HasCleanDisk (state g new) → (db : Trees) → (state g new).may_leave db → HoldsLives (all_changed changes s) db
    group_left works clean db may = by changes refl
      where
        by : (l : List LifeChange) → changes ≡ l → HoldsLives (all_changed changes s) db
        by [] e =
            let before : (state g mid).may_leave db = subst (λ (held : Held S). (state g held).may_leave db) (none e) may in
            subst (λ l. HoldsLives (all_changed l s) db) (sym e) (elim (stays.crash.crash (clean_mid clean) db before) [
              | inl was ↦ kept works db was
              | inr nothing ↦ absurd nothing
            ])
        by (first ∷ later) e =
            let some : changes ≢ [] = λ nil. let no : first ∷ later ≡ [] = sym e ∙ nil in cc in
            let same = leads (clean_mid clean) (live_mid clean some) in
            elim (crash.crash clean db may) [
              | inl was ↦ elim (stays.crash.crash (clean_mid clean) db was) [
                | inl earlier ↦
                    let holds : HoldsLives s db = kept works db earlier in
                    let is : s ≡ all_changed changes s = sym holds.lives_are ∙ durable clean some db may ∙ ok clean ∙ same in
                    subst (λ l. HoldsLives l db) is holds
                | inr nothing ↦ absurd nothing
              ]
              | inr commits ↦ subst (λ l. HoldsLives l db) same commits.holds
            ]

    pub group_serves : ServesEach g (capped rules) limits k connections texts old new
    group_serves = record {
      served = λ before after go. elim go [
        | inl it ↦
            let works = works_mid it.0 in
            let decided = group (stays.works works) works.clean in
            let after_all : after ≡ all_changed changes s = it.2 ∙ ok it.0.clean ∙ leads works.clean works.live in
            subst (λ l. RunServed (capped rules) limits k l connections texts after) (sym it.1) (subst (RunServed (capped rules) limits k s connections texts) (sym after_all) (answered_run rules limits k s connections texts _ decided.answered))
        | inr it ↦ not_shut it.0 it.1
      ];
      stays = λ clean shut. not_shut clean shut;
      worked = group_worked;
      leaves = λ works clean.
          let decided = group works (clean_mid clean) in
          let run = shown_run (answered_run rules limits k s connections texts _ decided.answered) in
          record {
            some = (all_changed changes s, run);
            left = λ db may. (all_changed changes s, decided.whole, group_left works clean db may, run);
          };
    }

  -- it was given up
  pub group_given_up : Works (state g old) → Survives (state g old) (state g new) (HasAll rules limits k (state g old) connections)
  group_given_up works = survives_then (state g old) (state g mid) (state g new) _ _ _ (λ clean db none. absurd none)
      (λ clean db commits.
      let same = leads (clean_mid clean) commits.was_open in
      record {
        texts = texts;
        lives = all_changed changes s;
        answered = (group works (clean_mid clean)).answered;
        commits = record { was_open = works.live; whole = subst IsLives same commits.whole; holds = subst (λ l. HoldsLives l db) same commits.holds };
      })
      stays.crash crash

lost_of_some : (rules : Rules) (limits : Limits) (k : ℕ) → 0 < k → (old : Lives) (connections texts outputs : List (List ℕ)) (new : Lives) → AreAnswered rules limits k old connections texts new → EachStays (capped rules) limits k connections outputs → RunOrLost (capped rules) limits k old connections outputs new
lost_of_some rules limits (suc k) some = all_lost rules limits k
lost_of_some rules limits zero some = absurd (none some)
  where
    none : zero < zero → ⊥
    none some = omega (arith, some)

-- connections of which a group was given up, and that were served one after the other
pub serves_after : {S : Type 0} (g : Ghosts S) (rules : Rules) (limits : Limits) (k : ℕ) (some : 0 < k) (connections outputs : List (List ℕ)) (old mid new : Held S) → (Works (state g old) → KeepsLives (state g old) (stored (state g old))) → (Works (state g old) → IsLives (stored (state g old)))
    → Worked (state g old) (state g mid) → (Works (state g mid) → stored (state g mid) ≡ stored (state g old)) → (Works (state g old) → Survives (state g old) (state g mid) (HasAll rules limits k (state g old) connections))
    → ServesEach g (capped rules) limits k connections outputs mid new → ServesEach g (capped rules) limits k connections outputs old new
serves_after {S} g rules limits k some connections outputs old mid new kept formed worked same crash serves = record {
  served = λ before after go. elim go [
    | inl it ↦ serves.served before after (inl (it.0, it.1 ∙ sym (same (serves.worked.works it.0)), it.2))
    | inr it ↦ serves.served before after (inr (it.0, shut_mid it.0 it.1, it.2))
  ];
  stays = λ clean shut. serves.stays clean (shut_mid clean shut);
  worked = worked_then worked serves.worked;
  leaves = λ works clean. by works clean (state g mid).is_open refl;
}
  where
    shut_mid : HasCleanDisk (state g new) → IsShut (state g old) → IsShut (state g mid)
    shut_mid clean shut = is_shut (state g old) (state g mid) worked.works (serves.worked.clean clean) shut

    by : Works (state g old) → HasCleanDisk (state g new) → (b : Bool) → (state g mid).is_open ≡ b → LeavesLives (state g new) (λ lives. RunOrLost (capped rules) limits k (stored (state g old)) connections outputs lives)
    by works clean true live =
        let both : Works (state g mid) = record { clean = serves.worked.clean clean; live = live } in
        leaves_weaker (λ lives run. subst (λ l. RunOrLost (capped rules) limits k l connections outputs lives) (same both) run) (serves.leaves both clean)
    by works clean false shut =
        let stay = serves.stays clean shut in
        let still = shown_run (serves.served (stored (state g old)) (stored (state g old)) (inr (clean, shut, refl))) in
        record {
          some = (stored (state g old), still);
          left = λ db may. elim (serves.worked.crash.crash clean db may) [
            | inl was ↦ elim ((crash works).crash (serves.worked.clean clean) db was) [
              | inl earlier ↦ (stored (state g old), formed works, kept works db earlier, still)
              | inr all ↦ (all.lives, all.commits.whole, all.commits.holds, lost_of_some rules limits k some (stored (state g old)) connections all.texts outputs all.lives all.answered stay)
            ]
            | inr live ↦ let both : true ≡ false = sym live ∙ shut in absurd (true≢false both)
          ];
        }

-- what a crash leaves of connections that were served, or of which none was
pub each_leaves : {S E : Type 0} (g : Ghosts S) (m : Machine Lives) (limits : Limits) (k : ℕ) (cs : List (List ℕ)) (old new : Held S) (result : Result (Vec (Vec ℕ)) E) → IfOk result (λ outputs. ServesEach g m limits k cs (map vec_items outputs.items) old new) → OnErr result (new ≡ old)
    → (Works (state g old) → LeavesLives (state g old) (λ lives. lives ≡ stored (state g old))) → Works (state g old) → HasCleanDisk (state g new)
    → LeavesLives (state g new) (λ lives. MatchResult result (λ outputs. RunOrLost m limits k (stored (state g old)) cs (map vec_items outputs.items) lives) (λ _. lives ≡ stored (state g old)))
each_leaves g m limits k cs old new (Ok outputs) serves same kept works clean = serves.leaves works clean
each_leaves {S} g m limits k cs old new (Err e) serves same kept works clean = subst (λ (h : Held S). LeavesLives (state g h) (λ lives. lives ≡ stored (state g old))) (sym same) (kept works)
