-- Exchanges with several brokers, each of which has some of the instances.
use Rattle.std.proofs.Common.{◌≡◌, ◌⊎◌, ℕ, zero, suc, ◌<◌, ◌≤◌, ◌==◌, Bool, true, false, cond, List, [], ◌∷◌, ◌++◌, length, map, take, drop, Option, None, Some, Result, Ok, Err, refl, sym, ◌∙◌, ap, subst, inl, inr, arith}
use Rattle.std.specs.List.{concat}
use Rattle.std.proofs.lemmas.Bool.{eqb-true, eq-eqb}
use Rattle.std.proofs.lemmas.List.{append-nil, take_all}
use Rattle.osb_frames.specs.declared.limits.Limits.{Limits}
use Rattle.osb_frames.specs.Calls.{Call, all_bytes}
use Rattle.osb_frames.specs.Cuts.{Message, closes, Front, nothing, fault, whole, IsFront, End, ended, closed, stopped, Cuts}
use Rattle.osb_frames.proofs.FrontLemmas.{front_unique}
use Rattle.osb_frames.proofs.CutLemmas.{exact_cut}
use Rattle.osb_replies.specs.declared.write.WriteFault.{WriteFault}
use Rattle.osb_replies.specs.Parts.{refused}
use Rattle.osb_replies.specs.Text.{reply_text}
use Rattle.osb_catalog.specs.Rules.{Rules}
use Rattle.osb_asks.specs.declared.ask.Ask.{Ask}
use Rattle.osb_asks.specs.declared.ask_fault.AskFault.{AskFault}
use Rattle.osb_asks.specs.Asks.{ask_of}
use Rattle.osb_asks.specs.Subjects.{instance_id_of}
use Rattle.osb_orders.specs.Lives.{Lives, life_of}
use Rattle.osb_laws.proofs.MapLemmas.{others_stay, unnamed_stay}
use Rattle.osb_broker.specs.declared.fault.ServeFault.{ServeFault}
use Rattle.osb_broker.specs.declared.fault.ServeFault.TheVariants.{Read, Write}
use Rattle.osb_broker.specs.Machine.{Answer, reply_of}
use Rattle.osb_broker.specs.Steps.{machine, step_for}
use Rattle.osb_broker.specs.Connection.{looked_for, replies_of}
use Rattle.osb_broker.specs.Served.{is_fault, ServedTo, BrokenOff}
use Rattle.osb_broker.specs.Serving.{EachGaveBytes, EndsWith, OfConnection, Past, ReadBroken, ReadsOf, EndsAs, WritesText, replies_unmarked}
use Rattle.osb_broker.specs.Crashes.{LostAnswer, EndsAsOrLost}
use Rattle.osb_broker.specs.Apart.{picked}
use Rattle.osb_broker.specs.Conversations.{Conversation, IsConversation}
use Rattle.osb_broker.specs.Exchanges.{Exchange, IsAnswered, IsSaid, IsExchange, AreExchanges}
use Rattle.osb_broker.specs.Shards.{is_answerable, HaveSame, is_at, went_to, AreOfShards, asks_such, RequestIs, RoutesExchanges}
use Rattle.osb_broker.proofs.LastLemmas.{conversation_of, last_of}
use Rattle.osb_broker.proofs.OneByOneLemmas.{goes_none}
use Rattle.osb_broker.proofs.ShardLemmas.{answerable_by, answered_alike, stepped, stayed}

-- ---- reads

-- one that gave bytes isn't the last of reads that failed
gave_all : (calls : List Call) → EachGaveBytes calls → EndsWith None calls → ⊥
gave_all calls gave ends = by ends.before (subst EachGaveBytes ends.is gave)
  where
    by : (before : List Call) → EachGaveBytes (before ++ None ∷ []) → ⊥
    by [] all = let bad : true ≡ false = all.0 in cc
    by (call ∷ before) all = by before all.1

-- nor does a read that found the end end them
one_end : (calls : List Call) → EndsWith (Some []) calls → EndsWith None calls → ⊥
one_end calls found ends = by found.before ends.before (sym found.is ∙ ends.is) found.gave_bytes ends.gave_bytes
  where
    by : (before others : List Call) → before ++ Some [] ∷ [] ≡ others ++ None ∷ [] → EachGaveBytes before → EachGaveBytes others → ⊥
    by [] [] same gave all = cc
    by [] (call ∷ []) same gave all = cc
    by [] (call ∷ next ∷ others) same gave all = cc
    by (call ∷ []) [] same gave all = cc
    by (call ∷ next ∷ before) [] same gave all = cc
    by (call ∷ before) (other ∷ others) same gave all = by before others (cc) gave.1 all.1

gave_no_failure : (calls : List Call) → EachGaveBytes calls ⊎ EndsWith (Some []) calls → EndsWith None calls → ⊥
gave_no_failure calls (inl gave) = gave_all calls gave
gave_no_failure calls (inr found) = one_end calls found

-- what holds of the bytes of a connection holds of those that were read
of_read : (P : List ℕ → Type 0) (calls : List Call) → OfConnection P calls → P (all_bytes calls)
of_read P calls (inl all) = subst P (append-nil (all_bytes calls)) (all [])
of_read P calls (inr (one, at_end)) = one

-- what follows from the front of bytes holds of a connection with that front
of_front : (limits : Limits) (front : Front) (Q : List ℕ → Type 0) (calls : List Call) → OfConnection (λ bytes. IsFront limits bytes front) calls → ((bytes : List ℕ) → IsFront limits bytes front → Q bytes) → OfConnection Q calls
of_front limits front Q calls (inl always) holds = inl (λ more. holds (all_bytes calls ++ more) (always more))
of_front limits front Q calls (inr (at, at_end)) holds = inr (holds (all_bytes calls) at, at_end)

-- at most one request is looked for where at most one may come
looked : (most : ℕ) (marks : List Bool) → most ≤ 1 → looked_for most marks ≤ 1
looked zero marks few = omega (arith)
looked (suc zero) [] few = omega (arith)
looked (suc zero) (true ∷ marks) few = omega (arith)
looked (suc zero) (false ∷ marks) few = omega (arith)
looked (suc (suc n)) marks few = absurd (none few)
  where
    none : suc (suc n) ≤ 1 → ⊥
    none some = omega (arith, some)

-- with one request that may come one is looked for, whatever is refused
looked_one : (marks : List Bool) → looked_for 1 marks ≡ 1
looked_one [] = refl
looked_one (true ∷ marks) = refl
looked_one (false ∷ marks) = refl

-- of one request that may come none came whole
none_read : (requests : List Message) → length requests < 1 → requests ≡ []
none_read [] few = refl
none_read (q ∷ later) few = let none : suc (length later) < 1 → ⊥ = λ some. omega (arith, some) in absurd (none few)

-- the first bytes of a text, by how many they are
taken_inside : (count : ℕ) (text : List ℕ) → length (take count text) ≤ length text
taken_inside zero text = omega (arith)
taken_inside (suc count) [] = omega (arith)
taken_inside (suc count) (byte ∷ text) = let less = taken_inside count text in omega (arith, less)

taken_again : (count : ℕ) (text : List ℕ) → take (length (take count text)) text ≡ take count text
taken_again zero text = refl
taken_again (suc count) [] = refl
taken_again (suc count) (byte ∷ text) = ap (λ l. byte ∷ l) (taken_again count text)

module _ (limits : Limits) where
  -- where no request came whole, all that was read is held
  held_all : (requests : List Message) (got held : List ℕ) → requests ≡ [] → Past limits requests got held → held ≡ got
  held_all requests got held none past = subst (λ l. Past limits l got held) none past

  -- behind the last that is looked for nothing is cut, of any bytes
  none_cut : (shut : Bool) (bytes others : List ℕ) (requests : List Message) (end : End) → Cuts limits (cond shut 0 0) bytes requests end → Cuts limits (cond shut 0 0) others requests end
  none_cut true bytes others requests end none = none
  none_cut false bytes others requests end none = none

  -- bytes with the same front are cut alike where one request is looked for
  same_cut : (j : ℕ) (bytes others : List ℕ) (front : Front) (requests : List Message) (end : End) → j ≤ 1 → IsFront limits bytes front → IsFront limits others front → Cuts limits j bytes requests end → Cuts limits j others requests end
  same_cut zero bytes others front requests end few at there cut = cut
  same_cut (suc zero) bytes others front [] ended few at there cut = subst (IsFront limits others) (front_unique limits bytes front nothing at cut) there
  same_cut (suc zero) bytes others front [] (stopped f) few at there cut = subst (IsFront limits others) (front_unique limits bytes front (fault f) at cut) there
  same_cut (suc zero) bytes others front [] closed few at there cut = absurd cut
  same_cut (suc zero) bytes others front (q ∷ later) end few at there (n, here, rest) = (n, subst (IsFront limits others) (front_unique limits bytes front (whole q n) at here) there, none_cut (closes q) (drop n bytes) (drop n others) later end rest)
  same_cut (suc (suc j)) bytes others front requests end few at there cut = absurd (none few)
    where
      none : suc (suc j) ≤ 1 → ⊥
      none some = omega (arith, some)

  -- the first that is cut is at the front
  first_of_cut : (rules : Rules) (such : Result Ask AskFault → Bool) (j : ℕ) (bytes : List ℕ) (front : Front) (q : Message) (later : List Message) (end : End) → IsFront limits bytes front → asks_such rules such front ≡ true → Cuts limits j bytes (q ∷ later) end → such (ask_of rules q) ≡ true
  first_of_cut rules such zero bytes front q later end at is (none, shut) = cc
  first_of_cut rules such (suc j) bytes front q later end at is (n, here, rest) = subst (λ f. asks_such rules such f ≡ true) (front_unique limits bytes front (whole q n) at here) is

-- ---- from the lives of one broker to those of all

module _ (rules : Rules) (limits : Limits) (shard : List ℕ → ℕ) (m : ℕ) (before : ℕ → Lives) (s : Lives) (are : AreOfShards shard before s) where
  abbrev Here : List ℕ → Bool
  Here = is_at shard m

  -- it holds of lives in which the broker's instances have their lives in these, and the others their own
  abbrev Joined : (Lives → Type 0) → Lives → Type 0
  Joined Holds u = (next : Lives) × Holds next × AreOfShards shard (stepped m u before) next

  same_here : HaveSame Here (before m) s
  same_here id at = ap (λ n. life_of (before n) id) (sym (eqb-true (shard id) m at)) ∙ sym (are id)

  -- what is asked of the broker leaves the instances of others
  elsewhere_stays : (asked : Result Ask AskFault) (id : List ℕ) → is_answerable Here asked ≡ true → Here id ≡ false → life_of (step_for rules s asked).1 id ≡ life_of s id
  elsewhere_stays (Err f) id can gone = refl
  elsewhere_stays (Ok ask) id can gone = by (instance_id_of ask) refl
    where
      by : (at : Option (List ℕ)) → instance_id_of ask ≡ at → life_of (step_for rules s (Ok ask)).1 id ≡ life_of s id
      by None none = ap (λ lives. life_of lives id) (unnamed_stay rules s ask none)
      by (Some other) names = others_stay rules s ask other id names (λ same. let found : Here other ≡ true = sym (answerable_by Here ask other names) ∙ can in let bad : true ≡ false = sym found ∙ ap Here (sym same) ∙ gone in cc)

  -- lives that leave the instances of others and have those of the broker are joined
  joined_by : (u next : Lives) → HaveSame Here u next → ((id : List ℕ) → Here id ≡ false → life_of next id ≡ life_of s id) → AreOfShards shard (stepped m u before) next
  joined_by u next same stays id = by (m == shard id) refl
    where
      elsewhere : (m == shard id) ≡ false → (b : Bool) → (shard id == m) ≡ b → (shard id == m) ≡ false
      elsewhere differ true at = let bad : true ≡ false = sym (eq-eqb m (shard id) (sym (eqb-true (shard id) m at))) ∙ differ in cc
      elsewhere differ false at = at

      by : (b : Bool) → (m == shard id) ≡ b → life_of next id ≡ life_of (cond b u (before (shard id))) id
      by true at = sym (same id (eq-eqb (shard id) m (sym (eqb-true m (shard id) at))))
      by false differ = stays id (elsewhere differ (shard id == m) refl) ∙ are id

  -- a request of the broker is answered alike
  told : (q : Message) → is_answerable Here (ask_of rules q) ≡ true → (step_for rules (before m) (ask_of rules q)).0 ≡ (step_for rules s (ask_of rules q)).0
  told q can = (answered_alike rules limits Here (before m) s same_here (ask_of rules q) can).told

  step_joined : (u : Lives) (q : Message) → is_answerable Here (ask_of rules q) ≡ true → u ≡ (step_for rules (before m) (ask_of rules q)).1 → AreOfShards shard (stepped m u before) (step_for rules s (ask_of rules q)).1
  step_joined u q can leaves =
      let alike = answered_alike rules limits Here (before m) s same_here (ask_of rules q) can in
      joined_by u (step_for rules s (ask_of rules q)).1 (λ id at. ap (λ lives. life_of lives id) leaves ∙ alike.same id at) (λ id gone. elsewhere_stays (ask_of rules q) id can gone)

  -- nothing was carried out
  kept : (u : Lives) → u ≡ before m → AreOfShards shard (stepped m u before) s
  kept u leaves = stayed rules limits shard m u before s leaves are

  answered_here : (said : Conversation) (result : Result (Unit {0}) WriteFault) (u : Lives) → RequestIs rules limits (is_answerable Here) said.calls → IsAnswered rules limits (before m) said result u → Joined (IsAnswered rules limits s said result) u
  answered_here said result u (inr failed) it = absurd (gave_all said.calls it.gave_bytes failed)
  answered_here said result u (inl (front, of, can)) it =
      let whole_of : IsFront limits (all_bytes said.calls) (whole it.q (length (all_bytes said.calls))) = subst (λ bytes. IsFront limits bytes (whole it.q (length (all_bytes said.calls)))) (append-nil (all_bytes said.calls)) (it.exact []) in
      let at : IsFront limits (all_bytes said.calls) front = of_read (λ bytes. IsFront limits bytes front) said.calls of in
      let such : is_answerable Here (ask_of rules it.q) ≡ true = subst (λ f. asks_such rules (is_answerable Here) f ≡ true) (front_unique limits (all_bytes said.calls) front (whole it.q (length (all_bytes said.calls))) at whole_of) can in (
        (step_for rules s (ask_of rules it.q)).1,
        record {
          q = it.q;
          exact = it.exact;
          goes_on = it.goes_on;
          gave_bytes = it.gave_bytes;
          needed = it.needed;
          no_fault = it.no_fault;
          wrote = subst (λ (answer : Answer). WritesText [] 0 said.sent said.failed result (reply_text (reply_of it.q false answer))) (told it.q such) it.wrote;
          leaves = refl;
        },
        step_joined u it.q such it.leaves,
      )

  -- ---- the end of a client's exchanges

  -- the replies to a request that the broker can answer, or to none
  replies_told : (requests : List Message) (end : End) (marks : List Bool) → ((q : Message) (later : List Message) → requests ≡ q ∷ later → is_answerable Here (ask_of rules q) ≡ true) → (replies_of (machine rules) 1 (before m) requests end marks).0 ≡ (replies_of (machine rules) 1 s requests end marks).0
  replies_told [] end marks can = refl
  replies_told (q ∷ later) end [] can = refl
  replies_told (q ∷ later) end (true ∷ marks) can = refl
  replies_told (q ∷ later) end (false ∷ marks) can = ap (λ (answer : Answer). reply_of q true answer ∷ []) (told q (can q later refl))

  replies_joined : (u : Lives) (requests : List Message) (end : End) (marks : List Bool) → ((q : Message) (later : List Message) → requests ≡ q ∷ later → is_answerable Here (ask_of rules q) ≡ true) → u ≡ (replies_of (machine rules) 1 (before m) requests end marks).1 → AreOfShards shard (stepped m u before) (replies_of (machine rules) 1 s requests end marks).1
  replies_joined u [] end marks can leaves = kept u leaves
  replies_joined u (q ∷ later) end [] can leaves = kept u leaves
  replies_joined u (q ∷ later) end (true ∷ marks) can leaves = kept u leaves
  replies_joined u (q ∷ later) end (false ∷ marks) can leaves = step_joined u q (can q later refl) leaves

  module _ (calls : List Call) (front : Front) (of : OfConnection (λ bytes. IsFront limits bytes front) calls) (can : asks_such rules (is_answerable Here) front ≡ true) where
    at_front : IsFront limits (all_bytes calls) front
    at_front = of_read (λ bytes. IsFront limits bytes front) calls of

    -- the first of requests that are cut of what was read
    can_first : (j : ℕ) (requests : List Message) (end : End) → Cuts limits j (all_bytes calls) requests end → (q : Message) (later : List Message) → requests ≡ q ∷ later → is_answerable Here (ask_of rules q) ≡ true
    can_first j requests end cut q later same = first_of_cut limits rules (is_answerable Here) j (all_bytes calls) front q later end at_front can (subst (λ l. Cuts limits j (all_bytes calls) l end) same cut)

    served_here : (met_fault : Bool) (sent : List ℕ) (u : Lives) → OfConnection (λ bytes. ServedTo (machine rules) limits 1 (before m) bytes met_fault [] sent u) calls → Joined (λ next. OfConnection (λ bytes. ServedTo (machine rules) limits 1 s bytes met_fault [] sent next) calls) u
    served_here met_fault sent u all =
        let here = of_read (λ bytes. ServedTo (machine rules) limits 1 (before m) bytes met_fault [] sent u) calls all in
        let is = here.0.is in
        let marks = here.0.marks in
        let first = can_first (looked_for 1 marks) is.requests is.end is.cut in (
          (replies_of (machine rules) 1 s is.requests is.end marks).1,
          of_front limits front (λ bytes. ServedTo (machine rules) limits 1 s bytes met_fault [] sent (replies_of (machine rules) 1 s is.requests is.end marks).1) calls of (λ bytes at. (
            record {
              marks = marks;
              texts = here.0.texts;
              is = record {
                requests = is.requests;
                end = is.end;
                cut = same_cut limits (looked_for 1 marks) (all_bytes calls) bytes front is.requests is.end (looked 1 marks (omega (arith))) at_front at is.cut;
                marked = is.marked;
                printed = is.printed ∙ ap (map reply_text) (replies_told is.requests is.end marks first);
                leaves = refl;
              };
              written = here.0.written;
            },
            here.1,
          )),
          replies_joined u is.requests is.end marks first is.leaves,
        )

    broken_here : (sent : List ℕ) (u : Lives) → OfConnection (λ bytes. BrokenOff (machine rules) limits 1 (before m) bytes [] sent u) calls → Joined (λ next. OfConnection (λ bytes. BrokenOff (machine rules) limits 1 s bytes [] sent next) calls) u
    broken_here sent u all =
        let here = of_read (λ bytes. BrokenOff (machine rules) limits 1 (before m) bytes [] sent u) calls all in
        let is = here.is in
        let first = can_first (looked_for is.most is.marks) is.requests is.end is.cut in (
          (replies_of (machine rules) 1 s is.requests is.end is.marks).1,
          of_front limits front (λ bytes. BrokenOff (machine rules) limits 1 s bytes [] sent (replies_of (machine rules) 1 s is.requests is.end is.marks).1) calls of (λ bytes at. record {
            texts = here.texts;
            text = here.text;
            is = record {
              most = is.most;
              fewer = is.fewer;
              marks = is.marks;
              requests = is.requests;
              end = is.end;
              cut = same_cut limits (looked_for is.most is.marks) (all_bytes calls) bytes front is.requests is.end (looked is.most is.marks is.fewer) at_front at is.cut;
              marked = is.marked;
              printed = is.printed ∙ ap (map reply_text) (replies_told is.requests is.end is.marks first);
              leaves = refl;
            };
            count = here.count;
            inside = here.inside;
            written = here.written;
          }),
          replies_joined u is.requests is.end is.marks first is.leaves,
        )

  -- a read failed, and no request had come
  read_here : (got sent : List ℕ) (u : Lives) → ReadBroken (machine rules) limits 1 (before m) got [] sent u → Joined (ReadBroken (machine rules) limits 1 s got [] sent) u
  read_here got sent u broken =
      let none = none_read broken.requests broken.fewer in (
        s,
        record {
          requests = [];
          held = broken.held;
          past = subst (λ l. Past limits l got broken.held) none broken.past;
          fewer = omega (arith);
          waits = broken.waits;
          written = broken.written ∙ ap (λ l. concat (map reply_text (replies_unmarked (machine rules) 1 (before m) l).0)) none;
          leaves = refl;
        },
        kept u (broken.leaves ∙ ap (λ l. (replies_unmarked (machine rules) 1 (before m) l).1) none),
      )

  ends_here : (result : Result (Unit {0}) ServeFault) (calls : List Call) (met_fault : Bool) (sent : List ℕ) (u : Lives) → RequestIs rules limits (is_answerable Here) calls → ReadsOf result calls → EndsAs result (machine rules) limits 1 (before m) calls met_fault [] sent u → Joined (EndsAs result (machine rules) limits 1 s calls met_fault [] sent) u
  ends_here (Err Read) calls met_fault sent u is reads e = read_here (all_bytes calls) sent u e
  ends_here (Ok x) calls met_fault sent u (inl (front, of, can)) reads e = served_here calls front of can met_fault sent u e
  ends_here (Ok x) calls met_fault sent u (inr failed) reads e = absurd (gave_no_failure calls reads failed)
  ends_here (Err Write) calls met_fault sent u (inl (front, of, can)) reads e = broken_here calls front of can sent u e
  ends_here (Err Write) calls met_fault sent u (inr failed) reads e = absurd (gave_no_failure calls reads failed)

  -- ---- an answer that was lost

  -- what its client was sent
  sent_of : (result : Result (Unit {0}) ServeFault) (got sent : List ℕ) (shown u : Lives) (lost : LostAnswer result (machine rules) limits 1 (before m) got [] sent shown u) → sent ≡ take lost.count (reply_text refused)
  sent_of result got sent shown u lost = lost.written ∙ ap (λ l. concat (map reply_text (replies_unmarked (machine rules) 1 (before m) l).0) ++ take lost.count (reply_text refused)) (none_read lost.requests lost.fewer)

  -- the client got the fixed 500, or the first bytes of it, and shows no change
  shows_none : (result : Result (Unit {0}) ServeFault) (calls : List Call) (met_fault : Bool) (sent : List ℕ) (shown u : Lives) (lost : LostAnswer result (machine rules) limits 1 (before m) (all_bytes calls) [] sent shown u) → OfConnection (λ bytes. IsFront limits bytes (whole lost.q lost.n)) calls → EndsAs result (machine rules) limits 1 (before m) calls met_fault [] sent shown → EndsAs result (machine rules) limits 1 s calls met_fault [] sent s
  shows_none (Ok x) calls met_fault sent shown u lost of e =
      let here = of_read (λ bytes. ServedTo (machine rules) limits 1 (before m) bytes met_fault [] sent shown) calls e in
      let at = of_read (λ bytes. IsFront limits bytes (whole lost.q lost.n)) calls of in
      let given = subst (λ j. Cuts limits j (all_bytes calls) here.0.is.requests here.0.is.end) (looked_one here.0.marks) here.0.is.cut in
      let shut : here.0.is.end ≡ closed = ((exact_cut limits 1 (all_bytes calls)).one here.0.is.requests (lost.q ∷ []) here.0.is.end closed given (lost.n, at, goes_none limits (closes lost.q) _)).1 in
      of_front limits (whole lost.q lost.n) (λ bytes. ServedTo (machine rules) limits 1 s bytes met_fault [] sent s) calls of (λ bytes front. (
        record {
          marks = true ∷ [];
          texts = reply_text refused ∷ [];
          is = record {
            requests = lost.q ∷ [];
            end = closed;
            cut = (lost.n, front, goes_none limits (closes lost.q) (drop lost.n bytes));
            marked = ((λ e. lost.takes_memory), tt);
            printed = refl;
            leaves = refl;
          };
          written = sent_of (Ok x) (all_bytes calls) sent shown u lost ∙ take_all lost.count (reply_text refused) (omega (arith, lost.whole)) ∙ sym (append-nil (reply_text refused));
        },
        here.1 ∙ ap is_fault shut,
      ))
  shows_none (Err Read) calls met_fault sent shown u lost of e =
      absurd (e.waits.request lost.q lost.n (subst (λ l. IsFront limits l (whole lost.q lost.n)) (sym (held_all limits e.requests (all_bytes calls) e.held (none_read e.requests e.fewer) e.past)) (of_read (λ bytes. IsFront limits bytes (whole lost.q lost.n)) calls of)))
  shows_none (Err Write) calls met_fault sent shown u lost of e =
      of_front limits (whole lost.q lost.n) (λ bytes. BrokenOff (machine rules) limits 1 s bytes [] sent s) calls of (λ bytes front. record {
        texts = [];
        text = reply_text refused;
        is = record {
          most = 1;
          fewer = omega (arith);
          marks = true ∷ [];
          requests = lost.q ∷ [];
          end = closed;
          cut = (lost.n, front, goes_none limits (closes lost.q) (drop lost.n bytes));
          marked = ((λ e. lost.takes_memory), tt);
          printed = refl;
          leaves = refl;
        };
        count = length (take lost.count (reply_text refused));
        inside = taken_inside lost.count (reply_text refused);
        written = sent_of (Err Write) (all_bytes calls) sent shown u lost ∙ sym (taken_again lost.count (reply_text refused));
      })

  lost_here : (result : Result (Unit {0}) ServeFault) (calls : List Call) (met_fault : Bool) (sent : List ℕ) (shown u : Lives) → RequestIs rules limits (is_answerable Here) calls → ReadsOf result calls → EndsAs result (machine rules) limits 1 (before m) calls met_fault [] sent shown → LostAnswer result (machine rules) limits 1 (before m) (all_bytes calls) [] sent shown u → Joined (EndsAsOrLost result (machine rules) limits 1 s calls met_fault [] sent) u
  lost_here result calls met_fault sent shown u is reads e lost = by result is reads e lost
    where
      by : (result : Result (Unit {0}) ServeFault) → RequestIs rules limits (is_answerable Here) calls → ReadsOf result calls → EndsAs result (machine rules) limits 1 (before m) calls met_fault [] sent shown → LostAnswer result (machine rules) limits 1 (before m) (all_bytes calls) [] sent shown u → Joined (EndsAsOrLost result (machine rules) limits 1 s calls met_fault [] sent) u
      by result (inl (front, of, can)) reads e lost =
          let none = none_read lost.requests lost.fewer in
          let at : IsFront limits (all_bytes calls) (whole lost.q lost.n) = subst (λ l. IsFront limits l (whole lost.q lost.n)) (held_all limits lost.requests (all_bytes calls) lost.held none lost.past) lost.front in
          let one : front ≡ whole lost.q lost.n = front_unique limits (all_bytes calls) front (whole lost.q lost.n) (of_read (λ bytes. IsFront limits bytes front) calls of) at in
          let such = subst (λ f. asks_such rules (is_answerable Here) f ≡ true) one can in
          let of_whole = subst (λ f. OfConnection (λ bytes. IsFront limits bytes f) calls) one of in
          let was : shown ≡ before m = lost.answered ∙ ap (λ l. (replies_unmarked (machine rules) 1 (before m) l).1) none in (
            (step_for rules s (ask_of rules lost.q)).1,
            record {
              shown = s;
              ends = shows_none result calls met_fault sent shown u lost of_whole e;
              is = inr (record {
                requests = [];
                held = all_bytes calls;
                past = refl;
                fewer = omega (arith);
                q = lost.q;
                n = lost.n;
                front = at;
                takes_memory = lost.takes_memory;
                count = lost.count;
                whole = lost.whole;
                written = sent_of result (all_bytes calls) sent shown u lost;
                answered = refl;
                leaves = refl;
              });
            },
            step_joined u lost.q such (lost.leaves ∙ ap (λ v. (step_for rules v (ask_of rules lost.q)).1) was),
          )
      by (Ok x) (inr failed) reads e lost = absurd (gave_no_failure calls reads failed)
      by (Err Write) (inr failed) reads e lost = absurd (gave_no_failure calls reads failed)
      by (Err Read) (inr failed) reads e lost =
          let bytes = all_bytes calls in
          let at = subst (λ l. IsFront limits l (whole lost.q lost.n)) (held_all limits lost.requests bytes lost.held (none_read lost.requests lost.fewer) lost.past) lost.front in
          absurd (e.waits.request lost.q lost.n (subst (λ l. IsFront limits l (whole lost.q lost.n)) (sym (held_all limits e.requests bytes e.held (none_read e.requests e.fewer) e.past)) at))

  conversation_here : (said : Conversation) (u : Lives) → RequestIs rules limits (is_answerable Here) said.calls → IsConversation rules limits 1 (before m) said u → Joined (IsConversation rules limits 1 s said) u
  conversation_here said u is it = by it.outcome.is
    where
      as_said : (next : Lives) → EndsAsOrLost it.ended (machine rules) limits 1 s said.calls said.met_fault [] said.sent next → IsConversation rules limits 1 s said next
      as_said next outcome = record { ended = it.ended; reads = it.reads; needed = it.needed; wrote = it.wrote; outcome = outcome }

      by : (u ≡ it.outcome.shown) ⊎ LostAnswer it.ended (machine rules) limits 1 (before m) (all_bytes said.calls) [] said.sent it.outcome.shown u → Joined (IsConversation rules limits 1 s said) u
      by (inl same) =
          let here = ends_here it.ended said.calls said.met_fault said.sent u is it.reads (subst (EndsAs it.ended (machine rules) limits 1 (before m) said.calls said.met_fault [] said.sent) (sym same) it.outcome.ends) in
          (here.0, as_said here.0 (record { shown = here.0; ends = here.1; is = inl refl }), here.2)
      by (inr lost) =
          let here = lost_here it.ended said.calls said.met_fault said.sent it.outcome.shown u is it.reads it.outcome.ends lost in
          (here.0, as_said here.0 here.1, here.2)

  -- ---- one exchange

  said_here : (more : ℕ) (stays : Bool) (said : Conversation) (u : Lives) → RequestIs rules limits (is_answerable Here) said.calls → IsSaid rules limits more stays (before m) said u → Joined (IsSaid rules limits more stays s said) u
  said_here more true said u is (some, it) = let here = answered_here said (Ok tt) u is it in (here.0, (some, here.1), here.2)
  said_here more false said u is (inl it) = let here = conversation_here said u is (conversation_of rules limits (before m) said u it) in (here.0, inl (last_of rules limits s said here.0 here.1), here.2)
  said_here more false said u is (inr (some, cause, it)) = let here = answered_here said (Err cause) u is it in (here.0, inr (some, cause, here.1), here.2)

  exchange_here : (k : ℕ) (x : Exchange) (u : Lives) → RequestIs rules limits (is_answerable Here) x.said.calls → IsExchange rules limits k (before m) x u → Joined (IsExchange rules limits k s x) u
  exchange_here k x u is (more, count, it) = let here = said_here more x.stays x.said u is it in (here.0, (more, count, here.1), here.2)

-- ---- all of them

pub exchanges_one : (rules : Rules) (limits : Limits) (k : ℕ) (shard : List ℕ → ℕ) (before after : ℕ → Lives) (s : Lives) (at : List ℕ) (exchanges : List Exchange) → RoutesExchanges rules limits shard at exchanges →
    ((n : ℕ) → AreExchanges rules limits k (before n) (picked (went_to n at) exchanges) (after n)) → AreOfShards shard before s →
    (all : Lives) × AreExchanges rules limits k s exchanges all × AreOfShards shard after all
exchanges_one rules limits k shard before after s [] [] routes made are = (s, refl, λ id. are id ∙ ap (λ l. life_of l id) (sym (made (shard id))))
exchanges_one rules limits k shard before after s [] (x ∷ later) routes made are = absurd routes
exchanges_one rules limits k shard before after s (n ∷ at) [] routes made are = absurd routes
exchanges_one rules limits k shard before after s (n ∷ at) (x ∷ later) routes made are =
    let mine = subst (λ b. AreExchanges rules limits k (before n) (picked (b ∷ went_to n at) (x ∷ later)) (after n)) (eq-eqb n n refl) (made n) in
    let here = exchange_here rules limits shard n before s are k x mine.0 routes.0 mine.1 in
    let rest = exchanges_one rules limits k shard (stepped n mine.0 before) after here.0 at later routes.1 (λ j. by mine.0 mine.2 j (n == j) refl (made j)) here.2 in
    (rest.0, (here.0, here.1, rest.1), rest.2)
  where
    by : (u : Lives) → AreExchanges rules limits k u (picked (went_to n at) later) (after n) → (j : ℕ) (b : Bool) → (n == j) ≡ b
        → AreExchanges rules limits k (before j) (picked (b ∷ went_to j at) (x ∷ later)) (after j)
        → AreExchanges rules limits k (cond b u (before j)) (picked (went_to j at) later) (after j)
    by u goes j true e given = subst (λ i. AreExchanges rules limits k u (picked (went_to i at) later) (after i)) (eqb-true n j e) goes
    by u goes j false e given = given
