-- The steps of the loop over a connection whose bytes are all there, and of the loop over connections.
use Rattle.std.proofs.Common.{◌≡◌, ℕ, suc, add-one, ◌+◌, ◌-◌, ◌<◌, ◌==◌, get_or, inl, inr, Bool, true, false, List, [], ◌∷◌, ◌++◌, length, map, take, drop, sym, refl, ap, subst, ◌∙◌}
use Rattle.std.specs.List.{concat, AllByRecursion}
use Rattle.std.proofs.lemmas.List.{map-append, append-nil, length-drop}
use Rattle.std.proofs.Math.Seq.{take-length, take-suc}
use Rattle.osb_frames.specs.declared.limits.Limits.{Limits}
use Rattle.osb_frames.specs.declared.step.StopKind.{StopKind}
use Rattle.osb_frames.specs.Cuts.{Message, ended, closed, stopped, fault, IsFront}
use Rattle.osb_frames.specs.Steps.{FaultStays}
use Rattle.osb_replies.specs.Text.{reply_text}
use Rattle.osb_broker.specs.Machine.{Machine, fault_reply}
use Rattle.osb_broker.proofs.OneByOne.{WrittenSoFar}
use Rattle.osb_broker.specs.Served.{Served, RunServed}
use Rattle.osb_broker.specs.Answering.{AnswersWhole}
use Rattle.osb_broker.proofs.RunLemmas.{after_more, concat_more, served_silent, served_text, text_of_end, text_of_fault, text_of_none, not_marked}
use Rattle.osb_broker.proofs.LoopLemmas.{AtRequest, one_reply, closing}
use Rattle.osb_broker.proofs.RunsLemmas.{run_more}

-- after a reply that doesn't close
going_whole : {S : Type 0} (machine : Machine S) (limits : Limits) (k : ℕ) (s : S) (bytes old : List ℕ) (left : ℕ) (now : List ℕ) (u : S) (rest : List ℕ) (q : Message) (n j : ℕ) (t : S) (new : List ℕ) (close : Bool) → AtRequest machine limits k s bytes old left now u rest q n j → AnswersWhole machine q (j == 0) u t now new close → close ≡ false → WrittenSoFar machine limits k s bytes old j new t (drop n rest)
going_whole machine limits k s bytes old left now u rest q n j t new close at (mark, reply, marked, wrote, closes) e =
    let stays : false ≡ reply.close = sym e ∙ closes in
    record {
      texts = at.reached.texts ++ reply_text reply ∷ [];
      is = after_more machine limits k s bytes at.reached.texts left u rest (reply_text reply) j t (drop n rest) at.reached.is
          (one_reply machine limits left u rest q n j false reply t false at.front at.fewer (not_marked machine mark q (j == 0) u reply t marked (sym stays)) stays);
      written = concat_more old now new at.reached.texts (reply_text reply) at.reached.written wrote;
    }

-- after a reply that closes
pub closing_whole : {S : Type 0} (machine : Machine S) (limits : Limits) (k : ℕ) (s : S) (bytes old : List ℕ) (left : ℕ) (now : List ℕ) (u : S) (rest : List ℕ) (q : Message) (n j : ℕ) (t : S) (new : List ℕ) (close : Bool) → AtRequest machine limits k s bytes old left now u rest q n j → AnswersWhole machine q (j == 0) u t now new close → close ≡ true → Served machine limits k s bytes old new t
closing_whole machine limits k s bytes old left now u rest q n j t new close at (mark, reply, marked, wrote, closes) e =
    (closing machine limits k s bytes old left now u rest q n j t 0 new 0 close at (mark, reply, marked, (wrote, refl, closes)) e).0

-- after the text of a fault
pub refusing_whole : {S : Type 0} (machine : Machine S) (limits : Limits) (k : ℕ) (s : S) (bytes old : List ℕ) (left : ℕ) (now : List ℕ) (u : S) (rest : List ℕ) (f : StopKind) (j : ℕ) (new : List ℕ) → WrittenSoFar machine limits k s bytes old left now u rest → IsFront limits rest (fault f) → left ≡ suc j → new ≡ now ++ reply_text (fault_reply f) → Served machine limits k s bytes old new u
refusing_whole machine limits k s bytes old left now u rest f j new reached at fewer wrote =
    (served_text machine limits k s bytes old left now u rest [] (reply_text (fault_reply f)) (stopped f) u new reached (text_of_fault machine limits left j u rest f fewer at) wrote).0

pub ending_whole : {S : Type 0} (machine : Machine S) (limits : Limits) (k : ℕ) (s : S) (bytes old : List ℕ) (left : ℕ) (now : List ℕ) (u : S) (rest : List ℕ) (j : ℕ) → WrittenSoFar machine limits k s bytes old left now u rest → left ≡ suc j → rest ≡ [] → Served machine limits k s bytes old now u
ending_whole machine limits k s bytes old left now u rest j reached fewer none =
    (served_silent machine limits k s bytes old left now u rest ended reached (text_of_end machine limits left j u rest fewer none)).0

pub none_whole : {S : Type 0} (machine : Machine S) (limits : Limits) (k : ℕ) (s : S) (bytes old : List ℕ) (left : ℕ) (now : List ℕ) (u : S) (rest : List ℕ) → WrittenSoFar machine limits k s bytes old left now u rest → left ≡ 0 → Served machine limits k s bytes old now u
none_whole machine limits k s bytes old left now u rest reached none =
    (served_silent machine limits k s bytes old left now u rest closed reached (text_of_none machine limits left u rest none)).0

-- ---- connections

pub run_start : {S : Type 0} (machine : Machine S) (limits : Limits) (k : ℕ) (s : S) → RunServed machine limits k s [] [] s
run_start machine limits k s = record { marks = []; texts = []; is = refl; written = refl }

-- one connection more
run_served : {S : Type 0} (machine : Machine S) (limits : Limits) (k : ℕ) (s : S) (connections outputs : List (List ℕ)) (u : S) (bytes output : List ℕ) (t : S) → RunServed machine limits k s connections outputs u → Served machine limits k u bytes [] output t → RunServed machine limits k s (connections ++ bytes ∷ []) (outputs ++ output ∷ []) t
run_served machine limits k s connections outputs u bytes output t run served = record {
  marks = run.marks ++ served.marks ∷ [];
  texts = run.texts ++ served.texts ∷ [];
  is = run_more machine limits k s connections run.marks run.texts u bytes served.marks served.texts t run.is served.is;
  written = ap (λ l. l ++ output ∷ []) run.written ∙ ap (λ x. map concat run.texts ++ x ∷ []) served.written
      ∙ sym (map-append concat run.texts (served.texts ∷ []));
}

-- ---- what stands at the front

-- a fault that is reported stands there
pub told_here : (limits : Limits) (bytes : List ℕ) (over : Bool) (f : StopKind) → FaultStays limits bytes over f → IsFront limits bytes (fault f)
told_here limits bytes over f (inl each) = subst (λ l. IsFront limits l (fault f)) (append-nil bytes) (each [])
told_here limits bytes over f (inr here) = here.0

-- ---- the last of a list

pub of_last : {X : Type 0} (P : X → Type 0) (xs : List X) (x : X) → AllByRecursion P (xs ++ x ∷ []) → P x
of_last P [] x all = all.0
of_last P (y ∷ xs) x all = of_last P xs x all.1

pub of_front : {X : Type 0} (P : X → Type 0) (xs : List X) (x : X) → AllByRecursion P (xs ++ x ∷ []) → AllByRecursion P xs
of_front P [] x all = tt
of_front P (y ∷ xs) x all = (all.0, of_front P xs x all.1)

pub with_last : {X : Type 0} (P : X → Type 0) (xs : List X) (x : X) → AllByRecursion P xs → P x → AllByRecursion P (xs ++ x ∷ [])
with_last P [] x all here = (here, tt)
with_last P (y ∷ xs) x all here = (all.0, with_last P xs x all.1 here)

-- ---- what is left of the bytes

rest_is : (xs : List ℕ) (n : ℕ) → take (length xs - n) (drop n xs) ≡ drop n xs
rest_is xs n = ap (λ m. take m (drop n xs)) (sym (length-drop n xs)) ∙ take-length (drop n xs)

-- the same as `going_whole`, in the words of a slice
pub going_on : {S : Type 0} (machine : Machine S) (limits : Limits) (k : ℕ) (s : S) (bytes old : List ℕ) (left : ℕ) (now : List ℕ) (u : S) (rest : List ℕ) (q : Message) (n j : ℕ) (t : S) (new : List ℕ) (close : Bool) → AtRequest machine limits k s bytes old left now u rest q n j → AnswersWhole machine q (j == 0) u t now new close → close ≡ false → WrittenSoFar machine limits k s bytes old j new t (take (length rest - n) (drop n rest))
going_on machine limits k s bytes old left now u rest q n j t new close at answers e =
    subst (λ l. WrittenSoFar machine limits k s bytes old j new t l) (sym (rest_is rest n)) (going_whole machine limits k s bytes old left now u rest q n j t new close at answers e)

-- ---- one connection more

pub taken_next : {X : Type 0} (xs : List X) (i : ℕ) (x : X) → i < length xs → x ≡ get_or xs i x → take (i + 1) xs ≡ take i xs ++ x ∷ []
taken_next xs i x low at = ap (λ n. take n xs) (add-one i) ∙ take-suc xs i x low ∙ ap (λ y. take i xs ++ y ∷ []) (sym at)

-- P of the connections so far and of their outputs, and of one more each
pub grown_on : {X : Type 0} (P : List (List ℕ) → List (List ℕ) → Type 0) (items : X → List ℕ) (connections : List X) (i : ℕ) (connection : X) (old new : List X) (output : X) → i < length connections → connection ≡ get_or connections i connection → new ≡ old ++ output ∷ []
    → P (map items (take i connections) ++ items connection ∷ []) (map items old ++ items output ∷ []) → P (map items (take (i + 1) connections)) (map items new)
grown_on P items connections i connection old new output low at grown is =
    let asked = ap (map items) (taken_next connections i connection low at) ∙ map-append items (take i connections) (connection ∷ []) in
    let told = ap (map items) grown ∙ map-append items old (output ∷ []) in
    subst (λ l. P l (map items new)) (sym asked) (subst (λ l. P (map items (take i connections) ++ items connection ∷ []) l) (sym told) is)

pub run_on : {S X : Type 0} (machine : Machine S) (limits : Limits) (k : ℕ) (s : S) (items : X → List ℕ) (connections : List X) (i : ℕ) (connection : X) (old new : List X) (output : X) (u t : S) → i < length connections → connection ≡ get_or connections i connection → new ≡ old ++ output ∷ []
    → RunServed machine limits k s (map items (take i connections)) (map items old) u → Served machine limits k u (items connection) [] (items output) t
    → RunServed machine limits k s (map items (take (i + 1) connections)) (map items new) t
run_on machine limits k s items connections i connection old new output u t low at grown run served =
    grown_on (λ asked told. RunServed machine limits k s asked told t) items connections i connection old new output low at grown
    (run_served machine limits k s (map items (take i connections)) (map items old) u (items connection) (items output) t run served)
