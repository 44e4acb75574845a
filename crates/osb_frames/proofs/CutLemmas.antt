-- Bytes are cut in one way.
use Rattle.std.proofs.Common.{◌≡◌, ◌↔◌, ℕ, zero, suc, Bool, true, false, cond, Option, Some, None, List, [], ◌∷◌, ◌++◌, drop, sym, refl, ap, subst, ◌∙◌, arith}
use Rattle.httparse.specs.Grammar.{RequestHead}
use Rattle.httparse.proofs.GrammarLemmas.{request_prefix_free}
use Rattle.osb_frames.specs.declared.limits.Limits.{Limits}
use Rattle.osb_frames.specs.declared.step.StopKind.{StopKind}
use Rattle.osb_frames.specs.declared.step.StopKind.TheVariants.{NoHead}
use Rattle.osb_frames.specs.Heads.{Head, lines_of}
use Rattle.osb_frames.specs.Cuts.{fault_of, front_of, Message, closes, Front, nothing, fault, whole, IsFront, empty, headless, headed, End, ended, closed, stopped, EndsAt, Cuts}
use Rattle.osb_frames.proofs.FrontLemmas.{front_from, front_unique}

pub head_unique : (limits : Limits) (bytes more : List ℕ) (h k : RequestHead) → Head limits bytes h → Head limits (bytes ++ more) k → (more ≡ []) × (h ≡ k)
head_unique limits bytes more h k x y = let same = request_prefix_free bytes more h k [] [] x.reads y.reads in (same.1, same.0)

-- something stands at the front of bytes
front_there : (limits : Limits) (bytes : List ℕ) → ((front : Front) → ¬ (IsFront limits bytes front)) → ⊥
front_there limits [] none = none nothing (empty refl refl)
front_there limits (b ∷ bytes) none =
    none (fault NoHead) (headless (omega arith) (λ h rest x. none (front_of limits h rest) (headed h rest x refl)) refl)

-- a relation of lists of requests and their end that holds of one pair, and not of none
pub record IsExact (cut : List Message → End → Type 0) : Type 0 where
  pub one : (qs others : List Message) (a b : End) → cut qs a → cut others b → (qs ≡ others) × (a ≡ b)
  pub some : ((qs : List Message) (end : End) → ¬ (cut qs end)) → ⊥

-- ---- no two cuts

module _ (limits : Limits) (bytes : List ℕ) where
  one_end : (a b : End) → EndsAt limits bytes a → EndsAt limits bytes b → a ≡ b
  one_end ended ended x y = refl
  one_end ended (stopped f) x y = let same = front_unique limits bytes nothing (fault f) x y in cc
  one_end (stopped f) ended x y = let same = front_unique limits bytes (fault f) nothing x y in cc
  one_end (stopped f) (stopped g) x y = let same = front_unique limits bytes (fault f) (fault g) x y in cc
  one_end ended closed x y = absurd y
  one_end (stopped f) closed x y = absurd y
  one_end closed b x y = absurd x

  -- bytes that begin with a request don't end
  pub no_end : (end : End) (q : Message) (n : ℕ) → EndsAt limits bytes end → IsFront limits bytes (whole q n) → ⊥
  no_end ended q n x at = let same = front_unique limits bytes nothing (whole q n) x at in cc
  no_end (stopped f) q n x at = let same = front_unique limits bytes (fault f) (whole q n) x at in cc
  no_end closed q n x at = x

one : (limits : Limits) (k : ℕ) (bytes : List ℕ) (qs others : List Message) (a b : End) → Cuts limits k bytes qs a → Cuts limits k bytes others b → (qs ≡ others) × (a ≡ b)
one limits zero bytes qs others a b x y = (x.0 ∙ sym y.0, x.1 ∙ sym y.1)
one limits (suc k) bytes [] [] a b x y = (refl, one_end limits bytes a b x y)
one limits (suc k) bytes [] (p ∷ ps) a b x y = absurd (no_end limits bytes a p y.0 x y.1)
one limits (suc k) bytes (q ∷ qs) [] a b x y = absurd (no_end limits bytes b q x.0 y x.1)
one limits (suc k) bytes (q ∷ qs) (p ∷ ps) a b x y =
    let same = front_unique limits bytes (whole p y.0) (whole q x.0) y.1 x.1 in
    let first : p ≡ q = cc in
    let size : y.0 ≡ x.0 = cc in
    let there = subst (λ r. Cuts limits (cond (closes r) 0 k) (drop y.0 bytes) ps b) first y.2 in
    let later = subst (λ n. Cuts limits (cond (closes q) 0 k) (drop n bytes) ps b) size there in
    let rest = one limits (cond (closes q) 0 k) (drop x.0 bytes) qs ps a b x.2 later in
    (ap (λ l. q ∷ l) rest.0 ∙ ap (λ r. r ∷ ps) (sym first), rest.1)

-- ---- and one cut

-- there is a cut
abbrev HasCut : Limits → ℕ → List ℕ → Type 0
HasCut limits k bytes = ((qs : List Message) (end : End) → ¬ (Cuts limits k bytes qs end)) → ⊥

after_front : (limits : Limits) (k : ℕ) (bytes : List ℕ) → ((later : List ℕ) → HasCut limits k later) → HasCut limits (suc k) bytes
after_front limits k bytes more none = front_there limits bytes by
  where
    after : (c : Bool) (later : List ℕ) → HasCut limits (cond c 0 k) later
    after true later gone = gone [] closed (refl, refl)
    after false later gone = more later gone

    by : (front : Front) → ¬ (IsFront limits bytes front)
    by nothing at = none [] ended at
    by (fault f) at = none [] (stopped f) at
    by (whole q n) at = after (closes q) (drop n bytes) (λ qs end x. none (q ∷ qs) end (n, at, x))

some : (limits : Limits) (k : ℕ) (bytes : List ℕ) → HasCut limits k bytes
some limits zero bytes none = none [] closed (refl, refl)
some limits (suc k) bytes none = after_front limits k bytes (some limits k) none

pub exact_cut : (limits : Limits) (k : ℕ) (bytes : List ℕ) → IsExact (Cuts limits k bytes)
exact_cut limits k bytes = record { one = one limits k bytes; some = some limits k bytes }

-- ---- with one request at most

-- a head isn't nothing
some_front : (h : RequestHead) (rest : List ℕ) (f : Option StopKind) → nothing ≡ front_from h rest f → ⊥
some_front h rest (Some f) e = cc
some_front h rest None e = grind arith

nothing_empty : (limits : Limits) (bytes : List ℕ) → IsFront limits bytes nothing → bytes ≡ []
nothing_empty limits bytes (empty e n) = e
nothing_empty limits bytes (headless some none e) = cc
nothing_empty limits bytes (headed h rest x e) = absurd (some_front h rest (fault_of limits h.minor (lines_of h)) e)

none_left : (c : Bool) → cond c zero zero ≡ zero
none_left true = refl
none_left false = refl

pub request_exact : (limits : Limits) (bytes : List ℕ) (q : Message) (end : End) → Cuts limits 1 bytes (q ∷ []) end ↔ ((n : ℕ) × IsFront limits bytes (whole q n) × (end ≡ closed))
request_exact limits bytes q end = (
  λ x. (x.0, x.1, (subst (λ k. Cuts limits k (drop x.0 bytes) [] end) (none_left (closes q)) x.2).1),
  λ y. (y.0, y.1, subst (λ k. Cuts limits k (drop y.0 bytes) [] end) (sym (none_left (closes q))) (refl, y.2)),
)

pub stops_exact : (limits : Limits) (bytes : List ℕ) (f : StopKind) → Cuts limits 1 bytes [] (stopped f) ↔ IsFront limits bytes (fault f)
stops_exact limits bytes f = (λ x. x, λ x. x)

pub ends_exact : (limits : Limits) (bytes : List ℕ) → Cuts limits 1 bytes [] ended ↔ (bytes ≡ [])
ends_exact limits bytes = (nothing_empty limits bytes, λ e. empty e refl)
