-- Which reads serving a connection made.
use Rattle.std.proofs.Common.{◌≡◌, ℕ, ◌+◌, ◌<◌, ◌≤◌, ◌⊎◌, inl, inr, Bool, true, false, List, [], ◌∷◌, ◌++◌, length, None, Some, Ok, Err, Result, refl, sym, ap, subst, ◌∙◌, arith}
use Rattle.std.proofs.lemmas.Grind.{flat_map-append}
use Rattle.std.proofs.lemmas.List.{append-nil, length-append}
use Rattle.osb_frames.specs.declared.limits.Limits.{Limits}
use Rattle.osb_frames.specs.Calls.{Call, all_bytes, call_bytes, is_failed_or_empty}
use Rattle.osb_broker.specs.declared.fault.ServeFault.{ServeFault}
use Rattle.osb_broker.specs.declared.fault.ServeFault.TheVariants.{Read, Write}
use Rattle.osb_broker.specs.Serving.{EachGaveBytes, EachWasNeeded, EndsWith, IsBounded, RequestsPassed, ReadsOf, WasNeeded}
use Rattle.osb_broker.proofs.CallLemmas.{few_reads, split_last}
use Rattle.osb_broker.proofs.HoldLemmas.{left_start, left_fed}

-- so far each read gave bytes, but the one that found the end
abbrev pub SoFar : Bool → List Call → Type 0
SoFar false calls = EachGaveBytes calls
SoFar true calls = EndsWith (Some []) calls

pub reads_so_far : (over : Bool) (calls : List Call) → SoFar over calls → EachGaveBytes calls ⊎ EndsWith (Some []) calls
reads_so_far false calls so = inl so
reads_so_far true calls so = inr so

pub found_end : (over : Bool) (calls : List Call) → SoFar over calls → over ≡ true → EndsWith (Some []) calls
found_end false calls so e = cc
found_end true calls so e = so

pub fruitful_yet : (over : Bool) (calls : List Call) → over ≡ false → SoFar over calls → EachGaveBytes calls
fruitful_yet false calls e so = so
fruitful_yet true calls e so = cc

one_fruit : (piece : List ℕ) → 0 < length piece → is_failed_or_empty (Some piece) ≡ false
one_fruit [] some = absurd (omega (arith, some))
one_fruit (byte ∷ bytes) some = refl

pub fruitful_more : (calls : List Call) (piece : List ℕ) → EachGaveBytes calls → 0 < length piece → EachGaveBytes (calls ++ Some piece ∷ [])
fruitful_more [] piece gave_bytes some = (one_fruit piece some, tt)
fruitful_more (call ∷ calls) piece gave_bytes some = (gave_bytes.0, fruitful_more calls piece gave_bytes.1 some)

pub ended_here : (calls : List Call) (piece : List ℕ) → EachGaveBytes calls → piece ≡ [] → EndsWith (Some []) (calls ++ Some piece ∷ [])
ended_here calls piece gave_bytes none = record { before = calls; is = ap (λ p. calls ++ Some p ∷ []) none; gave_bytes = gave_bytes }

pub failed_here : (calls : List Call) → EachGaveBytes calls → EndsWith None (calls ++ None ∷ [])
failed_here calls gave_bytes = record { before = calls; is = refl; gave_bytes = gave_bytes }

pub none_needed : (limits : Limits) (k room : ℕ) → EachWasNeeded limits k room []
none_needed limits k room before after call e = absurd (omega (arith, ap length e, length-append before (call ∷ after)))

pub needed_more : (limits : Limits) (k room : ℕ) (calls : List Call) (last : Call) → EachWasNeeded limits k room calls → WasNeeded limits k room (all_bytes calls) last → EachWasNeeded limits k room (calls ++ last ∷ [])
needed_more limits k room calls last each needed before after call e = go (split_last calls last before call after e)
  where
    go : ((calls ≡ before) × (last ≡ call)) ⊎ ((later : List Call) × (calls ≡ before ++ call ∷ later)) → WasNeeded limits k room (all_bytes before) call
    go (inl (p, q)) = subst (λ l. WasNeeded limits k room (all_bytes l) call) p (subst (WasNeeded limits k room (all_bytes calls)) q needed)
    go (inr (later, p)) = each before later call p

-- ---- what that says of their number, and of what was taken

few_ended : (last : Call) (calls : List Call) → EndsWith last calls → length calls ≤ length (all_bytes calls) + 1
few_ended last calls ends =
    let few = few_reads ends.before ends.gave_bytes in
    let bytes = ap (λ l. length (all_bytes l)) ends.is ∙ ap length (flat_map-append call_bytes ends.before (last ∷ [])) in
    omega (arith, few, bytes, ap length ends.is, length-append ends.before (last ∷ []), length-append (all_bytes ends.before) (all_bytes (last ∷ [])))

few_of : (result : Result (Unit {0}) ServeFault) (calls : List Call) → ReadsOf result calls → length calls ≤ length (all_bytes calls) + 1
few_of (Err Read) calls ends = few_ended None calls ends
few_of (Ok x) calls reads = either calls reads
  where
    either : (calls : List Call) → EachGaveBytes calls ⊎ EndsWith (Some []) calls → length calls ≤ length (all_bytes calls) + 1
    either calls (inl gave_bytes) = let few = few_reads calls gave_bytes in omega (arith, few)
    either calls (inr ends) = few_ended (Some []) calls ends
few_of (Err Write) calls reads = either calls reads
  where
    either : (calls : List Call) → EachGaveBytes calls ⊎ EndsWith (Some []) calls → length calls ≤ length (all_bytes calls) + 1
    either calls (inl gave_bytes) = let few = few_reads calls gave_bytes in omega (arith, few)
    either calls (inr ends) = few_ended (Some []) calls ends

abbrev HasLast : List Call → Type 0
HasLast calls = (before : List Call) × (last : Call) × (calls ≡ before ++ last ∷ [])

last_of_calls : (calls : List Call) → (calls ≡ []) ⊎ HasLast calls
last_of_calls [] = inl refl
last_of_calls (call ∷ calls) = inr (go call calls (last_of_calls calls))
  where
    go : (call : Call) (calls : List Call) → (calls ≡ []) ⊎ HasLast calls → HasLast (call ∷ calls)
    go call calls (inl none) = ([], call, ap (λ l. call ∷ l) none)
    go call calls (inr (before, last, is)) = (call ∷ before, last, ap (λ l. call ∷ l) is)

pub bounded : (limits : Limits) (k room : ℕ) (result : Result (Unit {0}) ServeFault) (calls : List Call) → ReadsOf result calls → EachWasNeeded limits k room calls → IsBounded limits k room calls
bounded limits k room result calls reads each = go (last_of_calls calls)
  where
    go : (calls ≡ []) ⊎ HasLast calls → IsBounded limits k room calls
    go (inl none) = record {
      left = k;
      held = [];
      past = subst (λ l. RequestsPassed limits k (all_bytes l) k []) (sym none) (left_start limits k);
      small = omega arith;
      few = few_of result calls reads;
    }
    go (inr (before, last, is)) =
        let needed = each before [] last is in
        let piece = call_bytes last in
        let bytes : all_bytes calls ≡ all_bytes before ++ piece = ap all_bytes is ∙ flat_map-append call_bytes before (last ∷ []) ∙ ap (λ l. all_bytes before ++ l) (append-nil piece) in
        record {
          left = needed.left;
          held = needed.held ++ piece;
          past = subst (λ l. RequestsPassed limits k l needed.left (needed.held ++ piece)) (sym bytes) (left_fed limits k (all_bytes before) needed.left needed.held piece needed.past);
          small = omega (arith, needed.fits, length-append needed.held piece);
          few = few_of result calls reads;
        }
