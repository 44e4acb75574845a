-- What a list of reads gave.
use Rattle.std.proofs.Common.{◌≡◌, ◌⊎◌, ℕ, ◌≤◌, inl, inr, List, [], ◌∷◌, ◌++◌, length, None, Some, true≢false, refl, ap, ◌∙◌, arith}
use Rattle.std.proofs.lemmas.Grind.{flat_map-append}
use Rattle.std.proofs.lemmas.List.{append-nil, length-append}
use Rattle.osb_frames.specs.Calls.{Call, all_bytes, call_bytes}
use Rattle.osb_broker.specs.Serving.{EachGaveBytes}

-- with one read more
pub all_more : (calls : List Call) (piece : List ℕ) → all_bytes (calls ++ Some piece ∷ []) ≡ all_bytes calls ++ piece
all_more calls piece = flat_map-append call_bytes calls (Some piece ∷ []) ∙ ap (λ l. all_bytes calls ++ l) (append-nil piece)

pub all_failed : (calls : List Call) → all_bytes (calls ++ None ∷ []) ≡ all_bytes calls
all_failed calls = flat_map-append call_bytes calls (None ∷ []) ∙ append-nil (all_bytes calls)

-- each read that gave bytes gave one at least
pub few_reads : (calls : List Call) → EachGaveBytes calls → length calls ≤ length (all_bytes calls)
few_reads [] gave_bytes = omega arith
few_reads (None ∷ calls) gave_bytes = absurd (true≢false gave_bytes.0)
few_reads (Some [] ∷ calls) gave_bytes = absurd (true≢false gave_bytes.0)
few_reads (Some (byte ∷ bytes) ∷ calls) gave_bytes = let more = few_reads calls gave_bytes.1 in omega (arith, more, length-append bytes (all_bytes calls))

-- an item of a list with one more is the last, or one of those before
pub split_last : (items : List Call) (last : Call) (before : List Call) (item : Call) (after : List Call) → items ++ last ∷ [] ≡ before ++ item ∷ after
    → ((items ≡ before) × (last ≡ item)) ⊎ ((later : List Call) × (items ≡ before ++ item ∷ later))
split_last [] last [] item after e = inl (refl, cc)
split_last [] last (first ∷ before) item after e = absurd (omega (arith, ap length e, length-append before (item ∷ after)))
split_last (first ∷ items) last [] item after e = inr (items, cc)
split_last (first ∷ items) last (one ∷ before) item after e = go (split_last items last before item after cc)
  where
    same : first ≡ one
    same = cc

    go : ((items ≡ before) × (last ≡ item)) ⊎ ((later : List Call) × (items ≡ before ++ item ∷ later))
        → ((first ∷ items ≡ one ∷ before) × (last ≡ item)) ⊎ ((later : List Call) × (first ∷ items ≡ one ∷ (before ++ item ∷ later)))
    go (inl (p, q)) = inl ((λ i. same i ∷ p i), q)
    go (inr (later, p)) = inr (later, (λ i. same i ∷ p i))

-- lists with one more are the same, so these are too
pub same_last : (calls before : List Call) (last item : Call) → calls ++ last ∷ [] ≡ before ++ item ∷ [] → last ≡ item
same_last calls before last item e = elim (split_last calls last before item [] e) [
  | inl both ↦ both.1
  | inr (later, is) ↦ absurd (omega (arith, ap length e, ap length is, length-append calls (last ∷ []), length-append before (item ∷ []), length-append before (item ∷ later)))
]
