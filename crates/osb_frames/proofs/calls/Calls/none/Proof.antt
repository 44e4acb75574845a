-- The body makes the word that a `Calls` is. The list beside it is the empty one.
use Rattle.std.proofs.Common.{[], ◌∷◌, refl}
use Rattle.std.proofs.raw_atomic.Walks.{proved}
use base.Fml.{ftrue}
use types.Kit.{‵, raw, ◌⊛◌, ◌$◌, ◌∵◌, !, qed, done, move, keep, split, use0, suffices}
use types.Part.{agg}
use types.Run.{enter, no_more, and_then, returns}
use types.ByLocal.{alloc_all, pass_all, free_all, look_at, get, sets}
use denote.Triple.Entry.{alive}
use denote.Triple.Walked.{says, ends_at}
use Rattle.osb_frames.specs.contracts.calls.Calls as Calls
use Rattle.osb_frames.specs.contracts.calls.Calls.none as f
use Rattle.osb_frames.proofs.CallsOwned.{word, made, word_owned}
use Rattle.osb_frames.proofs.calls.Calls.none.Statement.{statement}
use Rattle.osb_frames.proofs.calls.Calls.none.Code as code

pub none_spec : {M : Type 1} → statement M
none_spec 𝓤 𝓛 𝓜 𝓡 wired =
    let c = f.clauses 𝓛 𝓜.mem 𝓡.returns in
    proved 𝓛 f.ended tt c 𝓜 𝓡 tt
    f.Key.name code.function (code.unfolded 𝓤 𝓛.H 𝓜 𝓡 wired)
    (λ κs. tt) (λ κs. tt) (λ κs qs bounds a _ are.
    qed 𝓛 ((raw (alive 𝓛 f.signature κs qs) ⊛ ‵ ftrue) ∷ ‵ ftrue ∷ []) ∵
    keep ! (0 ∷ []) $ split ! $
    enter ! _ _ _ _ _ $ alloc_all ! (λ l. pass_all ! refl tt $
    sets ! (agg ! (no_more !)) refl (tt, tt) $
    sets ! (agg ! (and_then ! (get ! refl) (no_more !))) refl (tt, (tt, tt)) $
    returns ! (look_at ! 0 refl) $ free_all ! refl $
    suffices ! _ (ends_at 𝓛 f.ended tt c ((κs, qs, bounds, a, tt), tt) word (made []) tt tt) $ says ! refl $
    use0 𝓛 (‵ (Calls.the_row.own_val (made []) (word ∷ []))) (word_owned 𝓛 []) $
    -- [the result; the tokens; no parameter]
    move ! (1 ∷ 2 ∷ 0 ∷ []) $ done !))
