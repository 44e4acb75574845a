-- The body makes the word that a `Calls` is. The list beside it is the old one and the call that was passed.
use Rattle.std.proofs.Common.{[], ◌∷◌, ◌++◌, refl}
use Rattle.std.specs.Option.{option_copied}
use Rattle.std.proofs.raw_atomic.Walks.{proved}
use mir.Syntax.{named}
use base.Fml.{ftrue}
use types.Kit.{‵, raw, ◌⊛◌, ◌$◌, ◌∵◌, !, qed, done, move, keep, split, join, use0, suffices}
use types.Part.{agg}
use types.Run.{enter, no_more, and_then, returns}
use types.ByLocal.{alloc_all, pass_all, free_all, look_at, get, sets}
use denote.Builtin.{u8, RefOf, SliceRefOf}
use denote.Exit.{yes}
use denote.RattleType.{owns}
use denote.Ref.{shr_vals, shr_Tells}
use denote.Signature.{Slot, plain, type_at, types_at}
use denote.Steps.{nothing}
use denote.Triple.Entry.{alive}
use denote.Triple.Walked.{says, ends_at, Stays, stay_dropped, Goes-dropped, walk_of}
use Rattle.std.specs.contracts.option.Option as Option
use Rattle.osb_frames.specs.contracts.calls.Calls as Calls
use Rattle.osb_frames.specs.contracts.calls.Calls.then as f
use Rattle.osb_frames.proofs.CallsOwned.{word, made, word_owned}
use Rattle.osb_frames.proofs.calls.Calls.then.Statement.{statement}
use Rattle.osb_frames.proofs.calls.Calls.then.Code as code

-- the types of the parameters
abbrev calls_ref : Slot 3
calls_ref = RefOf (0 ∷ []) tt (plain (λ _. Calls.the_row)) (λ _. tt)

abbrev bytes_ref : Slot 3
bytes_ref = SliceRefOf (2 ∷ []) tt (plain (λ _. u8)) (λ _. tt)

abbrev call_ref : Slot 3
call_ref = RefOf (1 ∷ []) tt (plain (λ κs. Option.the_row (type_at bytes_ref κs))) (λ _. tt)

abbrev stayed : Stays f.ended.signature.params f.ended.kept
stayed = (stay_dropped calls_ref yes, (stay_dropped call_ref yes, tt))

pub then_spec : {M : Type 1} → statement M
then_spec 𝓤 𝓛 𝓜 𝓡 wired =
    let c = f.clauses 𝓛 𝓜.mem 𝓡.returns in
    proved 𝓛 f.ended stayed c 𝓜 𝓡 (Goes-dropped 𝓛 3 calls_ref yes (λ κs x w. refl), (Goes-dropped 𝓛 3 call_ref yes (λ κs x w. refl), tt))
    f.Key.name code.function (code.unfolded 𝓤 𝓛.H 𝓜 𝓡 wired)
    (λ κs. (shr_vals, (shr_vals, tt)))
    (λ κs. (shr_Tells (named 0) κs.0 Calls.the_row, (shr_Tells (named 1) κs.1.0 (Option.the_row (type_at bytes_ref κs)), tt)))
    (λ κs qs bounds a _ are.
    let y : (walk_of 𝓛 f.ended stayed c).Ghost = ((κs, qs, bounds, a, (shr_vals a.0, (shr_vals a.1.0, tt))), tt) in
    let after = a.0.now.list ++ option_copied a.1.0.now ∷ [] in
    qed 𝓛 ((raw (alive 𝓛 f.signature κs qs) ⊛ ‵ (owns (types_at f.signature.params κs) a y.0.4)) ∷ ‵ ftrue ∷ []) ∵
    keep ! (0 ∷ []) $ split ! $ keep ! (0 ∷ []) $
    enter ! _ _ _ _ _ $ alloc_all ! (λ l. pass_all ! refl ((tt, tt), ((tt, tt), tt)) $
    sets ! (agg ! (no_more !)) refl (tt, tt) $
    sets ! (agg ! (and_then ! (get ! refl) (no_more !))) refl (tt, (tt, tt)) $
    returns ! (look_at ! 0 refl) $ free_all ! refl $
    suffices ! _ (ends_at 𝓛 f.ended stayed c y word (made after) (tt, (tt, tt)) (tt, (tt, tt))) $ says ! refl $
    use0 𝓛 (‵ (Calls.the_row.own_val (made after) (word ∷ []))) (word_owned 𝓛 after) $
    -- [the result; the tokens], and nothing is left of the two parameters
    nothing ! $ nothing ! $ join ! $ nothing ! $ join ! $ move ! (2 ∷ 0 ∷ 1 ∷ []) $ done !))
