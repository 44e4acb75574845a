-- A value of `Calls` owns nothing. So any list may stand beside its one machine word.
use Rattle.std.proofs.Common.{◌≡◌, List, [], ◌∷◌, refl, rules}
use seplogic.Ra.Ura.{Ura}
use mir.Val.{Val, vstruct, vcons, vnil}
use base.Logic.{ent, emp}
use types.Logic.{Logic, sem}
use base.Fml.{Fml}
use denote.Shadow.{Pure, shadow, makes_shadow}
use Rattle.osb_frames.specs.Calls.{Call}
use Rattle.osb_frames.specs.contracts.calls.Calls as Calls

abbrev pub marker : Val
marker = vstruct vnil

abbrev pub word : Val
word = vstruct (vcons marker vnil)

abbrev pub made : List Call → Calls.the_row.Denot
made calls = record { marker = record {}; list = calls }

-- what it owns, as a formula
abbrev owns : List Call → Fml
owns calls = Calls.the_row.own_val (made calls) (word ∷ [])

-- the formula speaks of no memory
facts_alone : (calls : List Call) → Pure (owns calls)
facts_alone calls = search rules

-- and what it says of the word holds: the struct is its marker, and the marker has no fields
holds : (calls : List Call) → shadow (owns calls)
holds calls =
    let no_fields : (fields : Unit {0}) × ((marker ∷ [] ≡ marker ∷ []) × Unit {0}) = (tt, (refl, tt)) in
    (((marker ∷ [], tt), (refl, (no_fields, tt))), tt)

pub word_owned : {M : Type 1} {𝓤 : Ura M} (𝓛 : Logic 𝓤) (calls : List Call) → ent 𝓤 (emp 𝓤) (sem 𝓛 (owns calls))
word_owned 𝓛 calls = makes_shadow 𝓛 (owns calls) (facts_alone calls) (holds calls)
