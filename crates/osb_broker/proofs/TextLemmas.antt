-- A connection's texts, from its cut.
use Rattle.std.proofs.Common.{◌≡◌, ℕ, zero, suc, ◌==◌, Bool, true, false, cond, List, [], ◌∷◌, drop, map, sym, refl, ap, subst, ◌∙◌}
use Rattle.osb_frames.specs.declared.limits.Limits.{Limits}
use Rattle.osb_frames.specs.Cuts.{Message, closes, whole, End, Cuts}
use Rattle.osb_frames.proofs.FrontLemmas.{front_unique}
use Rattle.osb_frames.proofs.CutLemmas.{no_end, exact_cut}
use Rattle.osb_replies.specs.Text.{reply_text}
use Rattle.osb_broker.specs.Machine.{Machine, reply_of}
use Rattle.osb_broker.specs.Connection.{replies_of, AreMarks, looked_for, ConnectionText}

module _ {S : Type 0} (machine : Machine S) (limits : Limits) where
  abbrev Same : ℕ → S → List Message → End → List Message → End → List Bool → Type 0
  Same k s qs end others over marks = replies_of machine k s qs end marks ≡ replies_of machine k s others over marks

  both : (k : ℕ) (s : S) (qs others : List Message) (end over : End) (marks : List Bool) → qs ≡ others → end ≡ over → Same k s qs end others over marks
  both k s qs others end over marks a b = ap (λ l. replies_of machine k s l end marks) a ∙ ap (λ e. replies_of machine k s others e marks) b

  -- a cut that goes on, and one that goes on as far as is looked for
  goes_both : (k : ℕ) (later : List ℕ) (s : S) (qs others : List Message) (end over : End) (marks : List Bool) (c : Bool) → Cuts limits (cond c 0 k) later qs end → Cuts limits (cond c 0 (looked_for k marks)) later others over → (Cuts limits k later qs end → Cuts limits (looked_for k marks) later others over → Same k s qs end others over marks) → Same k s qs end others over marks
  goes_both k later s qs others end over marks true (a, b) (x, y) more = both k s qs others end over marks (a ∙ sym x) (b ∙ sym y)
  goes_both k later s qs others end over marks false cut short more = more cut short

  -- nothing behind what is looked for is answered
  same_replies : (k : ℕ) (s : S) (bytes : List ℕ) (qs others : List Message) (end over : End) (marks : List Bool) → Cuts limits k bytes qs end → Cuts limits (looked_for k marks) bytes others over → AreMarks machine others marks → Same k s qs end others over marks
  same_replies zero s bytes qs others end over marks cut short are = refl
  same_replies (suc k) s bytes qs (q ∷ others) end over [] cut short are = absurd are
  same_replies (suc k) s bytes qs [] end over [] cut short are =
      let same = (exact_cut limits (suc k) bytes).one qs [] end over cut short in
      both (suc k) s qs [] end over [] same.0 same.1
  same_replies (suc k) s bytes qs [] end over (mark ∷ marks) cut short are = absurd are
  same_replies (suc k) s bytes [] (q ∷ others) end over (true ∷ marks) cut (n, at, more) are = absurd (no_end limits bytes end q n cut at)
  same_replies (suc k) s bytes [] (q ∷ others) end over (false ∷ marks) cut (n, at, more) are = absurd (no_end limits bytes end q n cut at)
  same_replies (suc k) s bytes (p ∷ qs) (q ∷ others) end over (true ∷ marks) cut short are = refl
  same_replies (suc k) s bytes (p ∷ qs) (q ∷ others) end over (false ∷ marks) (m, here, goes) (n, at, more) are =
      let same = front_unique limits bytes (whole p m) (whole q n) here at in
      let first : p ≡ q = cc in
      let size : m ≡ n = cc in
      let by_first = subst (λ r. Cuts limits (cond (closes r) 0 k) (drop m bytes) qs end) first goes in
      let cut = subst (λ x. Cuts limits (cond (closes q) 0 k) (drop x bytes) qs end) size by_first in
      let rest = goes_both k (drop n bytes) (machine.step s q).1 qs others end over marks (closes q) cut more (λ cut short. same_replies k (machine.step s q).1 (drop n bytes) qs others end over marks cut short are.1) in
      let both_go : replies_of machine (suc k) s (q ∷ qs) end (false ∷ marks) ≡ replies_of machine (suc k) s (q ∷ others) over (false ∷ marks) = ap (λ r. (reply_of q (k == 0) (machine.step s q).0 ∷ r.0, r.1)) rest in
      ap (λ r. replies_of machine (suc k) s (r ∷ qs) end (false ∷ marks)) first ∙ both_go

pub of_cut : {S : Type 0} (machine : Machine S) (limits : Limits) (k : ℕ) (s : S) (bytes : List ℕ) (qs : List Message) (end : End) (marks : List Bool) (texts : List (List ℕ)) (t : S) → Cuts limits k bytes qs end → ConnectionText machine limits k s bytes marks texts t → (texts ≡ map reply_text (replies_of machine k s qs end marks).0) × (t ≡ (replies_of machine k s qs end marks).1)
of_cut machine limits k s bytes qs end marks texts t cut text =
    let same = sym (same_replies machine limits k s bytes qs text.requests end text.end marks cut text.cut text.marked) in
    (text.printed ∙ ap (λ r. map reply_text r.0) same, text.leaves ∙ ap (λ r. r.1) same)
