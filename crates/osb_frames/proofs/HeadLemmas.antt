-- What the parser says of a window at the front of a buffer, as facts on heads within the limits.
use Rattle.std.proofs.Common.{◌≡◌, ℕ, suc, ◌≤◌, List, [], ◌∷◌, ◌++◌, length, map, take, drop, refl, sym, ap, subst, ◌∙◌, arith, append_assoc, All}
use Rattle.std.proofs.Math.Seq.{drop-append_seam, take-append_seam}
use Rattle.std.proofs.lemmas.Bool.{le-leb}
use Rattle.std.proofs.lemmas.List.{take-append-drop, take-append-le, length-take, length-map, take_all}
use Rattle.httparse.specs.declared.spans.HeaderSpan.{HeaderSpan}
use Rattle.httparse.specs.declared.spans.Span.{Span}
use Rattle.httparse.specs.Grammar.{RequestHead, print_request, ReadsRequest, HasNoRequest}
use Rattle.httparse.specs.Spans.{AreFieldsAt, IsHeaderWithin, IsWithin, RequestOverflows, RequestExceeds, header_bytes, span_bytes}
use Rattle.httparse.proofs.GrammarLemmas.{ReadsRequest-append}
use Rattle.osb_frames.specs.declared.limits.Limits.{Limits}
use Rattle.osb_frames.specs.Heads.{HeadAt, HasNoHead}
use Rattle.osb_frames.specs.Line.{line_in, part}

-- the field lines of a head are as many as the spans that cover them
pub as_many_lines : (window : List ℕ) (spans : List HeaderSpan) (count : ℕ) (h : RequestHead) → AreFieldsAt window spans count h.fields → length h.fields ≤ length spans
as_many_lines window spans count h are =
    omega (arith, simp (length-map, length-take) at (ap length are))

-- a span within the bytes covers that part of them
part_within : (n : ℕ) (bytes : List ℕ) (span : Span) → n ≤ length bytes → IsWithin n span → part bytes span.start span.end ≡ span_bytes bytes span
part_within n bytes span inside within = rw (le-leb span.start span.end within.0, le-leb span.end (length bytes) (omega (arith, within.1))) refl

-- and so do the spans of field lines
pub lines_within : (n : ℕ) (bytes : List ℕ) (spans : List HeaderSpan) → n ≤ length bytes → All (IsHeaderWithin n) spans → map (line_in bytes) spans ≡ map (header_bytes bytes) spans
lines_within n bytes [] inside within = refl
lines_within n bytes (span ∷ spans) inside within =
    let first = within 0 span (omega arith) in
    let later : All (IsHeaderWithin n) spans = λ k d h. within (suc k) d (omega (arith, h)) in
    (λ i. (part_within n bytes span.name inside first.0 i, part_within n bytes span.value inside first.1 i) ∷ lines_within n bytes spans inside later i)

module _ (limits : Limits) (buf : List ℕ) (m : ℕ) where
  -- a head of the window is one of the buffer
  pub head_of_window : (n : ℕ) (h : RequestHead) → ReadsRequest (take m buf) h (drop n (take m buf)) → n ≡ length (print_request h) → n ≤ limits.head → length h.fields ≤ limits.fields → HeadAt limits buf h (drop n buf)
  head_of_window n h reads len fits room =
      let rest = drop n (take m buf) ++ drop m buf in
      let whole = subst (λ l. ReadsRequest l h rest) (take-append-drop m buf) (ReadsRequest-append (take m buf) h (drop n (take m buf)) (drop m buf) reads) in
      let behind : drop n buf ≡ rest = ap (drop n) whole.1 ∙ ap (λ k. drop k (print_request h ++ rest)) len ∙ drop-append_seam (print_request h) rest in
      record { reads = subst (ReadsRequest buf h) (sym behind) whole; fits = omega arith; room = room }

  -- what is never so of the window is never so of the buffer
  never : ((more : List ℕ) → HasNoHead limits (take m buf ++ more)) → (more : List ℕ) → HasNoHead limits (buf ++ more)
  never none more =
      subst (HasNoHead limits) (sym (append_assoc (take m buf) (drop m buf) more) ∙ ap (λ l. l ++ more) (take-append-drop m buf)) (none (drop m buf ++ more))

  -- each head of the window has too many field lines
  pub never_from_room : (room : ℕ) → room ≡ limits.fields → RequestOverflows room (take m buf) → (more : List ℕ) → HasNoHead limits (buf ++ more)
  never_from_room room all over = never (λ more h rest x. let large = over more h rest x.reads in let small = x.room in omega arith)

  -- a full window has no head
  pub never_from_full : limits.head ≤ m → m ≤ length buf → HasNoRequest (take m buf) → (more : List ℕ) → HasNoHead limits (buf ++ more)
  never_from_full full inside none =
      never (λ more h rest x.
      let n = length (print_request h) in
      let fits = x.fits in
      let short : n ≤ length (take m buf) = omega (arith, length-take m buf) in
      let front = sym (take-append-le n (take m buf) more short) ∙ ap (take n) x.reads.1 ∙ take-append_seam (print_request h) rest in
      none h _ (x.reads.0, sym (take-append-drop n (take m buf)) ∙ ap (λ l. l ++ drop n (take m buf)) front))

  -- too many field lines, in a window that is the whole buffer
  pub exceeds_whole : (room : ℕ) → room ≡ limits.fields → length buf ≤ m → RequestExceeds room (take m buf) → RequestExceeds limits.fields buf
  exceeds_whole room all inside exceeds = rw (all, take_all m buf inside) at exceeds
