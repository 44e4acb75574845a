-- One pass over contexts, in which each that is wanted belongs to the next item.
use Rattle.std.proofs.Common.{append-nil, append_assoc, ◌≡◌, List, [], ◌∷◌, ◌++◌, map, filter, Bool, true, false, cond, Option, None, Some, option_map, refl, sym, ap, subst, ◌∙◌}
use Rattle.std.proofs.lemmas.Option.{same_Some}
use Rattle.osb_joined.specs.declared.entry.ContextEntry.{ContextEntry}
use Rattle.osb_joined.proofs.ListLemmas.{same_head, same_tail, filter_hit, filter_miss}

module _ {X : Type 0} (wants : ContextEntry → Bool) (fits : ContextEntry → X → Bool) (joins : ContextEntry → X → X) where
  -- the items, joined; nothing where they don't fit
  abbrev pub pass : List ContextEntry → List X → Option (List X)
  pass [] [] = Some []
  pass [] (x ∷ xs) = None
  pass (c ∷ cs) [] = cond (wants c) None (pass cs [])
  pass (c ∷ cs) (x ∷ xs) = cond (wants c) (cond (fits c x) (option_map (λ later. joins c x ∷ later) (pass cs xs)) None) (pass cs (x ∷ xs))

  skipped : (c : ContextEntry) (cs : List ContextEntry) (xs : List X) → wants c ≡ false → pass (c ∷ cs) xs ≡ pass cs xs
  skipped c cs [] is = ap (λ b. cond b None (pass cs [])) is
  skipped c cs (x ∷ xs) is = ap (λ b. cond b (cond (fits c x) (option_map (λ later. joins c x ∷ later) (pass cs xs)) None) (pass cs (x ∷ xs))) is

  -- ---- in the loop

  -- what is left gives what the whole gives
  abbrev pub Passes : List ContextEntry → List X → List X → List ContextEntry → List X → Type 0
  Passes contexts all done rest left = pass contexts all ≡ option_map (λ later. done ++ later) (pass rest left)

  pub passes_first : (contexts : List ContextEntry) (all done : List X) → done ≡ [] → Passes contexts all done contexts all
  passes_first contexts all done none = sym (ap (λ done. option_map (λ later. done ++ later) (pass contexts all)) none ∙ same (pass contexts all))
    where
      same : (o : Option (List X)) → option_map (λ (later : List X). [] ++ later) o ≡ o
      same None = refl
      same (Some xs) = refl

  module _ (contexts : List ContextEntry) (all done left : List X) (rest : List ContextEntry) (c : ContextEntry) (cs : List ContextEntry) (is : rest ≡ c ∷ cs) (so_far : Passes contexts all done rest left) where
    now : Passes contexts all done (c ∷ cs) left
    now = subst (λ rest. Passes contexts all done rest left) is so_far

    pub passes_by : wants c ≡ false → Passes contexts all done cs left
    passes_by other = now ∙ ap (option_map (λ later. done ++ later)) (skipped c cs left other)

    module _ (wanted : wants c ≡ true) where
      pub passes_none : left ≡ [] → pass contexts all ≡ None
      passes_none none = now ∙ ap (option_map (λ later. done ++ later)) (ap (pass (c ∷ cs)) none ∙ ap (λ b. cond b None (pass cs [])) wanted)

      module _ (x : X) (later : List X) (left_is : left ≡ x ∷ later) where
        at : (fit : Bool) → fits c x ≡ fit → pass (c ∷ cs) left ≡ cond fit (option_map (λ later. joins c x ∷ later) (pass cs later)) None
        at fit fit_is = ap (pass (c ∷ cs)) left_is
            ∙ ap (λ b. cond b (cond (fits c x) (option_map (λ later. joins c x ∷ later) (pass cs later)) None) (pass cs (x ∷ later))) wanted
            ∙ ap (λ b. cond b (option_map (λ later. joins c x ∷ later) (pass cs later)) None) fit_is

        pub passes_other : fits c x ≡ false → pass contexts all ≡ None
        passes_other misses = now ∙ ap (option_map (λ later. done ++ later)) (at false misses)

        pub passes_on : fits c x ≡ true → (next : List X) → next ≡ done ++ joins c x ∷ [] → Passes contexts all next cs later
        passes_on fit next grown = now ∙ ap (option_map (λ later. done ++ later)) (at true fit) ∙ go (pass cs later) ∙ sym (ap (λ next. option_map (λ later. next ++ later) (pass cs later)) grown)
          where
            go : (o : Option (List X)) → option_map (λ later. done ++ later) (option_map (λ later. joins c x ∷ later) o) ≡ option_map (λ later. (done ++ joins c x ∷ []) ++ later) o
            go None = refl
            go (Some ys) = ap Some (sym (append_assoc done (joins c x ∷ []) ys))

  module _ (contexts : List ContextEntry) (all done left : List X) (rest : List ContextEntry) (is : rest ≡ []) (so_far : Passes contexts all done rest left) where
    pub passed : left ≡ [] → pass contexts all ≡ Some done
    passed none = so_far ∙ (λ i. option_map (λ later. done ++ later) (pass (is i) (none i))) ∙ ap Some (append-nil done)

    pub items_left : (x : X) (later : List X) → left ≡ x ∷ later → pass contexts all ≡ None
    items_left x later more = so_far ∙ (λ i. option_map (λ later. done ++ later) (pass (is i) (more i)))

  -- ---- what it means

  module _ (bare : X → X) (entry : X → ContextEntry)
      (joined : (c : ContextEntry) (x : X) → wants c ≡ true → fits c x ≡ true → (bare (joins c x) ≡ bare x) × (entry (joins c x) ≡ c))
      (only : (c : ContextEntry) (x y : X) → wants c ≡ true → bare y ≡ bare x → c ≡ entry y → (fits c x ≡ true) × (joins c x ≡ y)) where
    abbrev pub AreWith : List ContextEntry → List X → List X → Type 0
    AreWith contexts xs ys = (map bare ys ≡ map bare xs) × (filter wants contexts ≡ map entry ys)

    one_more : (c : ContextEntry) (cs : List ContextEntry) (x : X) (xs ys : List X) → wants c ≡ true → fits c x ≡ true → (o : Option (List X)) → ((later : List X) → o ≡ Some later → AreWith cs xs later)
        → option_map (λ later. joins c x ∷ later) o ≡ Some ys → AreWith (c ∷ cs) (x ∷ xs) ys
    one_more c cs x xs ys wanted fit None more is = cc
    one_more c cs x xs ys wanted fit (Some later) more is =
        let here = joined c x wanted fit in
        let rest : AreWith cs xs later = more later refl in
        subst (AreWith (c ∷ cs) (x ∷ xs)) (same_Some _ _ is) ((λ i. here.0 i ∷ rest.0 i), filter_hit wants c cs wanted ∙ (λ i. sym here.1 i ∷ rest.1 i))

    pub pass_gives : (contexts : List ContextEntry) (xs ys : List X) → pass contexts xs ≡ Some ys → AreWith contexts xs ys
    pass_gives [] [] ys is = subst (AreWith [] []) (same_Some _ _ is) (refl, refl)
    pass_gives [] (x ∷ xs) ys is = cc
    pass_gives (c ∷ cs) [] ys is = go (wants c) refl is (pass_gives cs [] ys)
      where
        go : (b : Bool) → wants c ≡ b → cond b None (pass cs []) ≡ Some ys → (pass cs [] ≡ Some ys → AreWith cs [] ys) → AreWith (c ∷ cs) [] ys
        go true wanted is more = cc
        go false other is more = let rest = more is in (rest.0, filter_miss wants c cs other ∙ rest.1)
    pass_gives (c ∷ cs) (x ∷ xs) ys is = go (wants c) (fits c x) refl refl is (pass_gives cs (x ∷ xs) ys) (pass_gives cs xs)
      where
        go : (b fit : Bool) → wants c ≡ b → fits c x ≡ fit → cond b (cond fit (option_map (λ later. joins c x ∷ later) (pass cs xs)) None) (pass cs (x ∷ xs)) ≡ Some ys
            → (pass cs (x ∷ xs) ≡ Some ys → AreWith cs (x ∷ xs) ys) → ((later : List X) → pass cs xs ≡ Some later → AreWith cs xs later) → AreWith (c ∷ cs) (x ∷ xs) ys
        go true true wanted fit is skips more = one_more c cs x xs ys wanted fit (pass cs xs) more is
        go true false wanted fit is skips more = cc
        go false fit other fit_is is skips more = let rest = skips is in (rest.0, filter_miss wants c cs other ∙ rest.1)

    pub pass_finds : (contexts : List ContextEntry) (xs ys : List X) → AreWith contexts xs ys → pass contexts xs ≡ Some ys
    pass_finds [] [] [] h = refl
    pass_finds [] (x ∷ xs) [] h = let none : [] ≡ bare x ∷ map bare xs = h.0 in cc
    pass_finds [] xs (y ∷ ys) h = let none : [] ≡ entry y ∷ map entry ys = h.1 in cc
    pass_finds (c ∷ cs) [] ys h = go (wants c) refl ys h.0 h.1 (λ more. pass_finds cs [] ys (h.0, more))
      where
        go : (b : Bool) → wants c ≡ b → (ys : List X) → map bare ys ≡ [] → cond b (c ∷ filter wants cs) (filter wants cs) ≡ map entry ys → (filter wants cs ≡ map entry ys → pass cs [] ≡ Some ys) → cond b None (pass cs []) ≡ Some ys
        go true wanted [] none is more = cc
        go true wanted (y ∷ ys) none is more = cc
        go false other ys none is more = more is
    pass_finds (c ∷ cs) (x ∷ xs) ys h = go (wants c) refl ys h.0 h.1 (λ more. pass_finds cs (x ∷ xs) ys (h.0, more)) (pass_finds cs xs)
      where
        go : (b : Bool) → wants c ≡ b → (ys : List X) → map bare ys ≡ bare x ∷ map bare xs → cond b (c ∷ filter wants cs) (filter wants cs) ≡ map entry ys
            → (filter wants cs ≡ map entry ys → pass cs (x ∷ xs) ≡ Some ys) → ((ys : List X) → AreWith cs xs ys → pass cs xs ≡ Some ys)
            → cond b (cond (fits c x) (option_map (λ later. joins c x ∷ later) (pass cs xs)) None) (pass cs (x ∷ xs)) ≡ Some ys
        go true wanted [] same is skips more = cc
        go true wanted (y ∷ ys) same is skips more =
            let here = only c x y wanted (same_head same) (same_head is) in
            (λ i. cond (here.0 i) (option_map (λ later. joins c x ∷ later) (more ys (same_tail same, same_tail is) i)) None) ∙ ap (λ y. Some (y ∷ ys)) here.1
        go false other ys same is skips more = skips is
