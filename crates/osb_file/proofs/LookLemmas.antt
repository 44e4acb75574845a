-- Files in memory, and that none of them gives other bytes than were written.
use Rattle.std.proofs.Common.{◌≡◌, ◌+◌, ◌<◌, ℕ, Bool, true, false, ◌&&◌, List, [], ◌∷◌, length, slice_index, refl, sym, subst, ap, ◌∙◌, arith}
use Rattle.std.specs.Prelude.{Result, Ok, Err, IfOk}
use Rattle.std.proofs.lemmas.Grind.{same_number_lists}
use Rattle.sqlite_disk.specs.Disk.{Holds, Torn}
use Rattle.sqlite_disk.specs.declared.Disk as disk
use Rattle.sqlite_store.specs.declared.store.FileStore.{FileStore}
use Rattle.sqlite_pool.specs.Pool.{state}
use Rattle.sqlite.specs.Held.{Held}
use Rattle.sqlite.specs.State.{HasCleanDisk}
use Rattle.sqlite_trees.specs.View.{doubt}
use Rattle.sqlite.specs.Files.{file_state}

no_offset : (i : ℕ) → 0 + i ≡ i
no_offset i = omega arith

nothing : (file : List ℕ) → Torn 0 0 [] file → file ≡ []
nothing [] torn = refl
nothing (byte ∷ file) torn = absurd (omega (arith, torn.no_longer))

-- what was written into an empty file is all of it
pub written : (bytes file : List ℕ) → (0 < length bytes → Holds file 0 bytes) → Torn 0 (length bytes) [] file → file ≡ bytes
written [] file holds torn = nothing file torn
written (byte ∷ bytes) file holds torn =
    let held = holds (omega arith) in
    same_number_lists file (byte ∷ bytes) (omega (arith, held.within, torn.no_longer)) (λ i less. ap (λ at. slice_index file at) (sym (no_offset i)) ∙ held.each i (omega (arith, less, held.within, torn.no_longer)))

both : (a b : Bool) → a ≡ true → b ≡ true → (a && b) ≡ true
both true true e f = refl
both true false e f = f
both false b e f = e

-- where no disk lies, no store over two of them has met a lie
pub honest_is_clean : {D : Type 0} {g : disk.Ghosts D} → ((it : D) → g.is_clean it ≡ true) → (c : Held (FileStore D g)) → HasCleanDisk (file_state c)
unfolding doubt state
honest_is_clean honest c =
    let log = c.store.pool.backing.pager.log in
    subst (λ b. doubt b ≡ 0) (sym (both _ _ (honest log.log) (honest log.db))) refl

pub if_ok_so : {V E : Type 0} {A B : V → Type 0} (result : Result V E) → ((value : V) → A value → B value) → IfOk result A → IfOk result B
if_ok_so (Ok value) so is = so value is
if_ok_so (Err error) so is = is
