-- What the files have that a command names, as far as it is known.
use Rattle.std.specs.Prelude.{◌≡◌, Bool, List, ℕ, [], ◌∷◌, Option, IfSome}
use Rattle.osb_file.specs.declared.copied.Copied.{Copied}

-- the bytes of a file, those of the log of a database file, and whether every user may read or write a file, each by the
-- file's name
pub record Contents : Type 0 where
  pub file : List ℕ → Option (List ℕ)
  pub log : List ℕ → Option (List ℕ)
  pub is_shared : List ℕ → Option Bool

-- these are the bytes of the file of that name
abbrev pub AreBytesOf : Contents → List ℕ → List ℕ → Type 0
AreBytesOf contents name bytes = IfSome (contents.file name) (λ all. all ≡ bytes)

-- whether every user may read or write the file of that name
abbrev pub IsShared : Contents → List ℕ → Bool → Type 0
IsShared contents name shared = IfSome (contents.is_shared name) (λ it. it ≡ shared)

-- of each of the files
abbrev pub AreBytesOfAll : Contents → List (List ℕ) → List (List ℕ) → Type 0
AreBytesOfAll contents [] [] = Unit {0}
AreBytesOfAll contents (name ∷ names) (bytes ∷ files) =
    AreBytesOf contents name bytes × AreBytesOfAll contents names files
AreBytesOfAll contents [] (bytes ∷ files) = ⊥
AreBytesOfAll contents (name ∷ names) [] = ⊥

-- these are the bytes of the database file of that name and of its log
abbrev pub IsCopyOf : Contents → List ℕ → Copied → Type 0
IsCopyOf contents name copied =
    AreBytesOf contents name copied.database.items
    × IfSome (contents.log name) (λ all. all ≡ copied.log.items)
