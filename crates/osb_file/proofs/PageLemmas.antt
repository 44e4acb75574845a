-- The page of a new file: by what it begins with it holds a database without tables.
use Rattle.std.proofs.Common.{◌≡◌, ℕ, zero, suc, true, false, List, [], length, take, slice_index, refl, sym, subst, subst₂, inl, inr, arith, ne_eqb}
use Rattle.std.proofs.lemmas.Bool.{cases_eq}
use Rattle.sqlite_format.specs.declared.kind.Kind.{Kind}
use Rattle.sqlite_format.specs.declared.kind.Tree.TheVariants.{Table}
use Rattle.sqlite_format.specs.Bytes.{u16_at}
use Rattle.sqlite_format.specs.Page.{IsPage, cell_count, content_start, first_freeblock, free_total, page_cells, IsClearOfCells, IsFreeChain, IsTiled}
use Rattle.sqlite_wal.specs.Recovery.{Image, AreWhole, only_page, pages_after}
use Rattle.sqlite_wal.proofs.CreateLemmas.{pages_of_one}
use Rattle.sqlite_pool.specs.Header.{IsHeader, stated_page_count, first_trunk, free_count}
use Rattle.sqlite_pool.specs.Stored.{AreSealed, Recovers, sealed, stored_size, trimmed}
use Rattle.sqlite_pool.specs.StoredLaws.{only_sealed}
use Rattle.sqlite_pool.specs.File.{IsSaved, in_use}
use Rattle.sqlite_pool.specs.Opening.{IsNew}
use Rattle.sqlite_pool.proofs.FileLemmas.{saved_sound}
use Rattle.sqlite_pool.proofs.ResealLemmas.{adopts_of}
use Rattle.sqlite_store.specs.Listing.{file_trees}
use Rattle.sqlite_store.specs.Listed.{catalog_rows}
use Rattle.sqlite_store.proofs.BuildLemmas.{new_is_empty}
use Rattle.sqlite.specs.Tree.{Trees}
use Rattle.sqlite.proofs.ListingLemmas.{empty_is_sound}
use Rattle.osb_file.specs.File.{HoldsNoTables}

-- a leaf of a table
abbrev leaf : Kind
leaf = record { tree = Table; leaf = true }

-- a page that counts itself, and no free page, and has a table without rows
pub record IsBlankPage (page : List ℕ) : Type 0 where
  pub long : length page ≡ 1024
  pub header : IsHeader 1024 (take 100 page)
  pub pages : stated_page_count (take 100 page) ≡ 1
  pub trunk : first_trunk (take 100 page) ≡ 0
  pub free : free_count (take 100 page) ≡ 0
  pub flag : slice_index page 100 ≡ 13
  pub freeblock : u16_at page 101 ≡ 0
  pub cells : u16_at page 103 ≡ 0
  pub content : u16_at page 105 ≡ 1024
  pub fragments : slice_index page 107 ≡ 0

module _ (page : List ℕ) (blank : IsBlankPage page) where
  -- ---- the table of the schema

  no_cell : cell_count page 100 ≡ 0
  unfolding cell_count
  no_cell = blank.cells

  starts : content_start page 100 ≡ 1024
  unfolding content_start
  starts = rw blank.content refl

  no_cells : page_cells leaf page 100 ≡ []
  unfolding page_cells
  no_cells = rw no_cell refl

  no_chain : (Clear : ℕ → ℕ → Type 0) (fuel low at : ℕ) → at ≡ 0 → IsFreeChain page Clear fuel low at
  no_chain Clear zero low at none = none
  no_chain Clear (suc fuel) low at none = inl none

  nothing_free : (fuel at : ℕ) → at ≡ 0 → free_total page fuel at ≡ 0
  nothing_free zero at none = refl
  nothing_free (suc fuel) at none = rw none refl

  tiled : IsTiled leaf page 100
  unfolding IsTiled
  tiled = (
    no_chain (IsClearOfCells leaf page 100) (length page) (content_start page 100) (first_freeblock page 100) blank.freeblock,
    rw (no_cells, starts, nothing_free (length page) (first_freeblock page 100) blank.freeblock, blank.fragments, blank.long) refl,
    rw blank.fragments (omega arith),
  )

  is_leaf : IsPage leaf page 100
  is_leaf = record {
    usable = (omega (arith, blank.long), omega (arith, blank.long));
    flag = blank.flag;
    pointers = rw (no_cell, starts) (omega arith);
    inside = λ i low. absurd (omega (arith, low, no_cell));
    room = rw (no_cells, starts, blank.long) (omega arith);
    apart = λ i j low high other. absurd (omega (arith, low, no_cell));
    tiled = tiled;
  }

  -- ---- the file

  saved : IsSaved 1024 (only_page page) (take 100 page) (λ n. false)
  saved = record {
    tracks = record {
      valid = blank.header;
      trunks = [];
      flagged = λ n. refl;
      lists = record {
        list = record { linked = tt; once = λ n. omega arith; real = λ n listed. absurd (omega (arith, listed)) };
        first = sym blank.trunk;
        count = sym blank.free;
      };
    };
    stored = refl;
    counted = rw blank.pages (λ n. elim (cases_eq n 1) [
      | inl one ↦ rw one (λ some. (omega arith, omega arith), λ within. refl)
      | inr other ↦ rw (ne_eqb n 1 other) (λ some. absurd (cc), λ within. absurd (omega (arith, other, within.0, within.1)))
    ]);
  }

  is_new : IsNew 1024 (only_page page)
  is_new = record { first = page; only = refl; len = blank.long; large = omega arith; small = omega arith; sound = (saved_sound saved).0; leaf = is_leaf; empty = no_cells }

  -- a page of this size has no sum
  unsealed : sealed page ≡ page
  unfolding sealed
  unsealed = rw blank.long refl

  whole : AreWhole 1024 (only_page page)
  whole = subst₂ (λ n p. AreWhole (stored_size n) (only_page p)) blank.long unsealed (only_sealed page).2

  abbrev image : Image
  image = record { log = []; db = page }

  recovers : Recovers 1024 image (only_page page)
  recovers = record {
    stored = only_page page;
    found = record {
      frames = 0;
      replays = inl (inl (omega arith), refl);
      present = omega (arith, blank.long);
      gives = subst (λ n. pages_after n [] page 0 ≡ only_page page) blank.long (pages_of_one page [] (omega (arith, blank.long)));
    };
    whole = whole;
    sealed = subst₂ (λ n p. AreSealed n (only_page p)) blank.long unsealed (only_sealed page).1;
    shows = subst₂ (λ n p. trimmed n (only_page p) ≡ only_page page) blank.long unsealed (only_sealed page).0;
    present = omega (arith, blank.long);
  }

  pub no_tables : HoldsNoTables page
  no_tables =
      let pages = only_page page in
      let empty = new_is_empty 1024 pages whole is_new in
      let db : Trees = file_trees 1024 [] pages in
      let sound = empty_is_sound db (catalog_rows 1024 [] (in_use 1024 pages)) in (
        db,
        (
          1024,
          (omega arith, omega arith, refl, refl),
          record {
            pages = pages;
            wanted = [];
            schema = _;
            found = adopts_of 1024 image pages recovers;
            ours = record { file = empty.0; numbered = λ _. record { listed = empty.1; spaced = refl; ordered = refl } };
            reads = refl;
            sound = sound;
          },
        ),
        sound,
      )
