-- Lists of a known length, and the indexes that the keys have.
use Rattle.std.proofs.Common.{◌≡◌, ℕ, ◌<◌, ◌≤◌, ◌==◌, List, [], ◌∷◌, ◌++◌, length, get_or, false, refl, sym, ap, ◌∙◌, arith}
use Rattle.std.specs.Prelude.{◌≢◌}
use Rattle.std.specs.Fmt.{digits}
use Rattle.sqlite.specs.Schema.{Schema}
use Rattle.osb_tables.specs.declared.schema.Indexes.{Indexes}
use Rattle.osb_tables.specs.declared.schema.Indexes.TheVariants.{None, Listing, Both}
use Rattle.osb_tables.specs.Tables.{keys_of, made, no_schema, tables_schema, five_tables}
use Rattle.osb_tables.specs.Inside.{key_indexes, contexts_index, indexes_at}

pub one_item : {A : Type 0} (items : List A) (a : A) → a ≡ get_or items 0 a → 1 ≤ length items → length items < 2 → items ≡ a ∷ []
one_item [] a is some few = absurd (omega (arith, some))
one_item (x ∷ []) a is some few = ap (λ item. item ∷ []) (sym is)
one_item (x ∷ y ∷ items) a is some few = absurd (omega (arith, few))

pub four_items : {A : Type 0} (items : List A) (a b c d : A) → a ≡ get_or items 0 a → b ≡ get_or items 1 b → c ≡ get_or items 2 c → d ≡ get_or items 3 d → 4 ≤ length items → length items < 5
    → items ≡ a ∷ b ∷ c ∷ d ∷ []
four_items [] a b c d p q r s some few = absurd (omega (arith, some))
four_items (w ∷ []) a b c d p q r s some few = absurd (omega (arith, some))
four_items (w ∷ x ∷ []) a b c d p q r s some few = absurd (omega (arith, some))
four_items (w ∷ x ∷ y ∷ []) a b c d p q r s some few = absurd (omega (arith, some))
four_items (w ∷ x ∷ y ∷ z ∷ []) a b c d p q r s some few = rw (sym p, sym q, sym r, sym s) refl
four_items (w ∷ x ∷ y ∷ z ∷ v ∷ items) a b c d p q r s some few = absurd (omega (arith, few))

pub key_is : (keys : List (List ℕ)) (only key : List ℕ) → keys ≡ only ∷ [] → false ≡ (length key == 0) → only ≡ key → keys ≡ keys_of key
key_is keys only [] are full same = absurd (cc)
key_is keys only (place ∷ places) are full same = are ∙ ap (λ k. k ∷ []) same

pub five_items : {A : Type 0} (items : List A) (a b c d e : A) → a ≡ get_or items 0 a → b ≡ get_or items 1 b → c ≡ get_or items 2 c → d ≡ get_or items 3 d → e ≡ get_or items 4 e → 5 ≤ length items → length items < 6
    → items ≡ a ∷ b ∷ c ∷ d ∷ e ∷ []
five_items [] a b c d e p q r s t some few = absurd (omega (arith, some))
five_items (v ∷ []) a b c d e p q r s t some few = absurd (omega (arith, some))
five_items (v ∷ w ∷ []) a b c d e p q r s t some few = absurd (omega (arith, some))
five_items (v ∷ w ∷ x ∷ []) a b c d e p q r s t some few = absurd (omega (arith, some))
five_items (v ∷ w ∷ x ∷ y ∷ []) a b c d e p q r s t some few = absurd (omega (arith, some))
five_items (v ∷ w ∷ x ∷ y ∷ z ∷ []) a b c d e p q r s t some few = rw (sym p, sym q, sym r, sym s, sym t) refl
five_items (v ∷ w ∷ x ∷ y ∷ z ∷ u ∷ items) a b c d e p q r s t some few = absurd (omega (arith, few))

pub first_made : (indexes : Indexes) → (made tables_schema indexes).indexes ≡ key_indexes ++ indexes_at 7 indexes
unfolding digits
first_made None = refl
first_made Listing = refl
first_made Both = refl

pub second_made : (indexes : Indexes) → (made five_tables indexes).indexes ≡ key_indexes ++ contexts_index ∷ indexes_at 9 indexes
unfolding digits
second_made None = refl
second_made Listing = refl
second_made Both = refl

-- the schema of its parts
pub first_back : (indexes : Indexes) (schema : Schema) → schema.tables ≡ (tables_schema).tables → schema.indexes ≡ key_indexes ++ indexes_at 7 indexes → schema.views ≡ [] → schema ≡ made tables_schema indexes
unfolding digits
first_back None schema t i v = rw (t, i, v) refl
first_back Listing schema t i v = rw (t, i, v) refl
first_back Both schema t i v = rw (t, i, v) refl

pub second_back : (indexes : Indexes) (schema : Schema) → schema.tables ≡ (five_tables).tables → schema.indexes ≡ key_indexes ++ contexts_index ∷ indexes_at 9 indexes → schema.views ≡ [] → schema ≡ made five_tables indexes
unfolding digits
second_back None schema t i v = rw (t, i, v) refl
second_back Listing schema t i v = rw (t, i, v) refl
second_back Both schema t i v = rw (t, i, v) refl

first_tables : (indexes : Indexes) → (made tables_schema indexes).tables ≡ (tables_schema).tables
first_tables None = refl
first_tables Listing = refl
first_tables Both = refl

second_tables : (indexes : Indexes) → (made five_tables indexes).tables ≡ (five_tables).tables
second_tables None = refl
second_tables Listing = refl
second_tables Both = refl

-- a table more or less
apart : (five_tables).tables ≡ (tables_schema).tables → ⊥
apart is = absurd (omega (arith, ap length is))

-- no database is of both versions
pub versions_apart : (first second : Indexes) → made tables_schema first ≢ made five_tables second
versions_apart first second is = apart (sym (second_tables second) ∙ sym (ap (λ (s : Schema). s.tables) is) ∙ first_tables first)

pub second_is_something : (indexes : Indexes) → made five_tables indexes ≢ no_schema
second_is_something indexes is = absurd (let no = sym (second_tables indexes) ∙ ap (λ (s : Schema). s.tables) is in omega (arith, ap length no))

-- the tables of version 1 with other indexes, and those of version 2
pub others_first : (schema : Schema) → schema.tables ≡ (tables_schema).tables → ((found : Indexes) → schema.indexes ≢ key_indexes ++ indexes_at 7 found)
    → (schema ≢ no_schema) × ((indexes : Indexes) → schema ≢ made tables_schema indexes) × ((indexes : Indexes) → schema ≢ made five_tables indexes)
others_first schema tables none = (
  λ is. absurd (let no = sym tables ∙ ap (λ (s : Schema). s.tables) is in omega (arith, ap length no)),
  λ indexes is. none indexes (ap (λ (s : Schema). s.indexes) is ∙ first_made indexes),
  λ indexes is. apart (sym (second_tables indexes) ∙ sym (ap (λ (s : Schema). s.tables) is) ∙ tables),
)

pub others_second : (schema : Schema) → schema.tables ≡ (five_tables).tables → ((found : Indexes) → schema.indexes ≢ key_indexes ++ contexts_index ∷ indexes_at 9 found)
    → (schema ≢ no_schema) × ((indexes : Indexes) → schema ≢ made tables_schema indexes) × ((indexes : Indexes) → schema ≢ made five_tables indexes)
others_second schema tables none = (
  λ is. absurd (let no = sym tables ∙ ap (λ (s : Schema). s.tables) is in omega (arith, ap length no)),
  λ indexes is. apart (sym tables ∙ ap (λ (s : Schema). s.tables) is ∙ first_tables indexes),
  λ indexes is. none indexes (ap (λ (s : Schema). s.indexes) is ∙ second_made indexes),
)
