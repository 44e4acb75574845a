-- What clap finds in the words.
use Rattle.std.proofs.Common.{◌≡◌, ◌∙◌, ◌≤◌, ◌<◌, ◌^◌, refl, sym, ap, ap₂, arith, codes, ℕ, Bool, true, false, not, ◌&&◌, List, [], Bor, Option, Some, None, option_map, unwrap_or, Result, Ok, Err}
use Rattle.std.specs.Str.Parse.{IsNumeral, ParsesUnsigned, digits_value, without_leading_plus}
use Rattle.clap.specs.Words.{App, HasMatchesOf, ReadsOne, Row, Text, is_simple, subcommand_name_of, subcommand_of, subcommand_rows_of}
use Rattle.clap.specs.declared.parser.matches.ArgMatches.{ArgMatches}
use Rattle.clap.proofs.OnLiterals.{clap_on_literals}
use Rattle.osb_cli.specs.Grammar.{osb_broker}
use Rattle.osb_cli.specs.Words.{HasFlag, HasNumber}

-- a command that is plain has no argument that is global
pub has_no_globals : (a b c rest : Bool) → (a && (not b && (not c && rest))) ≡ true → c ≡ false
has_no_globals true false false rest h = refl
has_no_globals true false true rest h = cc
has_no_globals true true c rest h = cc
has_no_globals false b c rest h = cc

-- a text that is lent, or what takes its place
pub text_or : (o : Option (Bor (List ℕ))) (result other : Bor (List ℕ)) (text : Option (List ℕ))
    → result ≡ unwrap_or o other → option_map (λ it. it.now) o ≡ text → result.now ≡ unwrap_or text other.now
text_or None result other text is found = ap (λ it. it.now) is ∙ ap (λ o. unwrap_or o other.now) found
text_or (Some s) result other text is found = ap (λ it. it.now) is ∙ ap (λ o. unwrap_or o other.now) found

-- what clap reads of a flag
pub flag_given : (found text : Option (List ℕ)) (given : Bool) → found ≡ text → (found ≡ None → given ≡ false) → (found ≡ Some (codes "true") → given ≡ true) → HasFlag text given
flag_given found None given same none some = none same
flag_given found (Some text) given same none some = λ is. some (same ∙ ap Some is)

-- the words are read as those of a simple command
simple : is_simple osb_broker ≡ true
unfolding clap_on_literals
simple = refl

pub are_read : (app : App) (words : List Text) (m : ArgMatches) → app ≡ osb_broker → HasMatchesOf app words m
    → subcommand_rows_of m ≡ subcommand_of osb_broker words
are_read app words m is matches = (matches (ap is_simple is ∙ simple)).1 ∙ ap (λ a. subcommand_of a words) is

both : {B : Type 0} (h : B → Text × List Row) (o : Option B) (name : Text) (rows : List Row)
    → option_map (λ it. (h it).0) o ≡ Some name → option_map (λ it. it.1) (option_map h o) ≡ Some rows → option_map h o ≡ Some (name, rows)
both h None name rows named found = cc
both h (Some it) name rows named found = ap₂ (λ (x : Text) (y : List Row). Some (x, y)) (ap (λ o. unwrap_or o []) named) (ap (λ o. unwrap_or o []) found)

-- a name and rows that were found are those of the command that the words name
pub is_found : (words : List Text) (m : ArgMatches) (name : Text) (rows : List Row) → subcommand_rows_of m ≡ subcommand_of osb_broker words
    → Some name ≡ subcommand_name_of m → Some rows ≡ option_map (λ it. it.1) (subcommand_rows_of m)
    → subcommand_of osb_broker words ≡ Some (name, rows)
is_found words m name rows read named found = sym read ∙ both _ _ name rows (sym named) (sym found)

-- nothing was found where no command is named
pub none_found : (words : List Text) (m : ArgMatches) → subcommand_rows_of m ≡ subcommand_of osb_broker words
    → None ≡ option_map (λ it. it.1) (subcommand_rows_of m) → subcommand_of osb_broker words ≡ None
none_found words m read none = sym read ∙ go (subcommand_rows_of m) none
  where
    go : (o : Option (Text × List Row)) → None ≡ option_map (λ it. it.1) o → o ≡ None
    go None is = refl
    go (Some it) is = cc

module _ {E : Type 0} (Gives : List ℕ → Result ℕ E → Type 0) (parses : (text : List ℕ) (r : Result ℕ E) → Gives text r → ParsesUnsigned 32 10 text r) (most : ℕ) (small : most < 2 ^ 32) where
  read_number : (text : List ℕ) (r : Option ℕ) → ReadsOne Gives text r → let digits = without_leading_plus text in
      IsNumeral 10 digits → digits_value 10 digits ≤ most → r ≡ Some (digits_value 10 digits)
  read_number text None reads numeral le =
      absurd (parses text (Err reads.0) reads.1 (numeral, omega (arith, small, le)))
  read_number text (Some n) reads numeral le = ap Some (parses text (Ok n) reads).1

  -- what is read of an option that is a number
  pub number_read : (found : Option (List ℕ)) (r : Option ℕ) (other n : ℕ) → (found ≡ None → r ≡ None)
      → ((text : List ℕ) → found ≡ Some text → ReadsOne Gives text r)
      → (r ≡ None → n ≡ other) → ((k : ℕ) → r ≡ Some k → 1 ≤ k → k ≤ most → n ≡ k) → HasNumber most other found n
  number_read None r other n none reads otherwise is = otherwise (none refl)
  number_read (Some text) r other n none reads otherwise is = λ numeral ge le.
      is _ (read_number text r (reads text refl) numeral le) ge le
