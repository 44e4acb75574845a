-- What the words ask for.
use Rattle.std.specs.Prelude.{◌≡◌, ◌≤◌, ◌==◌, if◌then◌else◌, ℕ, Bool, true, false, List, [], codes, Option, None, Some, option_map, option_and_then, unwrap_or}
use Rattle.std.specs.Str.Parse.{IsNumeral, digits_value, without_leading_plus}
use Rattle.clap.specs.Words.{Row, Text, all_of, first_of, one_of, subcommand_of, takes}
use Rattle.osb_cli.specs.Grammar.{osb_broker}

-- the command that the words name, with its options and words, where they name one
abbrev pub FoundCommand : Type 0
FoundCommand = Option (Text × List Row)

abbrev pub found_by : List (List ℕ) → FoundCommand
found_by words = subcommand_of osb_broker words

-- the words are those of a command, and ask for no help
abbrev pub AreTaken : List (List ℕ) → Type 0
AreTaken words = takes osb_broker words ≡ true

-- they name this command
abbrev pub Names : List ℕ → FoundCommand → Type 0
Names name found = option_map (λ it. it.0) found ≡ Some name

-- the text of an option or a word
abbrev pub text_in : List ℕ → FoundCommand → Option (List ℕ)
text_in id = option_and_then (λ it. first_of id it.1)

-- all texts of a word that may be repeated
abbrev pub texts_in : List ℕ → FoundCommand → List (List ℕ)
texts_in id found = unwrap_or (option_and_then (λ it. all_of id it.1) found) []

-- the text of an option that has one value
abbrev pub one_text_in : List ℕ → FoundCommand → Option (List ℕ)
one_text_in id = option_and_then (λ it. one_of id it.1)

-- the number of this text, if it is one from 1 to the most, as clap demands; without a text another
abbrev pub HasNumber : ℕ → ℕ → Option (List ℕ) → ℕ → Type 0
HasNumber most other None n = n ≡ other
HasNumber most other (Some text) n = let digits = without_leading_plus text in
    IsNumeral 10 digits → 1 ≤ digits_value 10 digits → digits_value 10 digits ≤ most →
    n ≡ digits_value 10 digits

-- whether a flag of this text is given: clap has the text `true` where it is, and none where it isn't
abbrev pub HasFlag : Option (List ℕ) → Bool → Type 0
HasFlag None given = given ≡ false
HasFlag (Some text) given = text ≡ codes "true" → given ≡ true

abbrev pub HasPerConnection : FoundCommand → ℕ → Type 0
HasPerConnection found = HasNumber 1000 1 (one_text_in (codes "per-connection") found)

abbrev pub HasConnections : FoundCommand → ℕ → Type 0
HasConnections found = HasNumber 1000000 1000000 (one_text_in (codes "connections") found)

abbrev pub HasExisting : FoundCommand → Bool → Type 0
HasExisting found = HasFlag (one_text_in (codes "existing") found)

abbrev pub HasExplain : FoundCommand → Bool → Type 0
HasExplain found = HasFlag (one_text_in (codes "explain") found)

abbrev pub HasTogether : FoundCommand → ℕ → Type 0
HasTogether found = HasNumber 1024 1024 (one_text_in (codes "together") found)
