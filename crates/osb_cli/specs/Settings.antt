-- The settings that a command is given.
use Rattle.std.specs.Prelude.{◌≡◌, ℕ, List, Ok, Option, None, Some}
use Rattle.osb_catalog.specs.Faults.{settings_of}
use Rattle.osb_catalog.specs.SettingsData.{SettingsData}
use Rattle.osb_cli.specs.Files.{AreBytesOf, Contents}
pub use Rattle.osb_cli.specs.BuiltIn.{built_in}

-- these are the settings of the file of that name
abbrev pub AreOfFile : Contents → List ℕ → SettingsData → Type 0
AreOfFile contents name settings =
    (text : List ℕ) × AreBytesOf contents name text × (settings_of text ≡ Ok settings)

-- or the built-in ones, where no file is named
abbrev pub AreSettingsOf : Contents → Option (List ℕ) → SettingsData → Type 0
AreSettingsOf contents None settings = settings_of built_in ≡ Ok settings
AreSettingsOf contents (Some name) settings = AreOfFile contents name settings
