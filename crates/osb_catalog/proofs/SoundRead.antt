-- What holds of the settings that the bytes of a file have.
use Rattle.std.proofs.Common.{◌≡◌, ℕ, List, Option, Some, None, Result, Ok, Err, refl, subst}
use Rattle.serde_json.specs.Data.{Data}
use Rattle.osb_text.specs.ObjectText.{IsReadable}
use Rattle.osb_text.specs.Reading.{object_of}
use Rattle.osb_text.specs.declared.fault.TextFault.{TextFault}
use Rattle.osb_text.proofs.ReadableLemmas.{readable}
use Rattle.osb_catalog.specs.declared.fault.SettingsFault.{SettingsFault}
use Rattle.osb_catalog.specs.SettingsData.{SettingsData}
use Rattle.osb_catalog.specs.Contents.{contents_of}
use Rattle.osb_catalog.specs.Faults.{first_fault, contents_unless, settings_in, settings_of}
use Rattle.osb_catalog.specs.Sound.{IsSettings}
use Rattle.osb_catalog.proofs.Soundness.{contents_are}

sound_unless : (file : Data) (fault : Option SettingsFault) (settings : SettingsData) → IsReadable file → first_fault file ≡ fault → contents_unless file fault ≡ Ok settings → IsSettings settings
sound_unless file None settings good is h = let same : contents_of file ≡ settings = cc in subst (λ (s : SettingsData). IsSettings s) same (contents_are file good is)
sound_unless file (Some fault) settings good is h = cc

sound_in : (found : Result Data TextFault) (settings : SettingsData) → ((v : Data) → found ≡ Ok v → IsReadable v) → settings_in found ≡ Ok settings → IsSettings settings
sound_in (Err fault) settings good h = cc
sound_in (Ok file) settings good h = sound_unless file (first_fault file) settings (good file refl) refl h

pub sound : (bytes : List ℕ) (settings : SettingsData) → settings_of bytes ≡ Ok settings → IsSettings settings
sound bytes settings h = sound_in (object_of bytes) settings (λ v is. readable bytes v is) h
