-- A map without an entry is an object without a member.
use Rattle.std.proofs.Common.{◌≡◌, ◌↔◌, List, [], ◌∷◌, length, Bool, IsTrue, String, Global, rules}
use Rattle.serde_json.specs.declared.value.Value.{Value}
use Rattle.serde_json.specs.View.{members_view}
use Rattle.osb_advice.specs.Nothing.{has_no_members}

pub without_entries : (is_empty : Bool) (entries : List (String Global × Value)) → (IsTrue is_empty ↔ (length entries ≡ 0)) → is_empty ≡ has_no_members (members_view entries)
without_entries is_empty [] exactly = search rules
without_entries is_empty (entry ∷ entries) exactly = search rules
