-- What the texts of the queries for one order mean.
use Rattle.std.proofs.Common.{◌≡◌, ℕ, pos, List, [], ◌∷◌, codes, true, false, refl}
use Rattle.sqlite.specs.declared.types.Value.TheVariants.{Int}
use Rattle.sqlite.specs.Query.{Query}
use Rattle.sqlite.specs.Term.{Term, lit, col}
use Rattle.sqlite.specs.Command.TheVariants.{Select}
use Rattle.sqlite_value.specs.declared.keys.Collation.TheVariants.{Binary}
use Rattle.sqlite_value.specs.declared.keys.Key.{Key}
use Rattle.sqlite_tied.specs.Compute.{everything}
use Rattle.sqlite.specs.Listing.{understood, reads_listing}
use Rattle.sqlite.proofs.Callers.{IsPlain, command_of}
use Rattle.osb_tables.specs.Tables.{second_schema}
use Rattle.osb_rows.proofs.AnswerLemmas.{over}
use Rattle.osb_statements.proofs.Texts.{all_cells, all_names}
use Rattle.osb_contexts.proofs.Texts.{by_key, every, is_at}

-- what is known of a query's text
abbrev pub Reads : List ℕ → Query → Type 0
Reads text query = (command_of (understood second_schema text) ≡ Select (record { lets = []; body = query }) all_names) × (reads_listing second_schema text ≡ false) × IsPlain (understood second_schema text)

abbrev falling : Key
falling = record { collation = Binary; descending = true }

-- by the whole key, from the last to the first
abbrev pub by_key_back : List (Term × Key)
by_key_back = (col 1 1, falling) ∷ (col 1 2, falling) ∷ []

-- LIMIT 1
abbrev pub one : Term
one = lit (Int (pos 1))

abbrev pub select_order : List ℕ
select_order = codes "SELECT instance_id, seq, kind, binding_id, service_id, plan_id, place, spot, params, maint, state, note, credentials FROM orders WHERE instance_id = ?1 AND seq = ?2 ORDER BY instance_id, seq"

abbrev pub order_tests : List Term
order_tests = is_at 1 0 ∷ is_at 2 1 ∷ []

pub select_order_is : Reads select_order (over 1 order_tests all_cells by_key every)
unfolding understood everything
select_order_is = (refl, refl, (refl, refl))

abbrev pub select_last : List ℕ
select_last = codes "SELECT instance_id, seq, kind, binding_id, service_id, plan_id, place, spot, params, maint, state, note, credentials FROM orders WHERE instance_id = ?1 AND binding_id = ?2 AND kind = ?3 ORDER BY instance_id DESC, seq DESC LIMIT 1"

abbrev pub last_tests : List Term
last_tests = is_at 1 0 ∷ is_at 4 1 ∷ is_at 3 2 ∷ []

pub select_last_is : Reads select_last (over 1 last_tests all_cells by_key_back one)
unfolding understood everything
select_last_is = (refl, refl, (refl, refl))
