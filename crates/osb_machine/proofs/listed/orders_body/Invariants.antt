use Rattle.std.proofs.Common.{◌≡◌, ◌++◌, false, codes, drop, string_bytes}
use Rattle.osb_machine.specs.Spliced.{spliced_from}
use Rattle.osb_machine.proofs.listed.orders_body.Given as goal

-- the text so far, with what the rest of the listing adds, is the whole
abbrev pub invariant-loop-id : goal.invariant-loop-id
invariant-loop-id l = string_bytes l.text ++ spliced_from l.later (drop l.id-index l.listing) ≡ codes "{\"orders\":[" ++ spliced_from false l.listing
