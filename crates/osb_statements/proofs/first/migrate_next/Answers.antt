use Rattle.std.proofs.Common.{rules, ◌≡◌, Less, nat_cmp}
use Rattle.std.specs.Cmp.Lexicographic.{slice_cmp}
use Rattle.osb_statements.proofs.StoredPieceLemmas.{not_above}
use Rattle.osb_statements.proofs.first.migrate_next.Goals as goal

pub migrate_piece-requires-clause-order : goal.migrate_piece-requires-clause-order
migrate_piece-requires-clause-order g c =
    let less : slice_cmp nat_cmp c.args.after.now c.args.to.now ≡ Less = search rules in
    rw (c.as_str.ensures, c.as_bytes.ensures.value, c.as_str-then-lt.ensures) (not_above c.args.after.now c.args.to.now less)
