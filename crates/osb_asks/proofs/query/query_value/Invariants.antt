use Rattle.std.proofs.Common.{◌≡◌, option_map, bytes_eq}
use Rattle.std.specs.List.{find}
use Rattle.std.specs.Str.Lossy.{utf8_lossy}
use Rattle.form_urlencoded.specs.Parse.{pairs_left}
use Rattle.form_urlencoded.specs.Form.{decode}
use Rattle.osb_asks.specs.Queries.{query_value}
use Rattle.osb_asks.proofs.query.query_value.Given as goal

abbrev pub invariant-loop-pair : goal.invariant-loop-pair
invariant-loop-pair l =
    let first = find (λ pair. bytes_eq (utf8_lossy (decode pair.0)) l.name) (pairs_left l.pair-iterator) in
    option_map (λ pair. utf8_lossy (decode pair.1)) first ≡ query_value l.name l.query
