-- The bytes of a reply's body, wherever they lie.
use Rattle.std.specs.Prelude.{ℕ, List}
use Rattle.osb_replies.specs.declared.body.Body.{Body}
use Rattle.osb_replies.specs.declared.body.Body.TheVariants.{Lent, Built}

abbrev pub body_bytes : Body → List ℕ
body_bytes (Lent bytes) = bytes.now
body_bytes (Built bytes) = bytes.items
