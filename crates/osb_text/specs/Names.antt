-- Lists of bytes, by what they hold.
use Rattle.std.specs.Prelude.{ℕ, List}

abbrev pub Bytes : Type 0
Bytes = List ℕ

-- the id of an instance, a binding, a service, a plan, an organization, a space or an app
abbrev pub Id : Type 0
Id = List ℕ

-- a compact JSON text
abbrev pub Json : Type 0
Json = List ℕ
