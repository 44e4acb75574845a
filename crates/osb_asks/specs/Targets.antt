-- The path and the query of a request's target (RFC 3986, sections 3.3 and 3.4), which is in origin form
-- (RFC 9112, section 3.2.1).
use Rattle.std.specs.Prelude.{List, ◌==◌}
use Rattle.std.specs.List.{slice_split, before_first, after_first}
use Rattle.osb_text.specs.Names.{Bytes}

-- the path ends before the first `?`
abbrev pub path_of : Bytes → Bytes
path_of target = before_first (λ byte. byte == 63) target

-- the query follows it, and is empty where there is none
abbrev pub query_of : Bytes → Bytes
query_of target = after_first (λ byte. byte == 63) target

-- what is between the slashes
abbrev pub segments : Bytes → List Bytes
segments path = slice_split (λ byte. byte == 47) path
