-- The text of a reply (RFC 9112, sections 2.1, 4 and 6.2).
use Rattle.std.specs.Prelude.{ℕ, Bool, List, [], ◌++◌, length, Option, Some, None, if◌then◌else◌, ◌==◌, codes}
use Rattle.std.specs.Fmt.{decimal}
use Rattle.osb_replies.specs.declared.status.Status.{Status}
use Rattle.osb_replies.specs.Status.{code_of, phrase_of}

-- what a reply says: its status, its body, the identity that it repeats, and whether the connection closes
pub record ReplyParts : Type 0 where
  pub status : Status
  pub body : List ℕ
  pub echo : Option (List ℕ)
  pub close : Bool

-- a line with its end (RFC 9112, section 2.2)
abbrev pub line : List ℕ → List ℕ
line text = text ++ codes "\r\n"

-- a 401 asks for Basic credentials (RFC 7617, section 2)
abbrev pub challenge_line : Status → List ℕ
challenge_line status = if code_of status == 401 then line (codes "WWW-Authenticate: Basic realm=\"broker\"") else []

-- the request's identity, also where it is empty (OSB API 2.17, "Request Identity")
abbrev pub echo_line : Option (List ℕ) → List ℕ
echo_line None = []
echo_line (Some identity) = line (codes "X-Broker-API-Request-Identity: " ++ identity)

unfoldable pub reply_text : ReplyParts → List ℕ
reply_text reply =
    line (codes "HTTP/1.1 " ++ decimal (code_of reply.status) ++ codes " " ++ phrase_of reply.status)
    ++ line (codes "Content-Type: application/json")
    ++ line (codes "Content-Length: " ++ decimal (length reply.body))
    ++ challenge_line reply.status
    ++ echo_line reply.echo
    ++ (if reply.close then line (codes "Connection: close") else [])
    ++ line []
    ++ reply.body
