-- The text of a reply.
use Rattle.std.proofs.Common.{◌<◌, length, arith}
use Rattle.osb_replies.specs.Text.{ReplyParts, reply_text}

-- no reply's text is empty
pub some_text : (reply : ReplyParts) → 0 < length (reply_text reply)
unfolding reply_text
some_text reply = omega arith
