-- The parts of a reply of the code, and those of the reply to a refusal.
use Rattle.std.specs.Prelude.{true, None, codes, option_copied}
use Rattle.osb_replies.specs.declared.reply.Reply.{Reply}
use Rattle.osb_replies.specs.declared.status.Status.TheVariants.{InternalServerError}
use Rattle.osb_replies.specs.Body.{body_bytes}
use Rattle.osb_replies.specs.Text.{ReplyParts}

abbrev pub parts : Reply → ReplyParts
parts reply = record {
  status = reply.status;
  body = body_bytes reply.body;
  echo = option_copied reply.echo;
  close = reply.close;
}

-- the reply to a request for which memory or the store was refused
abbrev pub refused : ReplyParts
refused = record { status = InternalServerError; body = codes "{}"; echo = None; close = true }
