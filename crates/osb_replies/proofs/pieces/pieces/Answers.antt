use Rattle.osb_replies.specs.Parts.{parts}
use Rattle.osb_replies.proofs.PiecesLemmas.{are_text}
use Rattle.osb_replies.proofs.pieces.pieces.Goals as goal

pub returns : goal.returns
returns c = rw (c.as_bytes.ensures.value, c.as_bytes-2.ensures.value, c.format.ensures.text, c.format-2.ensures.text, c.as_u16.ensures.value, c.code.ensures, c.phrase.ensures, c.challenge.ensures, c.before_identity.ensures, c.identity.ensures, c.after_identity.ensures, c.closing.ensures, c.bytes.ensures, c.bytes-2.ensures) (let reply = parts c.args.reply.now in are_text reply.status reply.body reply.echo reply.close)
