use Rattle.replies.specs.Reply.{Laid, reply_bytes}
use Rattle.replies.proofs.write_reply.Given as goal

abbrev pub invariant-loop-size : goal.invariant-loop-size
invariant-loop-size l = Laid (reply_bytes l.fn.reply) l.size-items l.size-index l.at l.b
