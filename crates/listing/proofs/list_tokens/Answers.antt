use Rattle.listing.specs.Printing.{parsed_left, left_few, parsed_prints, long_prints, parsed_of}
use Rattle.base.specs.Blocks.{zeros}
use Rattle.grammar.specs.Reference.{reference_image}
use Rattle.std.proofs.Common.{refl}
use borrow.Author.Rules.{rules}
use Rattle.listing.proofs.list_tokens.Goals as goal

pub returns-then-tokens-gt-MAX_INPUT : goal.returns-then-tokens-gt-MAX_INPUT
returns-then-tokens-gt-MAX_INPUT c = long_prints (search rules) c.put_refused.ensures

pub put_reply-requires-clause-few : goal.put_reply-requires-clause-few
unfolding reference_image zeros
put_reply-requires-clause-few c = left_few (parsed_left (parsed_of refl refl refl refl c.prepare.ensures c.parse-reply.ensures))

pub returns : goal.returns
unfolding reference_image zeros
returns c = parsed_prints (search rules) (parsed_of refl refl refl refl c.prepare.ensures c.parse-reply.ensures) c.put_reply.ensures
