use Rattle.std.proofs.Common.{rules}
use Rattle.base.specs.Bytes.{le_bytes}
use Rattle.sentences.proofs.token_bytes.Goals as goal

pub returns : goal.returns
unfolding le_bytes
returns c = search rules
