use Rattle.std.proofs.Common.{arith}
use Rattle.plain.proofs.Joined.{ground_part, ran_joined}
use Rattle.plain.proofs.parse.Goals as goal

pub run-requires-clause-ground : goal.run-requires-clause-ground
run-requires-clause-ground c = ground_part _ _ _ c.requires.0 c.split_at_mut-nodes.ensures.back c.split_at_mut-text.ensures.front

pub returns : goal.returns
returns c = ran_joined _ _ _ c.requires.0 c.split_at_mut-nodes.ensures.back c.split_at_mut-text.ensures.front _ _ _ c.requires.1 (omega arith) c.run.ensures
