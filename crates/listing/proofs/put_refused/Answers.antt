use Rattle.std.proofs.Common.{rules}
use Rattle.listing.specs.Text.{refused_text}
use Rattle.listing.proofs.put_refused.Goals as goal

pub returns : goal.returns
unfolding refused_text
returns c = search rules
