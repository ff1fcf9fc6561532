use Rattle.std.proofs.Common.{rules}
use Rattle.std.proofs.lemmas.Iterator.{YieldsList-from_slice, YieldsList-from_zip}
use Rattle.std.proofs.lemmas.Iterator.Consumers.{fold_from_yields_List}
use Rattle.base.specs.Blocks.{differing, same_told}
use Rattle.base.proofs.same.Goals as goal

pub returns-then-a-b : goal.returns-then-a-b
returns-then-a-b c =
    same_told _ _ _ (search rules) (fold_from_yields_List _ differing 0 _ c.fold.ensures.ran
    (YieldsList-from_zip (YieldsList-from_slice c.args.a.now (search rules)) (YieldsList-from_slice c.args.b.now (search rules))) (λ bits x r f told. search rules))
