-- `all_positive` tests each number. Assumes nothing.
use lib.Dec.{ltb}
use Rattle.std.proofs.Common.{rules, tests}
use Rattle.lists.proofs.Tests.{every_by_all}
use Rattle.lines.proofs.all_positive.Goals as goal

pub returns : goal.returns
returns c = every_by_all (λ m. ltb 0 m) _ _ _ _ c.all.ensures.ran (cc) (λ x b q k. search (rules, tests))
