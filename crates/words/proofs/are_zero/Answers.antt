-- `are_zero` is are_zero. Assumes nothing.
use lib.Dec.{eqb}
use Rattle.std.proofs.Common.{rules, tests}
use Rattle.lists.proofs.Tests.{every_by_all}
use Rattle.words.proofs.are_zero.Goals as goal

pub returns : goal.returns
returns c = every_by_all (λ n. eqb n 0) _ _ _ _ c.all.ensures.ran (cc) (λ x b q k. search (rules, tests))
