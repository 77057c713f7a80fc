-- `all_at_most` tests each number. Assumes nothing.
use lib.Dec.{leb}
use Rattle.std.proofs.Common.{rules, tests}
use Rattle.lists.proofs.Tests.{every_by_all}
use Rattle.lines.proofs.all_at_most.Goals as goal

pub returns : goal.returns
returns c = every_by_all (λ m. leb m c.args.most) _ _ _ _ c.all.ensures.ran (cc) (λ x b q k. search (rules, tests))
