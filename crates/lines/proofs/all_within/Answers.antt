-- `all_within` tests each number. Assumes nothing.
use Rattle.std.proofs.Common.{rules, tests}
use Rattle.floats.specs.Floats.{within}
use Rattle.lists.proofs.Tests.{every_by_all}
use Rattle.lines.proofs.all_within.Goals as goal

pub returns : goal.returns
returns c = every_by_all (within c.args.lo c.args.hi) _ _ _ _ c.all.ensures.ran (cc) (λ x b q k. search (rules, tests))
