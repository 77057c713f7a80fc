-- `increasing` tests each two neighbours. Assumes nothing.
use lib.Ieee.{lt}
use Rattle.std.proofs.Common.{rules, tests}
use Rattle.std.proofs.lemmas.Fn.{always_returns_same}
use Rattle.lists.proofs.Tests.{each_two_by_sorted}
use Rattle.lines.proofs.increasing.Goals as goal

pub returns : goal.returns
returns c = each_two_by_sorted lt _ _ (c.is_sorted_by.ensures.cases lt (always_returns_same _ _ _ (λ a r q k. search (rules, tests))))
