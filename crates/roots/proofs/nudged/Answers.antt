-- `nudged`: one up or one down, the sum of `over` and the square stays. Assumes nothing.
use Rattle.roots.proofs.Laws.{stepped_down}
use borrow.Author.Rules.{rules}
use Rattle.roots.proofs.nudged.Goals as goal

pub returns-else-c : goal.returns-else-c
returns-else-c c = let args = c.args in
    (stepped_down args.c.q args.c.over (search rules), search rules, search rules)
