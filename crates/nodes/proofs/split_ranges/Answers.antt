-- `split_ranges` writes the upper half, then the lower. Assumes nothing.
use borrow.Author.Rules.{rules}
use Rattle.nodes.proofs.Laws.{ranges_second, ranges_first}
use Rattle.nodes.proofs.split_ranges.Goals as goal

pub returns-in-First : goal.returns-in-First
returns-in-First c = let args = c.args in
    rw c.in-First.is
    (ranges_first args.ranges.now _ _ args.k _ (search rules) c.mean-mid.ensures c.put.ensures c.put-in-First.ensures)

pub returns-in-Second : goal.returns-in-Second
returns-in-Second c = let args = c.args in
    rw c.in-Second.is
    (ranges_second args.ranges.now _ _ args.k _ (search rules) c.mean-mid-in-Second.ensures c.put-in-Second.ensures c.put-in-Second-2.ensures)
