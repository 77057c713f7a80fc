-- `sort` orders the regions. The invariant, Sorting, says that those from k on are ordered and those before as they were; the measure is k. Assumes nothing.
use borrow.Author.Rules.{rules}
use Rattle.regions.proofs.Sorting.{sort_start, sort_turn, sort_done}
use Rattle.regions.proofs.sort.Goals as goal

pub loop-k-init : goal.loop-k-init
loop-k-init c = sort_start _ _

pub loop-k-preserved : goal.loop-k-preserved
loop-k-preserved c = let w = c.insert in
    sort_turn _ _ _ _ c.loop-k.invariant _ (search rules) (search rules) w.ensures.out_after w.ensures.out_unchanged

pub returns : goal.returns
returns c = let p = c.loop-k.invariant in
    (sort_done _ _ _ _ p c.loop-k-test.false, p.rest)
