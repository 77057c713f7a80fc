-- `gather` takes the raw regions from the end. The invariant, Gathering, says that those left give the wanted list; the measure is how many are left. Assumes nothing.
use borrow.Author.Rules.{rules}
use Rattle.regions.proofs.Passes.{gather_turn, gather_done}
use Rattle.regions.proofs.gather.Goals as goal

pub loop-i-preserved : goal.loop-i-preserved
loop-i-preserved c = let w = c.absorb-m in
    let x = c.load in
    gather_turn _ _ _ _ _ _ c.loop-i.invariant _ w.result x.result (search rules) (search rules)
    x.ensures w.ensures.value.1 w.ensures.out_after.0 w.ensures.out_after.1

pub returns : goal.returns
returns c = let p = c.loop-i.invariant in
    (search rules, gather_done _ _ _ _ _ _ p c.loop-i-test.false, p.rest)
