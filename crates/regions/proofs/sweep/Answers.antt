-- `sweep` is one pass. The invariant, Pass, says that what is left to test gives the wanted region and list; the measure is how many are left. Assumes nothing.
use borrow.Author.Rules.{rules}
use Rattle.regions.proofs.Passes.{pass_turn, pass_grown, pass_stays, pass_kept}
use Rattle.regions.proofs.sweep.Goals as goal

pub loop-i-preserved : goal.loop-i-preserved
loop-i-preserved c = let w = c.sweep_one-s in
    let x = c.load in
    pass_turn _ _ _ _ _ _ c.loop-i.invariant _ w.result x.result (search rules)
    (search rules) x.ensures w.ensures.grown_value.0 w.ensures.grown_value.1 w.ensures.out_after

pub returns : goal.returns
returns c = let p = c.loop-i.invariant in
    let e = c.loop-i-test.false in
    record { grown_value = (pass_grown _ _ _ _ _ _ p e, pass_kept _ _ _ _ _ _ p e, search rules); out_after = (pass_stays _ _ _ _ _ _ p e, p.rest) }
