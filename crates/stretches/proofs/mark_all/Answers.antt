-- `mark_all` is marks_of. The invariant says that the places left give the wanted marks; the measure is how many are left. Assumes nothing.
use lib.ListN.{length}
use Rattle.stretches.specs.Stretches.{near_in}
use Rattle.stretches.proofs.Laws.{all_on, all_end}
use borrow.Author.Rules.{rules}
use Rattle.stretches.proofs.mark_all.Goals as goal

pub loop-i-preserved : goal.loop-i-preserved
loop-i-preserved c = let l = c.loop-i in
    let a = c.args in
    let near = near_in a.s1 a.s2 a.out.now in
    (search rules, search rules, l.invariant.2, all_on near l.i l.marks _ _ (search rules) c.mark_row.ensures l.invariant.3)

pub returns : goal.returns
returns c = let a = c.args in
    let l = c.loop-i in
    let near = near_in a.s1 a.s2 a.out.now in
    all_end near (length a.marks.now) _ l.i _ _ (search rules) l.invariant.3 l.invariant.2 c.number.ensures
