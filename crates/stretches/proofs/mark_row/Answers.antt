-- `mark_row` is row_marks. The invariant says that the places left give the wanted marks; the measure is how many are left. Assumes nothing.
use Rattle.stretches.proofs.Laws.{row_link, row_skip}
use borrow.Author.Rules.{rules}
use Rattle.stretches.proofs.mark_row.Goals as goal

pub loop-j-preserved-then-neighbours : goal.loop-j-preserved-then-neighbours
loop-j-preserved-then-neighbours c = let l = c.loop-j in
    let a = c.args in
    let r = c.load-r.ensures in
    let q = c.load.ensures in
    let near = c.neighbours.ensures in (
      search rules,
      search rules,
      row_link a.s1 a.s2 _ a.i l.j _ _ _ r q near l.marks _ _ (search rules) c.if-neighbours.true
          c.link.ensures l.invariant.2,
    )

pub loop-j-preserved : goal.loop-j-preserved
loop-j-preserved c = let l = c.loop-j in
    let a = c.args in
    let r = c.load-r.ensures in
    let q = c.load.ensures in
    let near = c.neighbours.ensures in
    (search rules, search rules, row_skip a.s1 a.s2 _ a.i l.j _ _ _ r q near l.marks _ (search rules) c.if-neighbours.false l.invariant.2)
