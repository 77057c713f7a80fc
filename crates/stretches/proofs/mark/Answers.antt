-- `mark` lends the first n marks. Assumes nothing.
use Rattle.stretches.specs.Stretches.{near_in}
use Rattle.stretches.proofs.Laws.{part_front}
use borrow.Author.Rules.{rules}
use Rattle.stretches.proofs.mark.Goals as goal

pub returns : goal.returns
returns c = let a = c.args in
    part_front a.n (near_in a.s1 a.s2 a.out.now) a.marks.now _ (search rules) c.mark_all.ensures
