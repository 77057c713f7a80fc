-- `number` is count_from. The invariant says that counting on from k gives the wanted list; the measure is how many are left. Assumes nothing.
use mathlib.Core.Path.{refl, ◌∙◌}
use Rattle.stretches.proofs.Laws.{number_turn}
use borrow.Author.Rules.{rules}
use Rattle.stretches.proofs.number.Goals as goal

pub loop-k-preserved : goal.loop-k-preserved
loop-k-preserved c = let l = c.loop-k in (search rules, number_turn l.marks _ l.k _ (search rules) (search rules) refl ∙ l.invariant.1)
