-- How many decimal digits a number has: passed and still to come they are the same at each turn. Assumes nothing.
use borrow.Author.Rules.{rules}
use native.Mathlib.Omega.{arith}
use Rattle.texts.proofs.Laws.{places_turn, places_end, places_least, places_fit}
use Rattle.texts.proofs.places.Goals as goal

pub overflow_add-k : goal.overflow_add-k
overflow_add-k c = omega (arith, places_least c.loop-left.left c.loop-left.left, places_fit c.args.n (search rules))

pub loop-left-preserved : goal.loop-left-preserved
loop-left-preserved c = omega (arith, places_turn c.loop-left.left (search rules), c.loop-left.invariant)

pub returns : goal.returns
returns c = (
  omega (arith, places_end c.loop-left.left c.loop-left.left (search rules), c.loop-left.invariant),
  omega (arith, places_least c.loop-left.left c.loop-left.left, places_fit c.args.n (search rules)),
)
