-- `passed` is its definition: the first n knots that are at most t. Assumes nothing.
use mathlib.Core.Path.{sym, ◌∙◌}
use native.Mathlib.Nat.{zero-add}
use native.Mathlib.Omega.{arith}
use lib.Ieee.{le}
use lib.Seq.{length-take-le}
use borrow.Author.Rules.{rules}
use Rattle.spans.proofs.Laws.{passed_is}
use Rattle.spans.proofs.passed.Goals as goal

pub returns : goal.returns
returns c = let a = c.args in
    let n = length-take-le a.n a.knots.now c.requires in (
      c.leading.ensures.value (λ k. le k a.t) (search rules) ∙ sym (zero-add _) ∙ passed_is a.n 0 a.t a.knots.now (omega arith),
      omega (arith, n, c.leading.ensures.bound),
    )
