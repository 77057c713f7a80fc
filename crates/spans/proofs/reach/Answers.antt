-- `reach` is its definition: the numbers behind `from` that are at most u. Assumes nothing.
use mathlib.Core.Path.{ap, ◌∙◌}
use Prim.Native.Nat.{◌+◌}
use native.Mathlib.Omega.{arith}
use mathlib.Core.Bool.{Bool}
use lib.Ieee.{Float, le}
use borrow.Author.Rules.{rules}
use Rattle.lists.proofs.Parts.{part_is, lent_length}
use Rattle.spans.specs.Spans.{leading}
use Rattle.spans.proofs.Laws.{reach_is}
use Rattle.spans.proofs.reach.Goals as goal

pub returns : goal.returns
returns c = let a = c.args in
    let t : Float → Bool = λ k. le k a.u in
    let e = c.leading.ensures.value t (search rules) in
    let n = lent_length (a.from + 1) a.n a.flat.now (omega arith) in (
      ap (λ k. a.from + k) (e ∙ ap (leading t) (part_is (a.from + 1) a.n a.flat.now)) ∙ reach_is a.n a.from a.u a.flat.now (omega arith),
      omega arith,
      omega (arith, n, c.leading.ensures.bound),
    )
