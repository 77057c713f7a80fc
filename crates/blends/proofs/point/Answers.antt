-- `point` gives the point of the recurrence, by way of the table. Assumes nothing.
use mathlib.Core.Path.{ap, ◌∙◌}
use Prim.Native.Nat.{◌+◌}
use borrow.Author.Rules.{rules}
use Rattle.blends.specs.Blends.{alpha_of, end_of, nothing}
use Rattle.blends.specs.Table.{triangle, coefficients, weighed}
use Rattle.blends.proofs.Book as book
use Rattle.blends.proofs.point.Goals as goal

pub returns : goal.returns
unfolding coefficients
returns c = let a = c.args in
    c.weigh.ensures
    ∙ ap (λ l. weighed nothing (a.near.p + 1) 0 l a.poles.now) (c.levels.ensures
    ∙ ap (triangle (λ r. alpha_of a.near.p a.near.u a.near.knots.now (end_of a.near.p a.near.u a.near.knots.now a.k r) r) a.near.p 0)
    c.start.ensures)
    ∙ book.point_is a.near.p a.near.u a.near.knots.now a.poles.now a.k (search rules)
