-- `root_within`: the squares tell by the laws of Bounds, else the root is compared. Assumes nothing.
use mathlib.Core.Path.{ap}
use lib.Ieee.{le}
use borrow.Author.Rules.{rules}
use Rattle.floats.proofs.Bounds.{inside_is, outside_is}
use Rattle.floats.proofs.root_within.Goals as goal

pub returns-then-x-reach : goal.returns-then-x-reach
returns-then-x-reach c = let a = c.args in
    inside_is a.x a.reach (search rules) (search rules) c.if-x.true c.if-reach.true c.if-x-reach.true

pub returns-then-t-x : goal.returns-then-t-x
returns-then-t-x c = let a = c.args in
    outside_is a.x a.reach c.above-t.result (search rules) (search rules) c.if-reach-t.true c.if-t-x.true

pub returns : goal.returns
returns c = ap (λ y. le y c.args.reach) c.sqrt.ensures
