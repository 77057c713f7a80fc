-- `is_no_longer`: the root keeps the order of squares; a number between the roots tells them apart; else the roots are compared. Assumes nothing.
use mathlib.Core.Path.{ap, ◌∙◌, sym}
use lib.Ieee.{le, mul, binary64, of_bits}
use lib.Ieee.Fits.{mul-fits}
use borrow.Author.Rules.{rules}
use Rattle.floats.specs.Vectors.{dot_of}
use Rattle.floats.proofs.Bounds.{no_longer_is, longer_is}
use Rattle.floats.proofs.is_no_longer.Goals as goal

pub returns-then-x-y : goal.returns-then-x-y
returns-then-x-y c = let a = c.args in
    no_longer_is a.a a.b (ap (λ x. le x (dot_of a.b a.b)) (sym c.dot-x.ensures)
    ∙ ap (λ x. le c.dot-x.result x) (sym c.dot-y.ensures) ∙ c.if-x-y.true)

pub returns-then-u-x : goal.returns-then-u-x
returns-then-u-x c = let k = c in
    let x = k.dot-x in
    let y = k.dot-y in
    longer_is k.args.a k.args.b x.result
    y.result (mul binary64 (of_bits binary64 0x3ff0_1000_0000_0000) k.rough_sqrt-t.result) k.above-u.result
    x.ensures y.ensures (mul-fits binary64 (of_bits binary64 0x3ff0_1000_0000_0000) k.rough_sqrt-t.result) (search rules)
    k.if-y.true c.if-t.true c.if-y-t.true c.if-t-u.true c.if-u-x.true

pub returns : goal.returns
returns c = cc
