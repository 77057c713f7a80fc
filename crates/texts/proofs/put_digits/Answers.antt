-- Digits from the last one on: those written and those to come are the wanted ones at each turn. Assumes nothing.
use borrow.Author.Rules.{rules}
use mathlib.Core.Path.{◌∙◌}
use native.Mathlib.Nat.{mod-lt}
use native.Mathlib.Omega.{arith}
use Rattle.texts.proofs.Laws.{digits_turn, digits_none, digits_start}
use Rattle.texts.proofs.put_digits.Goals as goal

pub loop-i-init : goal.loop-i-init
loop-i-init c = (
  search rules,
  search rules,
  search rules,
  digits_start c.args.out.now c.args.at c.args.k c.args.base c.args.n,
)

pub hex_digit-requires : goal.hex_digit-requires
hex_digit-requires c = omega (arith, mod-lt c.loop-i.left {m = c.args.base} (search rules))

pub loop-i-preserved : goal.loop-i-preserved
loop-i-preserved c = let loop = c.loop-i in (
  search rules,
  search rules,
  search rules,
  digits_turn loop.out c.args.at loop.i c.args.base loop.left
      c.hex_digit.result (search rules) (search rules) c.hex_digit.ensures ∙ loop.invariant.3,
)

pub returns : goal.returns
returns c = digits_none c.loop-i.out c.args.at c.loop-i.i c.args.base
    c.loop-i.left (search rules) c.loop-i.invariant.3
