-- A space, then sixteen digits behind it. Assumes nothing.
use borrow.Author.Rules.{rules}
use mathlib.Core.Path.{◌∙◌}
use native.Mathlib.Omega.{arith}
use lib.ListN.{length-set}
use Rattle.texts.proofs.Laws.{float_is, float_length}
use Rattle.texts.proofs.put_float.Goals as goal

pub put_digits-requires : goal.put_digits-requires
put_digits-requires c = (simp length-set (omega arith), search rules, search rules)

pub shape_of-out : goal.shape_of-out
shape_of-out c = let args = c.args in
    c.put_digits.auto.out ∙ length-set args.out.now args.at 32

pub returns : goal.returns
returns c = let args = c.args in (
  omega (arith, float_length args.x),
  float_is args.out.now args.at c.bits.result args.x (search rules)
      c.bits.ensures c.put_digits.ensures,
)
