-- `halve` is upper_of and lower_of: r rounds are done. Assumes nothing.
use native.Mathlib.Omega.{arith}
use mathlib.Core.Path.{refl, ◌∙◌}
use Prim.Native.Nat.{◌*◌}
use lib.Seq.{length-take-le}
use Rattle.lists.proofs.Parts.{given_back}
use Rattle.lists.proofs.Rounds.{remains-turn, remains_done, firsts_copied, firsts_done}
use Rattle.floats.specs.Floats.{middle}
use borrow.Author.Rules.{rules}
use Rattle.nets.proofs.halve.Goals as goal

pub loop-r-preserved : goal.loop-r-preserved
loop-r-preserved c = let w = c.args.w in
    let l = c.loop-r in
    let p = c.pair_round in
    let e = p.ensures middle (search rules) in record {
      up = remains-turn middle w l.r l.upper p.new.s (omega arith) e ∙ l.invariant.up;
      low = firsts_copied middle w l.r l.lower _ l.upper p.new.s (omega arith) (omega arith) (omega arith)
          (given_back (l.r * 4) 4 c.copy_from_slice.ensures.after refl (length-take-le 4 l.upper (omega arith))) e ∙ l.invariant.low;
    }

pub returns-clause-upper_half : goal.returns-clause-upper_half
returns-clause-upper_half c = let l = c.loop-r in
    remains_done middle c.args.w l.r l.upper _ (omega arith) l.invariant.up

pub returns-clause-lower_half : goal.returns-clause-lower_half
returns-clause-lower_half c = let l = c.loop-r in
    firsts_done middle c.args.w l.r l.lower l.upper _ (omega arith) (omega arith) (omega arith) l.invariant.low
