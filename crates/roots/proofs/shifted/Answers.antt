-- `shifted`: the zeros that lead m are shifted out. Assumes nothing.
use mathlib.Core.Path.{sym, ap, ◌∙◌}
use Prim.Native.Nat.{◌*◌, ◌^◌}
use native.Mathlib.Omega.{arith}
use Rattle.roots.proofs.Laws.{shift_of}
use Rattle.roots.proofs.shifted.Goals as goal

pub overflow_sub-by : goal.overflow_sub-by
overflow_sub-by c = (shift_of c.args.m c.requires.0 c.requires.1).enough

pub returns : goal.returns
returns c = let m = c.args.m in
    let s = shift_of m c.requires.0 c.requires.1 in
    (s.kept ∙ ap (λ n. m * 2 ^ n) (sym c.from.ensures), omega (arith, s.kept, s.low), omega (arith, s.kept, s.high), omega (arith, s.few, c.from.ensures))
