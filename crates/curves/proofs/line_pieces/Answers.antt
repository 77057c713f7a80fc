-- Admission gives the sizes that the nets ask for, and the view's poles are the line's. Assumes nothing.
use mathlib.Core.Path.{sym, ap, ◌∙◌}
use Prim.Native.Nat.{◌*◌}
use native.Mathlib.Omega.{arith}
use lib.ListN.{take}
use lib.Seq.{length-take-le}
use Rattle.lines.specs.Lines.{seen}
use Rattle.lines.proofs.Admitted.{counts}
use Rattle.curves.proofs.Laws.{pieces_of_lem}
use Rattle.curves.proofs.Room.{line-room}
use Rattle.curves.proofs.line_pieces.Goals as goal

pub homogeneous_poles-all-requires : goal.homogeneous_poles-all-requires
homogeneous_poles-all-requires c = (counts (seen c.args.l) c.requires.0).few_poles

pub slice_bounds-all-end : goal.slice_bounds-all-end
slice_bounds-all-end c = let k = counts (seen c.args.l) c.requires.0 in
    omega (arith, k.few_poles, c.homogeneous_poles-all.ensures.0)

pub slice_bounds-with_poles-end : goal.slice_bounds-with_poles-end
slice_bounds-with_poles-end c = let k = counts (seen c.args.l) c.requires.0 in
    sym (length-take-le _ _ (omega (arith, k.few_poles, c.homogeneous_poles-all.ensures.0)))

pub with_poles-requires-clause-fact : goal.with_poles-requires-clause-fact
with_poles-requires-clause-fact c = let k = counts (seen c.args.l) c.requires.0 in
    let s = line-room (seen c.args.l) k in
    (k.least, (omega (arith, k.two_knots), k.as_many, k.most, s.0, s.1, s.2, s.3), k.two_knots, k.few_knots)

pub with_poles-requires-clause-in_bounds : goal.with_poles-requires-clause-in_bounds
with_poles-requires-clause-in_bounds c = let k = counts (seen c.args.l) c.requires.0 in
    let s = line-room (seen c.args.l) k in
    (length-take-le _ _ (omega (arith, k.few_poles, c.homogeneous_poles-all.ensures.0)) ∙ omega (arith, k.count), c.requires.1)

pub returns : goal.returns
returns c = let a = c.args in
    let k = counts (seen a.l) c.requires.0 in
    c.with_poles.ensures ∙ pieces_of_lem (seen a.l) a.r.lo a.r.hi _ a.out.now k.count (ap (λ n. take (4 * n) c.homogeneous_poles-all.result) c.len.ensures ∙ c.homogeneous_poles-all.ensures.1)
