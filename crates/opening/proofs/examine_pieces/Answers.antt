-- `examine_pieces` has places for the boxes, and `examine_boxed` does the rest. Assumes nothing.
use mathlib.Core.Path.{sym}
use native.Mathlib.Omega.{arith}
use Rattle.std.proofs.Common.{rules}
use Rattle.lines.specs.Lines.{seen}
use Rattle.lines.proofs.Admitted.{counts}
use Rattle.opening.proofs.examine_pieces.Goals as goal

pub piece_count-n1-requires : goal.piece_count-n1-requires
piece_count-n1-requires c = let C = counts (seen c.args.l1) c.requires.first.0 in (omega (arith, C.two_knots), C.few_knots)

pub piece_count-n2-requires : goal.piece_count-n2-requires
piece_count-n2-requires c = let C = counts (seen c.args.l2) c.requires.second.0 in (omega (arith, C.two_knots), C.few_knots)

pub slice_bounds-boxes1-end : goal.slice_bounds-boxes1-end
slice_bounds-boxes1-end c = omega (arith, c.piece_count-n1.ensures.0, c.requires.first.2)

pub slice_bounds-boxes2-end : goal.slice_bounds-boxes2-end
slice_bounds-boxes2-end c = omega (arith, c.piece_count-n2.ensures.0, c.requires.second.2)

pub examine_boxed-requires-clause-first : goal.examine_boxed-requires-clause-first
examine_boxed-requires-clause-first c = (c.requires.first, rw (sym c.piece_count-n1.ensures.0) (search rules))

pub examine_boxed-requires-clause-second : goal.examine_boxed-requires-clause-second
examine_boxed-requires-clause-second c = (c.requires.second, rw (sym c.piece_count-n2.ensures.0) (search rules))
