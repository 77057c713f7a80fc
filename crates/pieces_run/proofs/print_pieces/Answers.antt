-- `print_pieces` lends enough room. Assumes nothing.
use Prim.Native.Nat.{◌+◌}
use native.Mathlib.Omega.{arith}
use Rattle.lines.specs.Lines.{seen}
use Rattle.lines.proofs.Admitted.{counts}
use Rattle.pieces.proofs.Laws.{small}
use Rattle.pieces_run.proofs.print_pieces.Goals as goal

pub piece_count-n-requires : goal.piece_count-n-requires
piece_count-n-requires g c =
    let k = counts (seen c.args.l) c.requires in
    (omega (arith, k.two_knots), k.few_knots)

pub line_pieces-requires : goal.line_pieces-requires
line_pieces-requires g c =
    let l = c.args.l in
    let k = counts (seen l) c.requires in
    let n = c.piece_count-n in
    let s = rw n.ensures.0 at (small n.result l.degree n.ensures.2 k.most) in
    (c.requires, omega (arith, s))

pub slot-requires : goal.slot-requires
slot-requires g c =
    let l = c.args.l in
    let k = counts (seen l) c.requires in
    let i = c.loop-i.i in
    omega (arith, small (i + 1) l.degree (omega (arith, c.piece_count-n.ensures.2)) k.most, c.line_pieces.auto.out)
