-- `net_points` is points_of: i points are divided. Assumes nothing.
use mathlib.Core.Path.{refl, ◌∙◌}
use Prim.Native.Nat.{◌/◌}
use native.Mathlib.Omega.{arith}
use lib.ListN.{length}
use Rattle.nets.proofs.Laws.{points_turn, points_done}
use Rattle.nets.proofs.net_points.Goals as goal

pub loop-i-preserved : goal.loop-i-preserved
loop-i-preserved c = let net = c.args.net.now in
    let l = c.loop-i in
    points_turn net _ l.out c.put.new.s (length net / 4) l.i (omega arith) (omega arith) (omega arith) refl c.put.ensures ∙ l.invariant

pub returns : goal.returns
returns c = let net = c.args.net.now in
    let l = c.loop-i in
    points_done net l.out _ (length net / 4) l.i (omega arith) (omega arith) (omega arith) l.invariant
