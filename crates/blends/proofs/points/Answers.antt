-- `points` fills, one point a turn. Assumes nothing.
use mathlib.Core.Path.{refl, ap, ◌∙◌}
use mathlib.Core.List.{◌∷◌, ◌++◌}
use Prim.Native.Nat.{◌+◌, ◌*◌}
use native.Mathlib.Omega.{arith}
use lib.ListN.{take, drop}
use Rattle.blends.specs.Blends.{point_of, points_from}
use Rattle.lists.proofs.Loops.{fill4_turn, fill_done}
use Rattle.blends.proofs.points.Goals as goal

pub loop-k-preserved : goal.loop-k-preserved
loop-k-preserved c = let a = c.args in
    let l = c.loop-k in
    let at = point_of a.near.p a.near.u a.near.knots.now a.poles.now in
    fill4_turn (points_from a.near.p a.near.u a.near.knots.now a.poles.now) (λ k. (at k).x) (λ k. (at k).y) (λ k. (at k).z) (λ k. (at k).w)
    (λ n k. unfold points_from in refl) l.out c.put.new.s (a.near.p + 1) l.k (omega arith) (omega arith)
    (c.put.ensures ∙ ap (λ q. take (4 * l.k) l.out ++ (q.x ∷ q.y ∷ q.z ∷ q.w ∷ drop (4 * l.k + 4) l.out)) c.point.ensures)
    ∙ l.invariant

pub returns : goal.returns
returns c = let a = c.args in
    fill_done (points_from a.near.p a.near.u a.near.knots.now a.poles.now) (λ k. unfold points_from in refl) c.loop-k.out _ (a.near.p + 1) c.loop-k.k (4 * c.loop-k.k)
    (omega arith) (omega arith) c.loop-k.invariant
