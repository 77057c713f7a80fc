-- `levels` runs the levels one after the other. Assumes nothing.
use mathlib.Core.Path.{ap, ◌∙◌}
use Prim.Native.Nat.{◌+◌, ◌-◌}
use native.Mathlib.Omega.{arith}
use Rattle.blends.specs.Blends.{alpha_of, end_of}
use Rattle.blends.specs.Table.{level_of}
use Rattle.blends.proofs.Laws.{triangle-turn, triangle_done}
use Rattle.blends.proofs.levels.Goals as goal

pub loop-r-preserved : goal.loop-r-preserved
loop-r-preserved c = let a = c.args in
    let l = c.loop-r in
    triangle-turn (λ r. alpha_of a.near.p a.near.u a.near.knots.now (end_of a.near.p a.near.u a.near.knots.now a.k r) r) a.near.p l.r l.s c.level.new.s (omega arith)
    (c.level.ensures ∙ ap (λ x. level_of (alpha_of a.near.p a.near.u a.near.knots.now x l.r) (l.r + 2) (a.near.p - l.r) 0 l.s) c.end_of.ensures)
    ∙ l.invariant

pub returns : goal.returns
returns c = let a = c.args in
    triangle_done (λ r. alpha_of a.near.p a.near.u a.near.knots.now (end_of a.near.p a.near.u a.near.knots.now a.k r) r) a.near.p c.loop-r.r c.loop-r.s _ (omega arith) c.loop-r.invariant
