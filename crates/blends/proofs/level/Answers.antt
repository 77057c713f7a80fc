-- `level` is one level of the table: the rows done and those to come are all. Assumes nothing.
use mathlib.Core.Path.{ap, ◌∙◌}
use mathlib.Core.List.{◌++◌}
use Prim.Native.Nat.{◌+◌, ◌-◌, ◌*◌}
use native.Mathlib.Omega.{arith}
use lib.ListN.{take, drop}
use Rattle.blends.specs.Blends.{alpha_of}
use Rattle.blends.specs.Table.{mixes}
use Rattle.blends.proofs.Laws.{level_turn, level_done}
use Rattle.blends.proofs.level.Goals as goal

pub loop-i-preserved : goal.loop-i-preserved
loop-i-preserved c = let a = c.args in
    let l = c.loop-i in
    level_turn (alpha_of a.near.p a.near.u a.near.knots.now a.x a.r) (a.r + 2) (a.near.p - a.r) l.i l.s c.mix_run.new.s (omega arith) (omega arith)
    (c.mix_run.ensures ∙ ap (λ z. take (27 * l.i) l.s ++ mixes z (a.r + 2) (drop (27 * l.i) l.s)) c.blend_at.ensures) ∙ l.invariant

pub returns : goal.returns
returns c = let a = c.args in
    level_done (alpha_of a.near.p a.near.u a.near.knots.now a.x a.r) (a.r + 2) (a.near.p - a.r) c.loop-i.i c.loop-i.s _ (omega arith) c.loop-i.invariant
