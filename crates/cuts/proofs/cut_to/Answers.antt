-- `cut_to` keeps the first point of each round. Assumes nothing.
use mathlib.Core.Path.{refl, ◌∙◌}
use Prim.Native.Nat.{◌*◌}
use native.Mathlib.Omega.{arith}
use lib.Seq.{length-take-le}
use Rattle.lists.proofs.Parts.{given_back}
use Rattle.lists.proofs.Rounds.{firsts_copied, firsts_done}
use Rattle.cuts.specs.Cuts.{lerp_of}
use Rattle.cuts.proofs.cut_to.Goals as goal

pub loop-r-preserved : goal.loop-r-preserved
loop-r-preserved c = let a = c.args in
    let l = c.loop-r in
    let m = c.lerp_round in
    firsts_copied (lerp_of a.f) a.n l.r l.low _ l.s m.new.s (omega arith) (omega arith) (omega arith)
    (given_back (l.r * 4) 4 c.copy_from_slice.ensures.after refl (length-take-le 4 l.s (omega arith))) m.ensures
    ∙ l.invariant

pub returns : goal.returns
returns c = let a = c.args in
    let l = c.loop-r in
    firsts_done (lerp_of a.f) a.n l.r l.low l.s _ (omega arith) (omega arith) (omega arith) l.invariant
