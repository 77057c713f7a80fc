-- `cut_from` leaves what remains of its rounds. Assumes nothing.
use mathlib.Core.Path.{◌∙◌}
use native.Mathlib.Omega.{arith}
use Rattle.lists.proofs.Rounds.{remains-turn, remains_done}
use Rattle.cuts.specs.Cuts.{lerp_of}
use Rattle.cuts.proofs.cut_from.Goals as goal

pub loop-r-preserved : goal.loop-r-preserved
loop-r-preserved c = let a = c.args in
    let l = c.loop-r in
    let m = c.lerp_round in
    remains-turn (lerp_of a.f) a.n l.r l.s m.new.s (omega arith) m.ensures ∙ l.invariant

pub returns : goal.returns
returns c = let a = c.args in
    let l = c.loop-r in
    remains_done (lerp_of a.f) a.n l.r l.s _ (omega arith) l.invariant
