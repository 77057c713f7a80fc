-- `weigh` adds up: what is added and what is to come are the whole. Assumes nothing.
use mathlib.Core.Path.{◌∙◌}
use native.Mathlib.Omega.{arith}
use Rattle.blends.proofs.Laws.{weigh_turn, weigh_done}
use Rattle.blends.proofs.weigh.Goals as goal

pub loop-j-preserved : goal.loop-j-preserved
loop-j-preserved c = let l = c.loop-j in
    weigh_turn l.q c.plus-q.result c.args.n l.j _ _ (omega arith) c.plus-q.ensures ∙ l.invariant

pub returns : goal.returns
returns c = weigh_done c.loop-j.q _ c.args.n c.loop-j.j _ _ (omega arith) c.loop-j.invariant
