-- `pair_round` is paired by what its closure computes. Assumes nothing.
use mathlib.Core.Path.{◌∙◌}
use native.Mathlib.Omega.{arith}
use Rattle.lists.proofs.Rounds.{paired-turn, paired_done}
use Rattle.lists.proofs.pair_round.Goals as goal

pub loop-x-preserved : goal.loop-x-preserved
loop-x-preserved g c = λ j h.
    paired-turn j c.args.d c.loop-x.s c.loop-x.x c.args.m c.join.result (omega arith) (omega arith) (h _ _ _ c.join.ensures) ∙ c.loop-x.invariant j h

pub returns : goal.returns
returns g c = λ j h. paired_done j c.args.d c.loop-x.s _ c.loop-x.x c.args.m (omega arith) (c.loop-x.invariant j h)
