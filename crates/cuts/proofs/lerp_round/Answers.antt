-- `lerp_round` is a round in place. Assumes nothing.
use borrow.Author.Rules.{rules}
use Rattle.cuts.specs.Cuts.{lerp_of}
use Rattle.cuts.proofs.lerp_round.Goals as goal

pub returns : goal.returns
returns c = c.pair_round.ensures (lerp_of c.args.f) (search rules)
