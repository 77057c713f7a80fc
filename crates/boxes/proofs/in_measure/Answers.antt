-- `in_measure` is in_measure. Assumes nothing.
use lib.Ieee.{neg}
use Rattle.std.proofs.Common.{rules, tests}
use Rattle.floats.specs.Floats.{within}
use Rattle.lists.proofs.Tests.{every_by_all}
use Rattle.boxes.specs.Nets.{most_coordinate}
use Rattle.boxes.proofs.in_measure.Goals as goal

pub returns : goal.returns
returns c = every_by_all (within (neg most_coordinate) most_coordinate) _ _ _ _ c.all.ensures.ran (cc) (λ x b q k. search (rules, tests))
