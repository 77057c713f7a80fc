-- `earlier` is earlier_of where one is nothing. Assumes nothing.
use Rattle.charts.proofs.Laws.{nothing_as, earlier_as}
use Rattle.charts.proofs.earlier.Goals as goal

pub returns-in_default : goal.returns-in_default
returns-in_default c = nothing_as c.args.a c.args.b c.in_default.not-Some

pub returns-in_default-b : goal.returns-in_default-b
returns-in_default-b c = earlier_as c.args.a c.args.b c.in-Some.is c.in_default-b.not-Some
