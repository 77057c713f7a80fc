-- `place` is its definition, one case a return. Assumes nothing.
use Rattle.spans.proofs.Laws.{place_open, place_closed}
use Rattle.spans.proofs.place.Goals as goal

pub returns-then-closed : goal.returns-then-closed
returns-then-closed c = let a = c.args in
    place_closed a.closed a.knots.now a.t c.in_period-u.result c.start_unless.result c.turn_span-i.result
    c.if-closed.true c.turn_span-i.ensures.0 c.in_period-u.ensures c.start_unless.ensures

pub returns-else-closed : goal.returns-else-closed
returns-else-closed c = let a = c.args in
    place_open a.closed a.knots.now a.t c.if-closed.false
