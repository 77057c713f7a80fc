-- `span_bezier` joins the clamp, the search and the points. Assumes nothing.
use Rattle.pieces.specs.Pieces.{held}
use Rattle.pieces.proofs.Laws as laws
use Rattle.pieces.proofs.span_bezier.Goals as goal

pub returns : goal.returns
unfolding held
returns c = let a = c.args in
    let u = c.clamp-u in
    let s = c.span-at in
    laws.span_is a.s.p a.s.flat.now a.s.poles.now _ u.result a.v s.result u.ensures s.ensures.0 c.points.ensures
