-- `net` joins the middle, the span's net, its knots and the cut. Assumes nothing.
use Rattle.pieces.proofs.Laws as laws
use Rattle.pieces.proofs.net.Goals as goal

pub returns : goal.returns
returns c = let a = c.args in
    let m = c.mean-middle in
    let v = c.place in
    let l = c.span_bezier in
    let i = c.span_around-around in
    let f = c.share_of-f0 in
    let g = c.share_of-f1 in
    laws.net_is a.s.closed a.s.p a.s.knots.now a.s.flat.now a.s.poles.now a.t0 a.t1 m.result v.result i.result f.result g.result l.new.out _
    m.ensures v.ensures l.ensures i.ensures f.ensures g.ensures c.restrict.ensures
