-- `along_one_line` is along_one_line: along the longer chord. Assumes nothing.
use mathlib.Core.Path.{◌∙◌}
use Rattle.clearing.proofs.Laws.{first_is, along_first, along_second}
use Rattle.clearing.proofs.along_one_line.Goals as goal

pub returns-then-dot : goal.returns-then-dot
returns-then-dot c = let a = c.args in
    let pre = c.requires in
    let ca = c.chord-ca in
    let cb = c.chord-cb in
    let m = c.dot in
    let n = c.dot-2 in
    c.along_axis.ensures
    ∙ along_first a.gap a.p.now a.q.now ca.result cb.result m.result n.result ca.ensures cb.ensures m.ensures
    n.ensures c.if-dot.true c.point_at.result (c.point_at.ensures ∙ first_is a.p.now pre.in_bounds)

pub returns : goal.returns
returns c = let a = c.args in
    let pre = c.requires in
    let ca = c.chord-ca in
    let cb = c.chord-cb in
    let m = c.dot in
    let n = c.dot-2 in
    c.along_axis-2.ensures
    ∙ along_second a.gap a.p.now a.q.now ca.result cb.result m.result n.result ca.ensures cb.ensures m.ensures
    n.ensures c.if-dot.false c.point_at-2.result (c.point_at-2.ensures ∙ first_is a.q.now pre.in_bounds_2)
