-- `separated` is separated_of: by the normal of the chords that it finds. Assumes nothing.
use mathlib.Core.Path.{◌∙◌}
use Rattle.clearing.proofs.Laws.{between_is, separated_is}
use Rattle.clearing.proofs.separated.Goals as goal

pub returns : goal.returns
returns c = let a = c.args in
    c.apart_by_normal.ensures
    ∙ separated_is c.normal_of.result c.chord-ca.result c.chord-cb.result c.sub-between.result a.gap a.p.now a.q.now c.chord-ca.ensures c.chord-cb.ensures
    (between_is _ _ _ a.p.now a.q.now c.sub-between.ensures c.point_at.ensures c.point_at-2.ensures c.requires.in_bounds c.requires.in_bounds_2) c.normal_of.ensures
