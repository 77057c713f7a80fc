-- `chord` is chord_of. Assumes nothing.
use mathlib.Core.Path.{ap, ◌∙◌}
use Rattle.floats.specs.Vectors.{sub_of}
use Rattle.clearing.specs.Chords.{last_of, chord_of}
use Rattle.clearing.proofs.Laws.{first_is, last_is}
use Rattle.clearing.proofs.chord.Goals as goal

pub returns : goal.returns
unfolding chord_of
returns c = let points = c.args.points.now in
    let pre = c.requires in
    c.sub.ensures ∙ ap (λ v. sub_of v c.point_at-2.result) (c.point_at.ensures ∙ last_is points pre)
    ∙ ap (sub_of (last_of points)) (c.point_at-2.ensures ∙ first_is points pre)
