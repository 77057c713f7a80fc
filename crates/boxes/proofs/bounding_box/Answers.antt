-- `bounding_box` is bounding_box: the chunks are the points. Assumes nothing.
use Rattle.std.proofs.Common.{rules, tests}
use Rattle.std.proofs.lemmas.Iterator.Consumers.{fold_from_yields_List}
use Rattle.boxes.specs.Boxes.{grown}
use Rattle.boxes.proofs.Laws.{points_of_chunks, box_by_fold}
use Rattle.boxes.proofs.bounding_box.Goals as goal

pub returns : goal.returns
returns c = let l = c.args.points.now in
    box_by_fold l c.cube.result _ c.cube.ensures
    (fold_from_yields_List _ grown _ _ c.fold.ensures.ran (points_of_chunks l c.chunks_exact.ensures.rest c.chunks_exact.ensures.size) (λ a x b q k. search (rules, tests)))
