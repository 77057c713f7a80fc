-- `extent` is extent_of: the chunks are the points. Assumes nothing.
use Rattle.std.proofs.Common.{rules, tests}
use Rattle.std.proofs.lemmas.Iterator.Consumers.{fold_from_yields_List}
use Rattle.floats.specs.Vectors.{dot_of}
use Rattle.boxes.proofs.Laws.{points_of_chunks}
use Rattle.clearing.specs.Extents.{reached_to}
use Rattle.clearing.proofs.Laws.{extent_by_fold}
use Rattle.clearing.proofs.extent.Goals as goal

pub returns : goal.returns
returns c = let l = c.args.points.now in
    extent_by_fold c.args.axis l _
    (fold_from_yields_List _ (λ e v. reached_to e (dot_of v c.args.axis)) _ _ c.fold.ensures.ran (points_of_chunks l c.chunks_exact.ensures.rest c.chunks_exact.ensures.size)
    (λ a x b q k. search (rules, tests)))
