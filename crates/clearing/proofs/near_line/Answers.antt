-- `near_line` is near_line: the chunks are the points. Assumes nothing.
use mathlib.Core.Path.{sym, ◌∙◌}
use Rattle.std.proofs.Common.{rules, tests}
use Rattle.std.proofs.lemmas.Iterator.Search.{all_from_yields_List}
use Rattle.lists.proofs.Tests.{every_is_all}
use Rattle.boxes.specs.Points.{vectors}
use Rattle.boxes.proofs.Laws.{points_of_chunks}
use Rattle.clearing.specs.Lines.{is_near}
use Rattle.clearing.proofs.near_line.Goals as goal

pub returns : goal.returns
returns c = let a = c.args in
    let t = is_near a.origin a.axis a.reach in
    all_from_yields_List t _ _ _ c.all.ensures.ran (points_of_chunks a.points.now c.chunks_exact.ensures.rest c.chunks_exact.ensures.size) (λ x b q k. search (rules, tests))
    ∙ sym (every_is_all t (vectors a.points.now))
