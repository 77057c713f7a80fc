-- `behind` is behind_at. Assumes nothing.
use Rattle.charts.proofs.Lines.{behind_is, behind_fits}
use borrow.Author.Rules.{rules}
use Rattle.charts.proofs.behind.Goals as goal

pub overflow_add-result : goal.overflow_add-result
overflow_add-result c = let start = c in
    let h = behind_fits start.args.s.now start.args.at c.line_at-l.ensures start.requires in
    search rules

pub returns : goal.returns
returns c = behind_is c.args.s.now c.args.at c.line_at-l.ensures
