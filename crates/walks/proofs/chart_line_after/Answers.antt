-- A line, and its range behind it. Assumes nothing.
use borrow.Author.Rules.{rules}
use Rattle.std.proofs.lemmas.Result.{err_from_is_err_and}
use Rattle.walks.proofs.Charts.{chart_line_none, chart_line_fits}
use Rattle.walks.proofs.chart_line_after.Goals as goal

pub returns-in_err-line : goal.returns-in_err-line
returns-in_err-line c = let p = err_from_is_err_and c.from_residual.result c.from_residual.ensures.1 in rw (p.1, p.2) (chart_line_none c.args.s.now c.args.at c.in_err-line.ensures)

pub returns : goal.returns
returns c = chart_line_fits c.args.s.now c.args.at c.in_ok-line.line c.part_after.result (search rules) c.in_ok-line.ensures c.part_after.ensures
