-- A line from its kind, its five parts and its datum: the first part that is refused refuses the line. Assumes nothing.
use Rattle.std.proofs.lemmas.Result.{err_from_is_err_and}
use Rattle.walks.proofs.Walks.{no_degree, no_knots, no_mults, no_poles, no_weights, no_datum, line_fits}
use Rattle.walks.proofs.line_after.Goals as goal

pub returns-in_err-degree : goal.returns-in_err-degree
returns-in_err-degree c = let p = err_from_is_err_and c.from_residual.result c.from_residual.ensures.1 in rw (p.1, p.2) (no_degree c.word_stands-closed.ensures c.line_kind.ensures c.in_err-degree.ensures)

pub returns-in_err-knots : goal.returns-in_err-knots
returns-in_err-knots c = let p = err_from_is_err_and c.from_residual-in_err-knots.result c.from_residual-in_err-knots.ensures.1 in rw (p.1, p.2) (no_knots c.word_stands-closed.ensures c.line_kind.ensures c.in_ok-degree.ensures c.in_err-knots.ensures)

pub returns-in_err-mults : goal.returns-in_err-mults
returns-in_err-mults c = let p = err_from_is_err_and c.from_residual-in_err-mults.result c.from_residual-in_err-mults.ensures.1 in rw (p.1, p.2) (no_mults c.word_stands-closed.ensures c.line_kind.ensures c.in_ok-degree.ensures c.in_ok-knots.ensures c.in_err-mults.ensures)

pub returns-in_err-poles : goal.returns-in_err-poles
returns-in_err-poles c = let p = err_from_is_err_and c.from_residual-in_err-poles.result c.from_residual-in_err-poles.ensures.1 in rw (p.1, p.2) (no_poles c.word_stands-closed.ensures c.line_kind.ensures c.in_ok-degree.ensures c.in_ok-knots.ensures c.in_ok-mults.ensures c.in_err-poles.ensures)

pub returns-in_err-weights : goal.returns-in_err-weights
returns-in_err-weights c = let p = err_from_is_err_and c.from_residual-in_err-weights.result c.from_residual-in_err-weights.ensures.1 in rw (p.1, p.2) (no_weights c.word_stands-closed.ensures c.line_kind.ensures c.in_ok-degree.ensures c.in_ok-knots.ensures c.in_ok-mults.ensures c.in_ok-poles.ensures c.in_err-weights.ensures)

pub returns-in_err-datum : goal.returns-in_err-datum
returns-in_err-datum c = let p = err_from_is_err_and c.from_residual-in_err-datum.result c.from_residual-in_err-datum.ensures.1 in rw (p.1, p.2) (no_datum c.word_stands-closed.ensures c.line_kind.ensures c.in_ok-degree.ensures c.in_ok-knots.ensures c.in_ok-mults.ensures c.in_ok-poles.ensures c.in_ok-weights.ensures c.in_err-datum.ensures)

pub returns : goal.returns
returns c = line_fits c.word_stands-closed.ensures c.line_kind.ensures c.in_ok-degree.ensures c.in_ok-knots.ensures c.in_ok-mults.ensures c.in_ok-poles.ensures c.in_ok-weights.ensures c.in_ok-datum.ensures
