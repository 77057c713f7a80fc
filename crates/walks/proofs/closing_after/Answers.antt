-- The question and the end, with the test of the end's place. Assumes nothing.
use Rattle.std.proofs.lemmas.Result.{err_from_is_err_and}
use Rattle.walks.proofs.Charts.{no_question, no_end, goes_on, closing_fits}
use Rattle.walks.proofs.closing_after.Goals as goal

pub returns-in_err-question : goal.returns-in_err-question
returns-in_err-question c = let p = err_from_is_err_and c.from_residual.result c.from_residual.ensures.1 in rw (p.1, p.2) (no_question c.in_err-question.ensures)

pub returns-in_err-end : goal.returns-in_err-end
returns-in_err-end c = let p = err_from_is_err_and c.from_residual-in_err-end.result c.from_residual-in_err-end.ensures.1 in rw (p.1, p.2) (no_end c.in_ok-question.ensures c.in_err-end.ensures)

pub returns-then-end-s : goal.returns-then-end-s
returns-then-end-s c = goes_on c.in_ok-question.ensures c.in_ok-end.ensures c.if-end-s.true

pub returns : goal.returns
returns c = closing_fits c.in_ok-question.ensures c.in_ok-end.ensures c.if-end-s.false
