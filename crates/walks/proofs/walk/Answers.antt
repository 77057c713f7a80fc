-- A sheet, by what follows its track and its second line. Assumes nothing.
use mathlib.Core.Path.{sym, ◌∙◌}
use borrow.Author.Tests.{not-true, not-false}
use Rattle.std.proofs.lemmas.Result.{err_from_is_err_and}
use Rattle.walks.proofs.Charts.{not_long, no_track, alone_refused, track_alone, no_second, pair_refused, pair_sheet, lines_refused, chart_refused, chart_sheet}
use Rattle.walks.proofs.walk.Goals as goal

pub returns-then-bad_length-clause-s_value : goal.returns-then-bad_length-clause-s_value
returns-then-bad_length-clause-s_value c = not_long c.args.s.now (sym c.bad_length.ensures ∙ c.if-bad_length.true)

pub returns-in_err-first-clause-s_value : goal.returns-in_err-first-clause-s_value
returns-in_err-first-clause-s_value c = let p = err_from_is_err_and c.from_residual.result c.from_residual.ensures.1 in rw (p.1, p.2) (no_track c.args.s.now (sym c.bad_length.ensures ∙ c.if-bad_length.false) c.in_err-first.ensures)

pub returns-in_err-end-clause-s_value : goal.returns-in_err-end-clause-s_value
returns-in_err-end-clause-s_value c = let p = err_from_is_err_and c.from_residual-in_err-end.result c.from_residual-in_err-end.ensures.1 in rw (p.1, p.2) (alone_refused c.args.s.now (sym c.bad_length.ensures ∙ c.if-bad_length.false) c.in_ok-first.ensures (sym c.line_stands.ensures ∙ not-true _ c.if-not-line_stands.true-raw) c.in_err-end.ensures)

pub returns-then-not-line_stands-clause-s_value : goal.returns-then-not-line_stands-clause-s_value
returns-then-not-line_stands-clause-s_value c = track_alone c.args.s.now (sym c.bad_length.ensures ∙ c.if-bad_length.false) c.in_ok-first.ensures (sym c.line_stands.ensures ∙ not-true _ c.if-not-line_stands.true-raw) c.in_ok-end.ensures

pub returns-in_err-second-clause-s_value : goal.returns-in_err-second-clause-s_value
returns-in_err-second-clause-s_value c = let p = err_from_is_err_and c.from_residual-in_err-second.result c.from_residual-in_err-second.ensures.1 in rw (p.1, p.2) (no_second c.args.s.now (sym c.bad_length.ensures ∙ c.if-bad_length.false) c.in_ok-first.ensures (sym c.line_stands.ensures ∙ not-false _ c.if-not-line_stands.false-raw) c.in_err-second.ensures)

pub returns-in_err-lines-clause-s_value : goal.returns-in_err-lines-clause-s_value
returns-in_err-lines-clause-s_value c = let p = err_from_is_err_and c.from_residual-in_err-lines.result c.from_residual-in_err-lines.ensures.1 in rw (p.1, p.2) (lines_refused c.args.s.now (sym c.bad_length.ensures ∙ c.if-bad_length.false) c.in_ok-first.ensures (sym c.line_stands.ensures ∙ not-false _ c.if-not-line_stands.false-raw) c.in_ok-second.ensures (sym c.word_stands.ensures ∙ c.if-word_stands.true) c.in_err-lines.ensures)

pub returns-in_err-end-2-clause-s_value : goal.returns-in_err-end-2-clause-s_value
returns-in_err-end-2-clause-s_value c = let p = err_from_is_err_and c.from_residual-in_err-end-2.result c.from_residual-in_err-end-2.ensures.1 in rw (p.1, p.2) (chart_refused c.args.s.now (sym c.bad_length.ensures ∙ c.if-bad_length.false) c.in_ok-first.ensures (sym c.line_stands.ensures ∙ not-false _ c.if-not-line_stands.false-raw) c.in_ok-second.ensures (sym c.word_stands.ensures ∙ c.if-word_stands.true) c.in_ok-lines.ensures c.in_err-end-2.ensures)

pub returns-then-word_stands-clause-s_value : goal.returns-then-word_stands-clause-s_value
returns-then-word_stands-clause-s_value c = chart_sheet c.args.s.now (sym c.bad_length.ensures ∙ c.if-bad_length.false) c.in_ok-first.ensures (sym c.line_stands.ensures ∙ not-false _ c.if-not-line_stands.false-raw) c.in_ok-second.ensures (sym c.word_stands.ensures ∙ c.if-word_stands.true) c.in_ok-lines.ensures c.in_ok-end-2.ensures

pub returns-in_err-end-3-clause-s_value : goal.returns-in_err-end-3-clause-s_value
returns-in_err-end-3-clause-s_value c = let p = err_from_is_err_and c.from_residual-in_err-end-3.result c.from_residual-in_err-end-3.ensures.1 in rw (p.1, p.2) (pair_refused c.args.s.now (sym c.bad_length.ensures ∙ c.if-bad_length.false) c.in_ok-first.ensures (sym c.line_stands.ensures ∙ not-false _ c.if-not-line_stands.false-raw) c.in_ok-second.ensures (sym c.word_stands.ensures ∙ c.if-word_stands.false) c.in_err-end-3.ensures)

pub returns-clause-s_value : goal.returns-clause-s_value
returns-clause-s_value c = pair_sheet c.args.s.now (sym c.bad_length.ensures ∙ c.if-bad_length.false) c.in_ok-first.ensures (sym c.line_stands.ensures ∙ not-false _ c.if-not-line_stands.false-raw) c.in_ok-second.ensures (sym c.word_stands.ensures ∙ c.if-word_stands.false) c.in_ok-end-3.ensures
