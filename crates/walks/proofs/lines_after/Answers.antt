-- The lines of a chart. The loop's invariant: so many lines are passed. The measure is the bytes that are left. Assumes nothing.
use borrow.Author.Rules.{rules}
use mathlib.Core.Path.{sym, ◌∙◌}
use native.Mathlib.Omega.{arith}
use Rattle.std.proofs.lemmas.Result.{err_from_is_err_and}
use Rattle.walks.proofs.Charts.{behind_further, passed_none, passed_more, passed-refused, passed_all}
use Rattle.walks.proofs.lines_after.Goals as goal

pub loop-place-init : goal.loop-place-init
loop-place-init c = (search rules, search rules, passed_none c.args.s.now c.args.at)

pub returns-in_err-range : goal.returns-in_err-range
returns-in_err-range c = let p = err_from_is_err_and c.from_residual.result c.from_residual.ensures.1 in rw (p.1, p.2) (passed-refused c.args.s.now c.args.at c.loop-place.place c.loop-place.count c.loop-place.invariant.2 _ (sym c.line_stands.ensures ∙ c.loop-place-test.true) c.in_err-range.ensures)

pub loop-place-smaller : goal.loop-place-smaller
loop-place-smaller c = omega (arith, c.in_ok-range.ensures.found.before, c.in_ok-range.ensures.found.behind, behind_further c.args.s.now c.loop-place.place)

pub loop-place-preserved : goal.loop-place-preserved
loop-place-preserved c = let found = c.in_ok-range.ensures in
    let loop = c.loop-place in
    let args = c.args in (
      found.found.before,
      omega (arith, loop.invariant.1, found.found.behind, behind_further args.s.now loop.place),
      passed_more args.s.now args.at loop.place loop.count loop.invariant.2 c.in_ok-range.range
          (sym c.line_stands.ensures ∙ c.loop-place-test.true) found,
    )

pub returns : goal.returns
returns c = let loop = c.loop-place in
    passed_all c.args.s.now c.args.at loop.place loop.count loop.invariant.2 loop.invariant.0
    (sym c.line_stands.ensures ∙ c.loop-place-test.false)
