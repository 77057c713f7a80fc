-- A report's lines, or its refusal, one return an answer. Assumes nothing.
use native.Mathlib.Omega.{arith}
use Rattle.states.specs.States.{memory}
use Rattle.std.specs.Prelude.{Err}
use Rattle.report.specs.Reports.{output}
use Rattle.sheet.proofs.Reports.{few_told, refused, report_prints, told_prints}
use Rattle.sheet.proofs.answer_report.Goals as goal

pub put_regions-requires : goal.put_regions-requires
put_regions-requires c = let counts = c.put_counts-at in
    let told = c in
    let report = told in
    let start = report in
    let args = start.args in
    let m = few_told args.st (memory args.nets1.now args.nets2.now args.ranges.now args.depths.now args.raw.now)
    (output args.list.now args.marks.now) report.report.ensures told.in-Ok.is in (
      omega (arith, m.0, report.report.auto.out),
      omega (arith, m.1, report.report.auto.marks),
      omega (arith, m.0, counts.auto.out, counts.ensures.upper_bound, start.requires.0, start.requires.1),
    )

pub returns-in-Ok : goal.returns-in-Ok
returns-in-Ok c = let lines = c.put_regions in
    let counts = c.put_counts-at in
    let told = c in
    let report = told in
    let start = report in
    let args = start.args in
    let m = few_told args.st (memory args.nets1.now args.nets2.now args.ranges.now args.depths.now args.raw.now)
    (output args.list.now args.marks.now) report.report.ensures told.in-Ok.is in
    told_prints args.st (memory args.nets1.now args.nets2.now args.ranges.now args.depths.now args.raw.now)
    (output args.list.now args.marks.now)
    report.report.ensures args.out.now told.in-Ok.is counts.ensures.wrote lines.ensures.wrote
    (omega (arith, m.0, counts.ensures.upper_bound, lines.ensures.upper_bound, start.requires.0, start.requires.1))

pub returns-in-Err : goal.returns-in-Err
returns-in-Err c = let report = c in
    let args = report.args in
    report_prints args.st (memory args.nets1.now args.nets2.now args.ranges.now args.depths.now args.raw.now)
    (output args.list.now args.marks.now)
    report.report.ensures args.out.now (Err c.in-Err.e) c.in-Err.is (refused args.out.now _ _ 0 c.from.ensures c.put_refusal.ensures)
