-- What a run's answer prints, one return an answer. Assumes nothing.
use Rattle.std.specs.Prelude.{Ok, Err}
use Rattle.states.specs.States.{memory}
use Rattle.report.specs.Reports.{output}
use Rattle.sheet.proofs.Reports.{refused, search_prints}
use Rattle.sheet.proofs.answer_search.Goals as goal

pub returns-in-Ok : goal.returns-in-Ok
returns-in-Ok c = let told = c in
    let run = told in
    let args = run.args in
    search_prints args.st (memory args.nets1.now args.nets2.now args.ranges.now args.depths.now args.raw.now)
    (output args.list.now args.marks.now)
    run.run.ensures args.out.now (Ok told.in-Ok.end) told.in-Ok.is c.answer_report.ensures

pub returns-in-Err : goal.returns-in-Err
returns-in-Err c = let run = c in
    let args = run.args in
    search_prints args.st (memory args.nets1.now args.nets2.now args.ranges.now args.depths.now args.raw.now)
    (output args.list.now args.marks.now)
    run.run.ensures args.out.now (Err c.in-Err.refused) c.in-Err.is (refused args.out.now _ _ 0 c.from.ensures c.put_refusal.ensures)
