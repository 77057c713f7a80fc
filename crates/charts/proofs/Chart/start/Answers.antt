-- `start` is first_part: the refusal of the first test met, or the first report. Assumes nothing.
use mathlib.Core.Bool.{true}
use Rattle.printing.specs.Printed.{refusal_line}
use Rattle.charts.specs.Found.{chart_error_number, chart_error_place, chart_seen}
use Rattle.charts.proofs.Parts.{ended_left, left_as, first_refused, first_report, refusal_is}
use Rattle.charts.proofs.Chart.start.Goals as goal

pub returns-in-Err : goal.returns-in-Err
returns-in-Err c = let chart = chart_seen c.args.self in
    let out = c.args.out.now in
    let e = c.in-Err.e in
    left_as out (first_refused chart e c.in-Err.ensures)
    (ended_left out (refusal_line (chart_error_number e) (chart_error_place e)) true (refusal_is out c.from.ensures c.place.ensures c.put_refusal.ensures) c.no_more.ensures)

pub returns-in-Ok : goal.returns-in-Ok
returns-in-Ok c = left_as c.args.out.now (first_report (chart_seen c.args.self) c.in-Ok.ensures) c.part.ensures
