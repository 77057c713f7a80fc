-- `part` is chart_part: a report, the last line, or nothing. Assumes nothing.
use Rattle.charts.specs.Charts.{last_line}
use Rattle.charts.proofs.Parts.{ended_left, none_left, left_as, part_line, part_last, part_behind}
use Rattle.charts.proofs.Chart.part.Goals as goal

pub returns-then-k-self : goal.returns-then-k-self
returns-then-k-self c = let self = c.args.self in
    left_as c.args.out.now (part_line self.bytes.now self.parts c.args.k c.args.good c.if-k-self.true) c.report.ensures

pub returns-then-k-self-2 : goal.returns-then-k-self-2
returns-then-k-self-2 c = let self = c.args.self in
    left_as c.args.out.now (part_last self.bytes.now self.parts c.args.k c.args.good c.if-k-self-2.true)
    (ended_left c.args.out.now (last_line c.args.good) c.args.good c.put_last.ensures c.no_more.ensures)

pub returns : goal.returns
returns c = let self = c.args.self in
    left_as c.args.out.now (part_behind self.bytes.now self.parts c.args.k c.args.good c.if-k-self.false c.if-k-self-2.false) (none_left c.args.out.now c.args.good c.no_more-2.ensures)
