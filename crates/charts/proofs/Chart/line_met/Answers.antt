-- `line_met` is opened_at. Assumes nothing.
use Rattle.charts.specs.Found.{chart_seen}
use Rattle.walks.specs.Places.{chart_line_at}
use Rattle.charts.proofs.Lines.{behind_fits, line-inside, pair_is, met_none, met_some}
use Rattle.charts.proofs.Chart.line_met.Goals as goal

pub question-q-requires : goal.question-q-requires
question-q-requires c = let self = c.args.self in
    (c.requires.0, behind_fits self.bytes.now c.args.at c.line_at-l.ensures c.requires.1)

pub opens-requires : goal.opens-requires
opens-requires c = let self = c.args.self in
    (c.requires.0.short, c.requires.0.first, line-inside self.bytes.now c.args.at c.line_at-l.ensures c.requires.1)

pub returns-in-Ok : goal.returns-in-Ok
returns-in-Ok c = let self = c.args.self in
    met_none (chart_seen self) (chart_line_at self.bytes.now c.args.at) c.args.k c.opens.ensures (pair_is self.bytes.now c.args.at c.line_at-l.ensures self.parts c.question-q.ensures) c.in-Ok.is

pub returns-in-Err : goal.returns-in-Err
returns-in-Err c = let self = c.args.self in
    met_some (chart_seen self) (chart_line_at self.bytes.now c.args.at) c.args.k c.opens.ensures (pair_is self.bytes.now c.args.at c.line_at-l.ensures self.parts c.question-q.ensures) c.in-Err.is
    c.line.ensures c.place_of.ensures
