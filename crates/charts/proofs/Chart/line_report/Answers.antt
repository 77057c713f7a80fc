-- `line_report` prints the answer to the track and the line at a place. Assumes nothing.
use Rattle.charts.proofs.Lines.{behind_fits, line-inside, pair_is, printed_as}
use Rattle.charts.proofs.Chart.line_report.Goals as goal

pub question-q-requires : goal.question-q-requires
question-q-requires c = let self = c.args.self in
    (c.requires.1, behind_fits self.bytes.now c.args.at c.line_at-l.ensures c.requires.2)

pub answer_pair-requires : goal.answer_pair-requires
answer_pair-requires c = let self = c.args.self in
    (c.requires.0, c.requires.1.short, c.requires.1.first, line-inside self.bytes.now c.args.at c.line_at-l.ensures c.requires.2)

pub returns : goal.returns
returns c = let self = c.args.self in
    printed_as c.args.out.now (pair_is self.bytes.now c.args.at c.line_at-l.ensures self.parts c.question-q.ensures) c.answer_pair.ensures.1
