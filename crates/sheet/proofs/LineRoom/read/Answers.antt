-- A line read into arrays; their fronts are the line. Assumes nothing.
use Rattle.sheet.proofs.Sheets.{line_read}
use Rattle.sheet.proofs.LineRoom.read.Goals as goal

pub returns : goal.returns
returns c = let a = c.args in
    let e = c.read_line.ensures in
    line_read a.s.now a.l a.self.now.knots a.self.now.coords a.self.now.weights a.self.now.mults e.0 e.1 e.2 e.3
