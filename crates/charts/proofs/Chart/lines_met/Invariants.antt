-- `lines_met` is lines_met. The loop's invariant: what was met so far, or what the lines behind meet, is what is met first of all. Assumes nothing.
use mathlib.Core.Path.{◌≡◌}
use Prim.Native.Nat.{suc, ◌-◌}
use Rattle.walks.specs.Places.{LinesInside, lines_at}
use Rattle.charts.specs.Found.{tested_of, chart_seen, earlier_of, lines_met}
use Rattle.charts.proofs.Lines.{behind_met}
use Rattle.charts.proofs.Chart.lines_met.Given as goal

abbrev pub invariant-loop-k : goal.invariant-loop-k
invariant-loop-k l =
    let s = l.self.bytes.now in
    let w = l.self.parts in
    (earlier_of (tested_of l.met) (behind_met s w l.k l.at) ≡ lines_met (chart_seen l.self) (lines_at s w.lines w.first.next) 2) × LinesInside s (suc (w.lines - l.k)) l.at
