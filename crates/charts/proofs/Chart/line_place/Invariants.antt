-- `line_place` is line_place. The loop's invariant: as many lines further as are left, from here, is the place. Assumes nothing.
use mathlib.Core.Path.{◌≡◌}
use Prim.Native.Nat.{◌-◌}
use Rattle.walks.specs.Places.{LinesInside}
use Rattle.charts.specs.Found.{line_place}
use Rattle.charts.proofs.Chart.line_place.Given as goal

abbrev pub invariant-loop : goal.invariant-loop
invariant-loop l =
    let s = l.self.bytes.now in
    (line_place s (l.k - l.counter) l.at ≡ line_place s l.k l.self.parts.first.next) × LinesInside s (l.k - l.counter) l.at
