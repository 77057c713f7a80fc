-- `line_place` is line_place. The loop's invariant: as many lines further as are left, from here, is the place. Assumes nothing.
use borrow.Author.Rules.{rules}
use mathlib.Core.Path.{refl}
use native.Mathlib.Nat.{sub-zero}
use Rattle.charts.proofs.Lines.{inside_fewer, place_turn, place_line, place_done}
use Rattle.charts.proofs.Chart.line_place.Goals as goal

pub loop-init : goal.loop-init
loop-init c = let self = c.args.self in
    (rw sub-zero refl, rw sub-zero (inside_fewer self.bytes.now c.args.k self.parts.lines self.parts.first.next c.requires.1 c.requires.0))

pub behind-at-requires : goal.behind-at-requires
behind-at-requires c = place_line c.args.self.bytes.now c.args.k c.loop.counter c.loop.at (search rules) c.loop.invariant.1

pub loop-preserved : goal.loop-preserved
loop-preserved c = place_turn c.args.self.bytes.now c.args.k c.loop.counter c.loop.at _ c.behind-at.result (search rules) c.behind-at.ensures c.loop.invariant.0 c.loop.invariant.1

pub returns : goal.returns
returns c = place_done c.args.self.bytes.now c.args.k c.loop.counter c.loop.at _ (search rules) c.loop.invariant.0
