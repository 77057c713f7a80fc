-- `back` goes on or stops as its definition does. Assumes nothing.
use mathlib.Core.Path.{◌≡◌}
use Prim.Native.Nat.{◌-◌}
use Rattle.spans.specs.Spans.{back_of}
use Rattle.spans.proofs.back.Given as goal

abbrev pub invariant-loop-s : goal.invariant-loop-s
invariant-loop-s l = back_of (l.s - l.lo) l.lo l.flat ≡ back_of (l.from - l.lo) l.lo l.flat
