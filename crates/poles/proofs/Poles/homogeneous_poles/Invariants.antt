-- The poles before pole `i` are filled, and what is to come fills the rest. Assumes nothing.
use Rattle.std.proofs.Common.{◌-◌, ◌≡◌, ◌*◌, length, take}
use mathlib.Core.List.{◌++◌}
use Rattle.poles.specs.Poles.{pole_count, homogeneous_poles}
use Rattle.poles.proofs.Poles.homogeneous_poles.Given as goal

abbrev pub invariant-loop-i : goal.invariant-loop-i
invariant-loop-i l = record {
  room : length l.out ≡ 512;
  filled : take (4 * l.i) l.out ++ homogeneous_poles l.self.coords.now l.self.weights.now (pole_count l.self.coords.now - l.i) l.i
      ≡ homogeneous_poles l.self.coords.now l.self.weights.now (pole_count l.self.coords.now) 0;
}
