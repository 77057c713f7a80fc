-- Floats behind each other: before each turn the first are written. Assumes nothing.
use mathlib.Core.Path.{◌≡◌}
use Prim.Native.Nat.{◌+◌, ◌*◌}
use lib.ListN.{length, take}
use Rattle.lists.specs.Parts.{patch}
use Rattle.printing.specs.Printed.{float_texts}
use Rattle.printing.proofs.put_floats.Given as goal

abbrev pub invariant-loop-x : goal.invariant-loop-x
invariant-loop-x l = (length l.out ≡ length l.initial.out) × (l.here ≡ l.at + 17 * l.x-index) × (l.out ≡ patch l.initial.out l.at (float_texts (take l.x-index l.xs)))
