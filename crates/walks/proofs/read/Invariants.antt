-- `read`: the values read and those to come are the wanted ones at each turn. Assumes nothing.
use mathlib.Core.Path.{◌≡◌}
use mathlib.Core.List.{List}
use Prim.Native.Nat.{ℕ, ◌-◌, ◌+◌, ◌*◌}
use lib.ListN.{length}
use Rattle.lists.specs.Parts.{patch}
use Rattle.walks.specs.Words.{values_from}
use Rattle.walks.proofs.read.Given as goal

abbrev pub invariant-loop-i : goal.invariant-loop-i
invariant-loop-i g l = (length l.out ≡ length l.initial.out)
    × ((j : List ℕ → _) → ((bytes : _) (r : _) → g.F.Fn.post l.value (bytes, tt) r → r ≡ j bytes.now)
    → patch l.out l.i (values_from j l.w l.s (l.at + l.w * l.i) (length l.initial.out - l.i)) ≡ patch l.initial.out 0 (values_from j l.w l.s l.at (length l.initial.out)))
