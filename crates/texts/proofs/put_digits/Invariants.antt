-- Digits from the last one on: those written and those to come are the wanted ones at each turn. Assumes nothing.
use mathlib.Core.Path.{◌≡◌}
use Prim.Native.Nat.{◌≤◌, ◌-◌, ◌+◌}
use lib.ListN.{length}
use Rattle.lists.specs.Parts.{patch}
use Rattle.texts.specs.Texts.{digits_of}
use Rattle.texts.proofs.put_digits.Given as goal

abbrev pub invariant-loop-i : goal.invariant-loop-i
invariant-loop-i l =
    (length l.out ≡ length l.initial.out) × (l.at ≤ l.i) × (l.i ≤ l.at + l.k) × (patch l.out l.at (digits_of l.base (l.i - l.at) l.left) ≡ patch l.initial.out l.at (digits_of l.base l.k l.n))

abbrev pub decreases-loop-i : goal.decreases-loop-i
decreases-loop-i l = l.i
