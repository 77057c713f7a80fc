-- `copy_from_slice` makes the starts of both equal, number by number. Assumes nothing.
use mathlib.Core.Path.{◌≡◌}
use lib.ListN.{length, take}
use Rattle.lists.proofs.copy_from_slice.Given as goal

abbrev pub invariant-loop-x : goal.invariant-loop-x
invariant-loop-x l = (length l.to ≡ length l.initial.to) × (take l.x l.to ≡ take l.x l.from)
