-- `digits`: the invariant says that the root and the remainder so far make up the digits that are down, and `top` has the rest. Assumes nothing.
use mathlib.Core.Path.{◌≡◌}
use Prim.Native.Nat.{◌+◌, ◌*◌, ◌^◌, ◌≤◌, ◌<◌}
use Rattle.roots.proofs.digits.Given as goal

abbrev pub invariant-loop : goal.invariant-loop
invariant-loop l =
    ((l.r.root * l.r.root + l.r.rem) * 2 ^ 64 + l.top ≡ l.m * 1024 * 4 ^ l.counter) × (l.r.rem ≤ 2 * l.r.root) × (l.r.root < 2 ^ l.counter) × (l.top < 2 ^ 64)
