-- The poles of a turn, one pole a turn of the loop. Assumes nothing.
use mathlib.Core.Path.{◌≡◌, refl, sym, ap, ◌∙◌}
use mathlib.Core.List.{List, [], ◌++◌, append_assoc, append-nil}
use Prim.Native.Nat.{ℕ, suc, ◌+◌, ◌-◌, ◌*◌, ◌%◌, ◌≤◌, ◌<◌}
use native.Mathlib.Numerals.{add-one}
use native.Mathlib.Omega.{arith}
use lib.ListN.{length, take}
use lib.Seq.{take_all}
use lib.Ieee.{Float}
use Rattle.lists.specs.Parts.{block}
use Rattle.curves.specs.Curves.{around_of}

-- t poles of a turn, of which those before number j stand in s, and number j behind them
pub around_turn : (n m t j : ℕ) (poles s new : List Float) → j < t → new ≡ block 4 ((j + n + 1 - m) % n) poles
    → (s ++ new) ++ around_of n m (t - (j + 1)) (j + 1) poles ≡ s ++ around_of n m (t - j) j poles
unfolding around_of
around_turn n m t j poles s new h e =
    let k : t - j ≡ suc (t - (j + 1)) = omega arith in
    rw (e, k, append_assoc, add-one j) refl

pub around_done : (n m t : ℕ) (poles s r : List Float) (j : ℕ) → t ≤ j → length s ≤ 4 * j → take (4 * j) s ++ around_of n m (t - j) j poles ≡ r → s ≡ r
unfolding around_of
around_done n m t poles s r j h l e =
    let z : t - j ≡ 0 = omega arith in
    sym (append-nil s) ∙ ap (λ (a : List Float). a ++ []) (sym (take_all (4 * j) s l)) ∙ (rw z at e)
