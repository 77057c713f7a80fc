-- The tests against ±2^20, ±2^24, 2^−10 to 2^10 and 0 to 2^24 decide what the table says of a double in whole numbers. Assumes nothing.
use mathlib.Core.Path.{◌≡◌, refl}
use mathlib.Core.Bool.{true, false}
use Prim.Native.Nat.{ℕ, zero, suc, ◌*◌, ◌^◌, ◌<◌}
use native.Mathlib.Nat.{mul-pos}
use native.Mathlib.Omega.{arith}
use lib.Dec.{T}
use lib.IntN.{ℤ, pos, negsuc}
use lib.Ieee.{Float, nan, inf, fin, up, le, neg, of_bits}
use lib.Ieee.Fits.{up_pos, down_pos}
use Rattle.floats.specs.Floats.{zero64, within}
use Rattle.floats.specs.Sizes.{Within}
use Rattle.floats.proofs.Order.{of_fin, to_fin}
use Rattle.lines.specs.Admit.{two20, two24, two10, one1024th}
use Rattle.facts.specs.Faults.{Finite, WithinFactor, FromZero}
use Rattle.facts.proofs.Reflect.{Tests, of_T, of_both, same}

sized : (k : ℕ) (x : Float) → T (le (fin true 1 (pos k)) x) × T (le x (fin false 1 (pos k))) → Within (2 ^ k) x
unfolding le
sized k nan h = absurd h.1
sized k (inf true) h = absurd h.0
sized k (inf false) h = absurd h.1
sized k (fin false m e) h = let g = of_fin false m e false 1 (pos k) h.1 in omega arith
sized k (fin true m e) h = let g = of_fin true 1 (pos k) true m e h.0 in omega arith

of_size : (k : ℕ) (x : Float) → Within (2 ^ k) x → T (le (fin true 1 (pos k)) x) × T (le x (fin false 1 (pos k)))
unfolding le
of_size k nan h = absurd h
of_size k (inf s) h = absurd h
of_size k (fin false m e) h = (to_fin true 1 (pos k) false m e tt, to_fin false m e false 1 (pos k) (omega arith))
of_size k (fin true m e) h = (to_fin true 1 (pos k) true m e (omega arith), to_fin true m e false 1 (pos k) tt)

pub of_within20 : (x : Float) → Tests (Within (2 ^ 20) x) (within (neg two20) two20 x)
unfolding within of_bits neg
of_within20 x =
    same (sized 20 x) (of_size 20 x)
    (of_both (le (fin true 1 (pos 20)) x) (le x (fin false 1 (pos 20))) (of_T (le (fin true 1 (pos 20)) x)) (of_T (le x (fin false 1 (pos 20)))))

pub of_within24 : (x : Float) → Tests (Within (2 ^ 24) x) (within (neg two24) two24 x)
unfolding within of_bits neg
of_within24 x =
    same (sized 24 x) (of_size 24 x)
    (of_both (le (fin true 1 (pos 24)) x) (le x (fin false 1 (pos 24))) (of_T (le (fin true 1 (pos 24)) x)) (of_T (le x (fin false 1 (pos 24)))))

-- ---- from 2^−10 to 2^10
factored : (x : Float) → T (le (fin false 1 (negsuc 9)) x) × T (le x (fin false 1 (pos 10))) → WithinFactor (2 ^ 10) x
unfolding le
factored nan h = absurd h.1
factored (inf true) h = absurd h.0
factored (inf false) h = absurd h.1
factored (fin true m e) h = let g = of_fin false 1 (negsuc 9) true m e h.0 in let d = down_pos e in absurd (omega arith)
factored (fin false m e) h =
    let g = of_fin false 1 (negsuc 9) false m e h.0 in
    let k = of_fin false m e false 1 (pos 10) h.1 in
    (omega arith, omega arith)

of_factor : (x : Float) → WithinFactor (2 ^ 10) x → T (le (fin false 1 (negsuc 9)) x) × T (le x (fin false 1 (pos 10)))
unfolding le
of_factor nan h = absurd h
of_factor (inf s) h = absurd h
of_factor (fin true m e) h = absurd h
of_factor (fin false m e) h = (to_fin false 1 (negsuc 9) false m e (omega arith), to_fin false m e false 1 (pos 10) (omega arith))

pub of_weight : (x : Float) → Tests (WithinFactor (2 ^ 10) x) (within one1024th two10 x)
unfolding within of_bits
of_weight x =
    same (factored x) (of_factor x)
    (of_both (le (fin false 1 (negsuc 9)) x) (le x (fin false 1 (pos 10))) (of_T (le (fin false 1 (negsuc 9)) x)) (of_T (le x (fin false 1 (pos 10)))))

-- ---- from 0 to 2^24
no_digits : (m : ℕ) (e : ℤ) → m * up e ≡ 0 → m ≡ 0
no_digits zero e h = refl
no_digits (suc m) e h = let w : 0 < suc m * up e = mul-pos (let z : 0 < suc m = omega arith in z) (up_pos e) in absurd (omega arith)

from_zero : (x : Float) → T (le (fin false 0 (pos 0)) x) × T (le x (fin false 1 (pos 24))) → FromZero (2 ^ 24) x
unfolding le
from_zero nan h = absurd h.1
from_zero (inf true) h = absurd h.0
from_zero (inf false) h = absurd h.1
from_zero (fin true m e) h = let g = of_fin false 0 (pos 0) true m e h.0 in no_digits m e (omega arith)
from_zero (fin false m e) h = let k = of_fin false m e false 1 (pos 24) h.1 in omega arith

of_from_zero : (x : Float) → FromZero (2 ^ 24) x → T (le (fin false 0 (pos 0)) x) × T (le x (fin false 1 (pos 24)))
unfolding le
of_from_zero nan h = absurd h
of_from_zero (inf s) h = absurd h
of_from_zero (fin true m e) h = (rw h (to_fin false 0 (pos 0) true 0 e (omega arith, omega arith)), to_fin true m e false 1 (pos 24) tt)
of_from_zero (fin false m e) h = (to_fin false 0 (pos 0) false m e (omega arith), to_fin false m e false 1 (pos 24) (omega arith))

pub of_gap_lem : (x : Float) → Tests (FromZero (2 ^ 24) x) (within zero64 two24 x)
unfolding within of_bits
of_gap_lem x =
    same (from_zero x) (of_from_zero x)
    (of_both (le (fin false 0 (pos 0)) x) (le x (fin false 1 (pos 24))) (of_T (le (fin false 0 (pos 0)) x)) (of_T (le x (fin false 1 (pos 24)))))

pub within_finite : (C : ℕ) (x : Float) → Within C x → Finite x
within_finite C nan h = h
within_finite C (inf s) h = h
within_finite C (fin s m e) h = tt
