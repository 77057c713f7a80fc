-- Level 0 of the table, row by row. Assumes nothing.
use mathlib.Core.Path.{◌≡◌, refl, sym, ap, ◌∙◌}
use mathlib.Core.Bool.{cond}
use mathlib.Core.List.{List, ◌∷◌, ◌++◌, append_assoc, append-nil}
use Prim.Native.Nat.{ℕ, zero, suc, ◌+◌, ◌-◌, ◌*◌, ◌%◌, ◌≤◌, ◌<◌}
use native.Mathlib.Omega.{arith}
use borrow.Author.Tests.{ne_eqb}
use lib.Dec.{eqb}
use lib.ListN.{length, set, replicate, replicate-append-replicate}
use lib.Seq.{set_at}
use lib.Ieee.{Float}
use Rattle.floats.specs.Floats.{zero64, one64}
use Rattle.blends.specs.Table.{units, unit_at}

-- ---- how many, and a cut in two
pub length-units : (n i : ℕ) → length (units n i) ≡ n
unfolding units
length-units zero i = refl
length-units (suc n) i = ap suc (length-units n (suc i))

units_append : (n m i : ℕ) → units (n + m) i ≡ units n i ++ units m (i + n)
unfolding units
units_append zero m i =
    let a : 0 + m ≡ m = omega arith in
    let b : i + 0 ≡ i = omega arith in
    rw (a, b) refl
units_append (suc n) m i =
    let a : suc n + m ≡ suc (n + m) = omega arith in
    let b : i + suc n ≡ suc i + n = omega arith in
    rw (a, b) (ap (λ l. unit_at i ∷ l) (units_append n m (suc i)))

-- ---- one row: 1, then +0 to its end
pub unit_in_row : (i x : ℕ) → x < 27 → unit_at (27 * i + x) ≡ cond (eqb x 0) one64 zero64
unfolding unit_at
unit_in_row i x h = let z : (27 * i + x) % 27 ≡ x = omega arith in rw z refl

past_one : (i n j : ℕ) → 1 ≤ j → j + n ≤ 27 → units n (27 * i + j) ≡ replicate n zero64
unfolding units
past_one i zero j h k = refl
past_one i (suc n) j h k =
    let z : suc (27 * i + j) ≡ 27 * i + suc j = omega arith in
    rw (unit_in_row i j (omega arith), ne_eqb j 0 (λ e. absurd (omega arith)), z) (ap (λ l. zero64 ∷ l) (past_one i n (suc j) (omega arith) (omega arith)))

units_row : (i n : ℕ) → n ≤ 26 → units (suc n) (27 * i) ≡ one64 ∷ replicate n zero64
unfolding units
units_row i n h =
    let a : 27 * i ≡ 27 * i + 0 = omega arith in
    let b : suc (27 * i) ≡ 27 * i + 1 = omega arith in
    rw (ap unit_at a ∙ unit_in_row i 0 (omega arith), ap (units n) b ∙ past_one i n 1 (omega arith) (omega arith)) refl

-- ---- start: so many rows done, the rest +0
row_on : (i m : ℕ) → set (units (27 * i) 0 ++ replicate (27 + m) zero64) (27 * i) one64 ≡ units (27 * i + 27) 0 ++ replicate m zero64
row_on i m =
    let a : 27 + m ≡ suc (26 + m) = omega arith in
    let b : 0 + 27 * i ≡ 27 * i = omega arith in
    rw a (set_at (units (27 * i) 0) zero64 (replicate (26 + m) zero64) one64 (27 * i) (length-units (27 * i) 0)
    ∙ sym (rw (units_append (27 * i) 27 0, b, units_row i 26 (omega arith), append_assoc, replicate-append-replicate 26 m zero64) refl))

pub start-turn : (s : List Float) (i : ℕ) → i < 26 → s ≡ units (27 * i) 0 ++ replicate (702 - 27 * i) zero64
    → set s (27 * i) one64 ≡ units (27 * (i + 1)) 0 ++ replicate (702 - 27 * (i + 1)) zero64
start-turn s i h e =
    let a : 702 - 27 * i ≡ 27 + (702 - 27 * (i + 1)) = omega arith in
    let b : 27 * (i + 1) ≡ 27 * i + 27 = omega arith in
    ap (λ l. set l (27 * i) one64) (e ∙ ap (λ n. units (27 * i) 0 ++ replicate n zero64) a) ∙ row_on i (702 - 27 * (i + 1)) ∙ rw b refl

pub start_done : (s : List Float) (i : ℕ) → i ≤ 26 → 26 ≤ i → s ≡ units (27 * i) 0 ++ replicate (702 - 27 * i) zero64 → s ≡ units 702 0
start_done s i h k e =
    let a : 27 * i ≡ 702 = omega arith in
    let b : 702 - 27 * i ≡ 0 = omega arith in
    e ∙ rw (b, a) (append-nil (units 702 0))
