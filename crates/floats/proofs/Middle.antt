-- The middle of a range, 0.5 × (lo + hi) rounded at each operation: of two bounded ends it is bounded by the same power of two, so it is no NaN. Assumes nothing.
use mathlib.Core.Path.{◌≡◌, refl, ap, sym, ◌∙◌, subst}
use mathlib.Core.Bool.{Bool, true, false, ◌&&◌, cond, beq}
use Prim.Native.Nat.{ℕ, zero, suc, ◌+◌, ◌-◌, ◌*◌, ◌^◌, ◌≤◌, ◌<◌}
use native.Mathlib.Nat.{le_trans, le_of_eq, mul_comm, mul_assoc, mul_right_comm, mul-pos, mul-le-mul_right, le_of_mul-le-mul_right, mul-one, one-mul, add-mul}
use native.Mathlib.Omega.{arith}
use lib.IntN.{negsuc}
use lib.Pow.{pow-add, pow-lt}
use lib.Dec.{T, ltb, lit<}
use lib.Ieee.{Float, nan, inf, fin, Format, binary64, prec, emax, low, up, down, unlike, odd, units, round, sum, add, mul, le, of_bits}
use lib.Ieee.Fits.{down_pos}
use lib.Ieee.Exact.{HasValue, round_exact}
use lib.Ieee.Order.{round_mono}
use Rattle.floats.specs.Floats.{half64, middle}
use Rattle.floats.specs.Sizes.{Number, Within}
use Rattle.floats.proofs.Order.{of_fin}

pub within_number : (C : ℕ) (x : Float) → Within C x → Number x
within_number C nan h = absurd h
within_number C (inf s) h = tt
within_number C (fin s m e) h = tt

-- ---- the size of a rounded fraction does not turn on the sign
odd_size : (C d : ℕ) (s : Bool) (q k l : ℕ) → Within C (odd d false q k l) → Within C (odd d s q k l)
unfolding odd
odd_size C d s zero k l h = h
odd_size C d s (suc q) k l h = h

units_size : (C : ℕ) (f : Format) (s : Bool) (q k : ℕ) → Within C (units f false q k) → Within C (units f s q k)
unfolding units
units_size C f s q k = go (ltb (q * 2 ^ k) (2 ^ (low f + suc (emax f))))
  where
    go : (b : Bool) → Within C (cond b (odd (suc (prec f)) false q k (low f)) (inf false)) → Within C (cond b (odd (suc (prec f)) s q k (low f)) (inf s))
    go true h = odd_size C (suc (prec f)) s q k (low f) h
    go false h = absurd h

round_size : (C : ℕ) (f : Format) (s : Bool) (num den : ℕ) → Within C (round f false num den) → Within C (round f s num den)
unfolding round
round_size C f s num den h = units_size C f s _ _ h

-- ---- a rounded fraction of at most 2 ^ k is at most 2 ^ k
abbrev pub NotBelow : Float → Type 0
NotBelow nan = ⊥
NotBelow (inf s) = s ≡ false
NotBelow (fin s m e) = s ≡ false

odd_sign_false : (d q k l : ℕ) → NotBelow (odd d false q k l)
unfolding odd
odd_sign_false d zero k l = refl
odd_sign_false d (suc q) k l = refl

units_sign_false : (f : Format) (q k : ℕ) → NotBelow (units f false q k)
unfolding units
units_sign_false f q k = go (ltb (q * 2 ^ k) (2 ^ (low f + suc (emax f))))
  where
    go : (b : Bool) → NotBelow (cond b (odd (suc (prec f)) false q k (low f)) (inf false))
    go true = odd_sign_false (suc (prec f)) q k (low f)
    go false = refl

pub round_sign_false : (f : Format) (num den : ℕ) → NotBelow (round f false num den)
unfolding round
round_sign_false f num den = units_sign_false f _ _

cancel : (x y c d e : ℕ) → 0 < d → x * d ≤ y * e → y * 1 ≡ c * d → x ≤ c * e
cancel x y c d e D h q =
    let y1 : y ≡ c * d = sym (mul-one y) ∙ q in
    le_of_mul-le-mul_right (le_trans h (le_of_eq (ap (λ (z : ℕ). z * e) y1 ∙ mul_right_comm c d e))) D

below_of_le : (C : ℕ) (x r : Float) → NotBelow x → HasValue r false C 1 → T (le x r) → Within C x
unfolding le
below_of_le C nan r p q h = absurd p
below_of_le C (inf true) r p q h = absurd (mathlib.Core.Bool.true≢false p)
below_of_le C (inf false) nan p q h = absurd q
below_of_le C (inf false) (inf t) p q h = absurd q
below_of_le C (inf false) (fin t n d) p q h = absurd h
below_of_le C (fin true m e) r p q h = absurd (mathlib.Core.Bool.true≢false p)
below_of_le C (fin false m e) nan p q h = absurd q
below_of_le C (fin false m e) (inf t) p q h = absurd q
below_of_le C (fin false m e) (fin true n d) p q h = absurd (mathlib.Core.Bool.true≢false q.0)
below_of_le C (fin false m e) (fin false n d) p q h = cancel (m * up e) (n * up d) C (down d) (down e) (down_pos d) (of_fin false m e false n d h) q.1

power_exact : (k : ℕ) → k ≤ 1023 → HasValue (round binary64 false (2 ^ k) 1) false (2 ^ k) 1
power_exact k h =
    round_exact binary64 false (2 ^ k) 1 1 (low binary64 + k) (lit< tt) (lit< tt)
    (subst (λ (z : ℕ). z < 2 ^ (low binary64 + suc (emax binary64))) (sym (one-mul (2 ^ (low binary64 + k))))
    (pow-lt {i = low binary64 + k} {j = low binary64 + suc (emax binary64)} (omega arith)))
    (mul_comm (2 ^ k) (2 ^ low binary64) ∙ sym (pow-add 2 (low binary64) k) ∙ sym (one-mul (2 ^ (low binary64 + k))) ∙ sym (mul-one (1 * 2 ^ (low binary64 + k))))

pub round_within : (k : ℕ) (s : Bool) (num den : ℕ) → k ≤ 1023 → 0 < den → num ≤ 2 ^ k * den → Within (2 ^ k) (round binary64 s num den)
round_within k s num den K D h =
    round_size (2 ^ k) binary64 s num den
    (below_of_le (2 ^ k) (round binary64 false num den) (round binary64 false (2 ^ k) 1) (round_sign_false binary64 num den) (power_exact k K)
    (round_mono binary64 num den (2 ^ k) 1 D (lit< tt) (subst (λ (z : ℕ). z ≤ 2 ^ k * den) (sym (mul-one num)) h)))

-- ---- a sum, and its half
double : (k : ℕ) → 2 ^ suc k ≡ 2 ^ k + 2 ^ k
double k = omega arith

sum-within : (k : ℕ) (s : Bool) (a : ℕ) (t : Bool) (b c : ℕ) → k < 1023 → 0 < c → a ≤ 2 ^ k * c → b ≤ 2 ^ k * c → Within (2 ^ suc k) (sum binary64 s a t b c)
unfolding sum
sum-within k s a t b c K C h g = go (beq s t) (ltb a b)
  where
    twice : 2 ^ suc k * c ≡ 2 ^ k * c + 2 ^ k * c
    twice = ap (λ (z : ℕ). z * c) (double k) ∙ add-mul (2 ^ k) (2 ^ k) c

    go : (x y : Bool) → Within (2 ^ suc k) (cond x (round binary64 s (a + b) c) (cond y (round binary64 t (b - a) c) (round binary64 (s && ltb b a) (a - b) c)))
    go true y = round_within (suc k) s (a + b) c (omega arith) C (omega (arith, twice))
    go false true = round_within (suc k) t (b - a) c (omega arith) C (omega (arith, twice))
    go false false = round_within (suc k) (s && ltb b a) (a - b) c (omega arith) C (omega (arith, twice))

pub add_within : (k : ℕ) (x y : Float) → k < 1023 → Within (2 ^ k) x → Within (2 ^ k) y → Within (2 ^ suc k) (add binary64 x y)
unfolding add
add_within k nan y K h g = absurd h
add_within k (inf s) y K h g = absurd h
add_within k (fin s m e) nan K h g = absurd g
add_within k (fin s m e) (inf t) K h g = absurd g
add_within k (fin s m e) (fin t n d) K h g =
    sum-within k s (m * up e * down d) t (n * up d * down e) (down e * down d) K (mul-pos (down_pos e) (down_pos d))
    (le_trans (mul-le-mul_right (down d) h) (le_of_eq (mul_assoc (2 ^ k) (down e) (down d))))
    (le_trans (mul-le-mul_right (down e) g) (le_of_eq (mul_assoc (2 ^ k) (down d) (down e) ∙ ap (λ (z : ℕ). 2 ^ k * z) (mul_comm (down d) (down e)))))

pub half_within : (k : ℕ) (z : Float) → k < 1023 → Within (2 ^ suc k) z → Within (2 ^ k) (mul binary64 half64 z)
unfolding mul of_bits
half_within k nan K h = absurd h
half_within k (inf s) K h = absurd h
half_within k (fin t n d) K h =
    round_within k (unlike false t) (1 * up (negsuc 0) * (n * up d)) (down (negsuc 0) * down d) (omega arith) (mul-pos (lit< tt) (down_pos d))
    (go (n * up d) (down d) h)
  where
    finish : (x p q r : ℕ) → x ≤ p → p ≡ q + q → r ≡ q * 2 → 1 * 1 * x ≤ r
    finish x p q r h e g = omega arith

    go : (x y : ℕ) → x ≤ 2 ^ suc k * y → 1 * up (negsuc 0) * x ≤ 2 ^ k * (down (negsuc 0) * y)
    go x y h =
        let e : 2 ^ suc k * y ≡ 2 ^ k * y + 2 ^ k * y = ap (λ (z : ℕ). z * y) (double k) ∙ add-mul (2 ^ k) (2 ^ k) y in
        let g : 2 ^ k * (2 * y) ≡ 2 ^ k * y * 2 = ap (λ (z : ℕ). 2 ^ k * z) (mul_comm 2 y) ∙ sym (mul_assoc (2 ^ k) y 2) in
        finish x (2 ^ suc k * y) (2 ^ k * y) (2 ^ k * (2 * y)) h e g

pub middle-within : (k : ℕ) (x y : Float) → k < 1023 → Within (2 ^ k) x → Within (2 ^ k) y → Within (2 ^ k) (middle x y)
unfolding middle
middle-within k x y K h g = half_within k (add binary64 x y) K (add_within k x y K h g)
