-- The definition of the root meets whole numbers: of w * 4^j units it is the whole number nearest to the root of w, times 2^j. Assumes nothing.
use mathlib.Core.Path.{◌≡◌, sym, ap, ◌∙◌, subst}
use mathlib.Core.Logic.{dite}
use mathlib.Core.Bool.{true, false, true≢false}
use Prim.Native.Nat.{ℕ, suc, ◌+◌, ◌*◌, ◌-◌, ◌/◌, ◌%◌, ◌^◌, ◌≤◌, ◌<◌, zero-le}
use native.Mathlib.Nat.{mul-le-mul, mul-le-mul_left, mul-lt-mul_of_pos_right, le_trans, le_of_eq, lt_of_lt_of_le, lt_of_le_of_lt, mul_assoc, mul_right_comm, zero-add, eq_of_mul-eq-mul_right}
use native.Mathlib.Decide.{dec_le}
use native.Mathlib.Omega.{arith}
use lib.Dec.{T}
use lib.Pow.{pow_pos, pow-add, pow_mono}
use lib.Ieee.{Float, nan, inf, fin, Format, binary64, prec, emax, low, hid, up, down, units, size, of_bits, fits}
use lib.Ieee.Fits.{down_pos}
use lib.Ieee.Exact.{HasValue}
use Rattle.roots.specs.Root.{isqrt, rounded, root_units, root_in, root_of}
use Rattle.roots.specs.Nearest.{NearestWhole}
use Rattle.roots.proofs.Whole.{Root, isqrt_is, four_pow, cut, places, sq_lt, near_unique, near_low, near_high, rounds}
use Rattle.roots.proofs.Held.{held, units_of}
use Rattle.roots.proofs.Patterns.{prec_is, units_bits}

module _ (f : Format) (n : ℕ) (small : n < 2 ^ (low f + suc (emax f))) where
  -- the whole root
  abbrev pub whole : ℕ
  whole = isqrt (low f + suc (emax f)) (n * 2 ^ low f) 0

  pub is_root : Root (n * 2 ^ low f) whole
  is_root =
      let w = low f + suc (emax f) in
      let a : n * 2 ^ low f < 2 ^ w * 2 ^ w = lt_of_lt_of_le (mul-lt-mul_of_pos_right small (pow_pos (low f)))
      (mul-le-mul_left (2 ^ w) (pow_mono (let g : low f ≤ low f + suc (emax f) = omega arith in g))) in
      isqrt_is w (n * 2 ^ low f) 0 zero-le (lt_of_lt_of_le a (le_of_eq (ap (λ (k : ℕ). k * k) (sym (zero-add (2 ^ w))))))

  module _ (w j r : ℕ) (is : n * 2 ^ low f ≡ w * 4 ^ j) (least : hid f * hid f ≤ w) (most : w < 2 ^ prec f * 2 ^ prec f) (near : NearestWhole w r) where
    cut_root : Root w (whole / 2 ^ j)
    cut_root = cut w j whole (subst (λ (k : ℕ). Root k whole) is is_root)

    cut_low : hid f ≤ whole / 2 ^ j
    cut_low =
        dite (dec_le (hid f) (whole / 2 ^ j)) (λ k. k)
        (λ k. let g : whole / 2 ^ j + 1 ≤ hid f = omega arith in let w = mul-le-mul g g in absurd (omega (arith, cut_root.high)))

    cut_high : whole / 2 ^ j < 2 ^ suc (prec f - 1)
    cut_high = subst (λ (p : ℕ). whole / 2 ^ j < 2 ^ p) (prec_is f) (sq_lt (whole / 2 ^ j) (2 ^ prec f) (lt_of_le_of_lt cut_root.low most))

    dropped : size whole - prec f ≡ j
    dropped = let z = places (prec f - 1) j whole cut_low cut_high in let e = prec_is f in omega arith

    pub root_is : root_units f n ≡ units f false r j
    unfolding root_units rounded
    root_is =
        ap (λ (k : ℕ). rounded f (n * 2 ^ low f) (whole / 2 ^ k) k) dropped
        ∙ ap (λ (m : ℕ). rounded f m (whole / 2 ^ j) j) is
        ∙ ap (λ (q : ℕ). units f false q j) (near_unique (rounds w j (whole / 2 ^ j) cut_root (lt_of_lt_of_le (pow_pos (prec f - 1)) cut_low)) near)

-- ---- a double of m * 2^up units of 2^-1126: the code's numbers

reorder : (m e h a b : ℕ) → m * (e * (h * h)) * (a * b) ≡ m * e * a * (h * h * b)
reorder m e h a b = omega arith

scaled : (n m up : ℕ) → n * 2 ^ 52 ≡ m * 2 ^ up → n * 2 ^ 1074 ≡ m * 2 ^ (up % 2) * 2 ^ 52 * 4 ^ (up / 2 + 485)
scaled n m up e =
    let u : up ≡ up % 2 + (up / 2 + up / 2) = omega arith in
    let p : 2 ^ up ≡ 2 ^ (up % 2) * (2 ^ (up / 2) * 2 ^ (up / 2)) = ap (λ (k : ℕ). 2 ^ k) u ∙ pow-add 2 (up % 2) (up / 2 + up / 2)
    ∙ ap (λ (k : ℕ). 2 ^ (up % 2) * k) (pow-add 2 (up / 2) (up / 2)) in
    let q : 4 ^ (up / 2 + 485) ≡ 2 ^ (up / 2) * 2 ^ (up / 2) * 2 ^ 970 = pow-add 4 (up / 2) 485 ∙ ap (λ (k : ℕ). k * 2 ^ 970) (four_pow (up / 2)) in
    sym (mul_assoc n (2 ^ 52) (2 ^ 1022)) ∙ ap (λ (k : ℕ). k * 2 ^ 1022) (e ∙ ap (λ (k : ℕ). m * k) p)
    ∙ reorder m (2 ^ (up % 2)) (2 ^ (up / 2)) (2 ^ 52) (2 ^ 970) ∙ ap (λ (k : ℕ). m * 2 ^ (up % 2) * 2 ^ 52 * k) (sym q)

same_units : (a d n v x y : ℕ) → 0 < d → a * x ≡ n * d → a * (x * y) ≡ v * d → n * y ≡ v
same_units a d n v x y p h k = eq_of_mul-eq-mul_right d p (n * y) v (mul_right_comm n y d ∙ ap (λ (z : ℕ). z * y) (sym h) ∙ mul_assoc a x y ∙ k)

pub range : (v r : ℕ) → 2 ^ 52 ≤ v → v < 2 ^ 54 → NearestWhole (v * 2 ^ 52) r → (2 ^ 52 ≤ r) × (r ≤ 2 ^ 53)
range v r l h near = (near_low (2 ^ 52) (omega arith) near, near_high (2 ^ 53) (omega arith) near)

pub joined : (x : Float) → T (fits binary64 x) → (m up r : ℕ) → HasValue x false (m * 2 ^ up) (2 ^ 1126) → up ≤ 2097
    → 2 ^ 52 ≤ m * 2 ^ (up % 2) → m * 2 ^ (up % 2) < 2 ^ 54 → NearestWhole (m * 2 ^ (up % 2) * 2 ^ 52) r → of_bits binary64 ((up / 2 + 485) * 2 ^ 52 + r) ≡ root_of x
unfolding root_in
joined nan t m up r v k l h near = absurd v
joined (inf s) t m up r v k l h near = absurd v
joined (fin true n e) t m up r v k l h near = absurd (true≢false v.0)
joined (fin false n e) t m up r v k l h near =
    let a = held binary64 false n e t in
    let j = up / 2 + 485 in
    let c = range (m * 2 ^ (up % 2)) r l h near in
    let is : units_of binary64 n e * 2 ^ 52 ≡ m * 2 ^ up =
    same_units (n * lib.Ieee.up e) (down e) (units_of binary64 n e) (m * 2 ^ up) (2 ^ 1074) (2 ^ 52) (down_pos e) a.value
    (subst (λ (z : ℕ). n * lib.Ieee.up e * z ≡ m * 2 ^ up * down e) (pow-add 2 1074 52) v.1) in
    let fine : r * 2 ^ j < 2 ^ 2098 =
    lt_of_lt_of_le (mul-lt-mul_of_pos_right (let w : r < 2 ^ 54 = omega (arith, c.1) in w) (pow_pos j))
    (le_trans (le_of_eq (sym (pow-add 2 54 j))) (pow_mono (let w : 54 + j ≤ 2098 = omega arith in w))) in
    units_bits binary64 r j c.0 c.1 fine
    ∙ sym (root_is binary64 (units_of binary64 n e) a.small (m * 2 ^ (up % 2) * 2 ^ 52) j r (scaled (units_of binary64 n e) m up is) (omega arith) (omega arith) near)
