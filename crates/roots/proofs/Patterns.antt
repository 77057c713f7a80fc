-- Bit patterns and the values that they stand for, for every format. Assumes nothing.
use mathlib.Core.Path.{◌≡◌, refl, sym, ap, ◌∙◌, subst}
use mathlib.Core.Logic.{dite}
use mathlib.Core.Bool.{Bool, true, false, cond, true≢false}
use Prim.Native.Nat.{ℕ, zero, suc, ◌+◌, ◌*◌, ◌-◌, ◌/◌, ◌%◌, ◌^◌, ◌≤◌, ◌<◌}
use native.Mathlib.Nat.{pow-succ', mul-div_cancel, mul-one, mul_assoc, mul_right_comm, zero-add, lt_of_lt_of_le, mod-eq_of_lt, div-lt_iff_lt-mul}
use native.Mathlib.Decide.{dec_le}
use native.Mathlib.Omega.{arith}
use lib.Dec.{T, eqb}
use lib.Pow.{pow_pos, pow-add}
use lib.Ieee.{Float, nan, inf, fin, Format, binary64, prec, emax, low, hid, ones, top, up, down, units, odd, size, to_bits, of_bits, of_fields, fits}
use lib.Ieee.Fits.{down_pos, odd-fits, two}
use lib.Ieee.Exact.{HasValue, units_val, odd_sign}
use lib.Ieee.Bits.{of_bits-to_bits}
use borrow.Author.Tests.{lt-ltb, lt-leb, eq-eqb, ne_eqb}
use Rattle.roots.proofs.Whole.{places}

-- a value of a units has the pattern that says a
bits_of : (f : Format) (x : Float) (a : ℕ) → HasValue x false a (2 ^ low f) → to_bits f x ≡ (size a - prec f) * hid f + a / 2 ^ (size a - prec f)
unfolding to_bits
bits_of f nan a h = absurd h
bits_of f (inf s) a h = absurd h
bits_of f (fin true m e) a h = absurd (true≢false h.0)
bits_of f (fin false m e) a h =
    let n : m * up e * 2 ^ low f / down e ≡ a = ap (λ (x : ℕ). x / down e) h.1 ∙ mul-div_cancel a (down_pos e) in
    rw (n, zero-add) refl

-- ---- q * 2^k units, q of p + 1 digits or the next power of two

size_of : (p q k : ℕ) → 2 ^ p ≤ q → q < 2 ^ suc p → size (q * 2 ^ k) ≡ suc p + k
size_of p q k l h =
    let d : q * 2 ^ k / 2 ^ k ≡ q = mul-div_cancel q (pow_pos k) in
    places p k (q * 2 ^ k) (rw d l) (rw d h)

pattern : (P p q k : ℕ) → P ≡ suc p → 2 ^ p ≤ q → q ≤ 2 ^ P → (size (q * 2 ^ k) - P) * 2 ^ p + q * 2 ^ k / 2 ^ (size (q * 2 ^ k) - P) ≡ k * 2 ^ p + q
pattern P p q k e l h =
    dite (dec_le (2 ^ suc p) q)
    (λ b. let i : q ≡ 2 ^ p * 2 = (let w = pow-succ' 2 p in let g : q ≤ 2 ^ suc p = rw e at h in omega arith) in
    let j : 2 ^ suc p ≤ q = b in
    let y : q < 2 ^ suc (suc p) = (let w = pow-succ' 2 p in let v = pow-succ' 2 (suc p) in let u = pow_pos p in omega arith) in
    let z : size (q * 2 ^ k) - P ≡ suc k = (let w = size_of (suc p) q k j y in omega arith) in
    let v : q * 2 ^ k ≡ 2 ^ p * 2 ^ suc k = rw (pow-succ' 2 k, i) (omega arith) in
    let d : q * 2 ^ k / 2 ^ suc k ≡ 2 ^ p = ap (λ (n : ℕ). n / 2 ^ suc k) v ∙ mul-div_cancel (2 ^ p) (pow_pos (suc k)) in
    rw (z, d) (omega arith))
    (λ b. let z : size (q * 2 ^ k) - P ≡ k = (let w = size_of p q k l (omega arith) in omega arith) in
    rw (z, mul-div_cancel q (pow_pos k)) refl)

pub prec_is : (f : Format) → prec f ≡ suc (prec f - 1)
prec_is f = let h = two f in omega arith

pub units-held : (f : Format) (q k : ℕ) → q ≤ 2 ^ prec f → q * 2 ^ k < 2 ^ (low f + suc (emax f)) → T (fits f (units f false q k))
unfolding units
units-held f q k h b =
    let is : units f false q k ≡ odd (suc (prec f)) false q k (low f) = rw (lt-ltb (q * 2 ^ k) (2 ^ (low f + suc (emax f))) b) refl in
    let few : q < 2 ^ suc (prec f) = (let w = pow-succ' 2 (prec f) in let u = pow_pos (prec f) in omega arith) in
    subst (λ (x : Float). T (fits f x)) (sym is) (odd-fits f (suc (prec f)) false q k few h b)

pub units_bits : (f : Format) (q k : ℕ) → hid f ≤ q → q ≤ 2 ^ prec f → q * 2 ^ k < 2 ^ (low f + suc (emax f)) → of_bits f (k * hid f + q) ≡ units f false q k
units_bits f q k l h b =
    ap (of_bits f) (sym (bits_of f (units f false q k) (q * 2 ^ k) (units_val f false q k b) ∙ pattern (prec f) (prec f - 1) q k (prec_is f) l h))
    ∙ of_bits-to_bits f (units f false q k) (units-held f q k h b)

-- ---- a pattern with no sign, below infinity's

pub hid_pos : (f : Format) → 0 < hid f
hid_pos f = pow_pos (prec f - 1)

pub plain : (f : Format) (b : ℕ) → b < top f → of_bits f b ≡ of_fields f false (b / hid f) (b % hid f)
unfolding of_bits
plain f b h = rw (lt-leb (top f) b h, mod-eq_of_lt h) refl

field_value : (f : Format) (x t : ℕ) → x < ones f → HasValue (of_fields f false x t) false (cond (eqb x 0) t ((hid f + t) * 2 ^ (x - 1))) (2 ^ low f)
unfolding of_fields
field_value f zero t h = subst (λ (n : ℕ). HasValue (odd (prec f) false t 0 (low f)) false n (2 ^ low f)) (mul-one t) (odd_sign (prec f) false t 0 (low f))
field_value f (suc x) t h =
    let n : suc x ≡ ones f → ⊥ = (λ g. omega arith) in
    let z : suc x ≡ 0 → ⊥ = (λ g. omega arith) in
    let m : suc x - 1 ≡ x = omega arith in
    rw (ne_eqb (suc x) (ones f) n, ne_eqb (suc x) 0 z, m) (odd_sign (prec f) false (hid f + t) x (low f))

-- its units: the exponent's field says by how much the digits are scaled
unfoldable pub pattern_units : Format → ℕ → ℕ
pattern_units f b = cond (eqb (b / hid f) 0) (b % hid f) ((hid f + b % hid f) * 2 ^ (b / hid f - 1))

pub pattern_value : (f : Format) (b : ℕ) → b < ones f * hid f → HasValue (of_bits f b) false (pattern_units f b) (2 ^ low f)
unfolding pattern_units
pattern_value f b h =
    let t : b < top f = lt_of_lt_of_le h (let u = hid_pos f in omega arith) in
    rw (plain f b t) (field_value f (b / hid f) (b % hid f) ((div-lt_iff_lt-mul (hid_pos f)).1 h))

pub times : (t : ℕ) (x : Float) (s : Bool) (a c : ℕ) → HasValue x s a c → HasValue x s (a * t) (c * t)
times t nan s a c h = h
times t (inf i) s a c h = h
times t (fin i m e) s a c h = (h.0, sym (mul_assoc (m * up e) c t) ∙ ap (λ (x : ℕ). x * t) h.1 ∙ mul_right_comm a (down e) t)

-- ---- the same, of a double, in units of 2^-1126: `apart` makes these numbers

in_small_units : (b a : ℕ) → b < 0x7ff0_0000_0000_0000 → pattern_units binary64 b * 2 ^ 52 ≡ a → HasValue (of_bits binary64 b) false a (2 ^ 1126)
in_small_units b a h e =
    subst (λ (n : ℕ). HasValue (of_bits binary64 b) false n (2 ^ 1126)) e
    (subst (λ (n : ℕ). HasValue (of_bits binary64 b) false (pattern_units binary64 b * 2 ^ 52) n) (sym (pow-add 2 1074 52))
    (times (2 ^ 52) (of_bits binary64 b) false (pattern_units binary64 b) (2 ^ 1074) (pattern_value binary64 b h)))

pub normal_value : (b : ℕ) → b < 0x7ff0_0000_0000_0000 → (b / 2 ^ 52 ≡ 0 → ⊥)
    → HasValue (of_bits binary64 b) false ((b % 2 ^ 52 + 2 ^ 52) * 2 ^ (b / 2 ^ 52 + 51)) (2 ^ 1126)
normal_value b k h = in_small_units b ((b % 2 ^ 52 + 2 ^ 52) * 2 ^ (b / 2 ^ 52 + 51)) k is
  where
    is : pattern_units binary64 b * 2 ^ 52 ≡ (b % 2 ^ 52 + 2 ^ 52) * 2 ^ (b / 2 ^ 52 + 51)
    is = unfold pattern_units in
        (let f = b / 2 ^ 52 in
        let w : f + 51 ≡ (f - 1) + 52 = omega arith in
        let p : 2 ^ (f + 51) ≡ 2 ^ (f - 1) * 2 ^ 52 = ap (λ (n : ℕ). 2 ^ n) w ∙ pow-add 2 (f - 1) 52 in
        rw (ne_eqb (b / 2 ^ 52) 0 h, p) (omega arith))

pub subnormal_value : (b m by : ℕ) → b / 2 ^ 52 ≡ 0 → m ≡ b % 2 ^ 52 * 2 ^ by → by ≤ 52 → HasValue (of_bits binary64 b) false (m * 2 ^ (52 - by)) (2 ^ 1126)
subnormal_value b m by h e k = in_small_units b (m * 2 ^ (52 - by)) (omega arith) is
  where
    is : pattern_units binary64 b * 2 ^ 52 ≡ m * 2 ^ (52 - by)
    is = unfold pattern_units in
        (let w : by + (52 - by) ≡ 52 = omega arith in
        let p : 2 ^ by * 2 ^ (52 - by) ≡ 2 ^ 52 = sym (pow-add 2 by (52 - by)) ∙ ap (λ (n : ℕ). 2 ^ n) w in
        rw (eq-eqb (b / 2 ^ 52) 0 h, e) (ap (λ (n : ℕ). b % 2 ^ 52 * n) (sym p) ∙ sym (mul_assoc (b % 2 ^ 52) (2 ^ by) (2 ^ (52 - by)))))
