-- The patterns that have no digits to take the root of, for every format: zeros, negative numbers, infinities, NaN. Assumes nothing.
use mathlib.Core.Path.{◌≡◌, refl, sym, ap, ◌∙◌}
use mathlib.Core.Bool.{Bool, true, false, cond, true≢false}
use Prim.Native.Nat.{ℕ, zero, suc, ◌+◌, ◌*◌, ◌-◌, ◌/◌, ◌%◌, ◌^◌, ◌≤◌, ◌<◌}
use native.Mathlib.Nat.{mul-pos, pos_of_ne-zero, zero-lt-suc, zero-mul, mod-mod_of_dvd, dvd-mul_right, div-add-mod', div-eq_of_lt-le, zero-div, zero-mod, lt_of_lt_of_le}
use native.Mathlib.Omega.{arith}
use lib.Dec.{T, leb, eqb}
use lib.IntN.{pos}
use lib.Pow.{pow_pos}
use lib.Ieee.{Float, nan, inf, fin, Format, prec, emax, low, hid, ones, top, up, odd, units, size, of_bits, of_fields, to_bits, fits}
use lib.Ieee.Fits.{down_pos}
use lib.Ieee.Bits.{of_bits-to_bits}
use lib.Ieee.Exact.{HasValue, odd_sign}
use borrow.Author.Tests.{le-leb, lt-ltb, eq-eqb, ne_eqb}
use Rattle.roots.specs.Root.{root_in, root_units, rounded}
use Rattle.roots.proofs.Whole.{Root}
use Rattle.roots.proofs.Patterns.{plain, hid_pos}
use Rattle.roots.proofs.Join.{whole, is_root}

-- ---- negative

neg_root : (f : Format) (x : Float) (a c : ℕ) → HasValue x true a c → 0 < a → root_in f x ≡ nan
unfolding root_in
neg_root f nan a c h p = absurd h
neg_root f (inf s) a c h p = absurd h
neg_root f (fin false m e) a c h p = absurd (true≢false (sym h.0))
neg_root f (fin true m e) a c h p =
    let g : m ≡ 0 → ⊥ = (λ z. let l : m * up e * c ≡ 0 = ap (λ (k : ℕ). k * up e * c) z ∙ ap (λ (k : ℕ). k * c) (zero-mul (up e)) ∙ zero-mul c in
    let w = mul-pos p (down_pos e) in omega (arith, h.1)) in
    rw (ne_eqb m 0 g) refl

neg_fields : (f : Format) (x t : ℕ) → 0 < x + t → root_in f (of_fields f true x t) ≡ nan
unfolding of_fields root_in
neg_fields f zero t h = neg_root f (odd (prec f) true t 0 (low f)) (t * 2 ^ 0) (2 ^ low f) (odd_sign (prec f) true t 0 (low f)) (omega arith)
neg_fields f (suc x) t h = go (eqb (suc x) (ones f)) (eqb t 0)
  where
    go : (b c : Bool) → root_in f (cond b (cond c (inf true) nan) (odd (prec f) true (hid f + t) x (low f))) ≡ nan
    go true true = refl
    go true false = refl
    go false c =
        neg_root f (odd (prec f) true (hid f + t) x (low f)) ((hid f + t) * 2 ^ x) (2 ^ low f) (odd_sign (prec f) true (hid f + t) x (low f))
        (mul-pos (let w = hid_pos f in omega arith) (pow_pos x))

-- the digits' field of a pattern is that of the pattern with no sign
field : (f : Format) (b : ℕ) → b % top f % hid f ≡ b % hid f
field f b = mod-mod_of_dvd (hid f) b (dvd-mul_right (hid f) (suc (ones f)))

negative : (f : Format) (b : ℕ) → (b % top f ≡ 0 → ⊥) → top f ≤ b → root_in f (of_bits f b) ≡ nan
unfolding of_bits
negative f b h k =
    let y = b % top f in
    let some : 0 < y / hid f + b % hid f =
    pos_of_ne-zero (λ z. h (sym (div-add-mod' y (hid f)) ∙ ap (λ (n : ℕ). n * hid f + y % hid f) (let g : y / hid f ≡ 0 = omega arith in g)
    ∙ ap (λ (n : ℕ). n + y % hid f) (zero-mul (hid f)) ∙ (let g : 0 + y % hid f ≡ 0 = (let w = field f b in omega arith) in g))) in
    rw (le-leb (top f) b k) (neg_fields f (y / hid f) (b % hid f) some)

-- ---- zeros

zero_whole : (n s : ℕ) → n ≡ 0 → Root n s → s ≡ 0
zero_whole n zero z h = refl
zero_whole n (suc s) z h = absurd (let w : 0 < suc s * suc s = mul-pos (zero-lt-suc s) (zero-lt-suc s) in omega (arith, h.low))

zero_rounded : (f : Format) → rounded f (0 * 2 ^ low f) (0 / 2 ^ (size 0 - prec f)) (size 0 - prec f) ≡ fin false 0 (pos 0)
unfolding rounded units odd size
zero_rounded f =
    let a : 0 - prec f ≡ 0 = omega arith in
    let b : 0 * 2 ^ low f ≡ 0 = zero-mul (2 ^ low f) in
    rw (a, b, lt-ltb 0 (2 ^ (low f + suc (emax f))) (pow_pos (low f + suc (emax f)))) refl

pub zero_root : (f : Format) (s : Bool) → root_in f (fin s 0 (pos 0)) ≡ fin s 0 (pos 0)
unfolding root_in root_units
zero_root f true = refl
zero_root f false =
    let z : whole f 0 (pow_pos (low f + suc (emax f))) ≡ 0 = zero_whole (0 * 2 ^ low f) _ (zero-mul (2 ^ low f)) (is_root f 0 (pow_pos (low f + suc (emax f)))) in
    ap (root_units f) (let n : 0 * 1 * 2 ^ low f / 1 ≡ 0 = omega arith in n)
    ∙ ap (λ (s : ℕ). rounded f (0 * 2 ^ low f) (s / 2 ^ (size s - prec f)) (size s - prec f)) z
    ∙ zero_rounded f

zeros : (f : Format) (b : ℕ) → b % top f ≡ 0 → root_in f (of_bits f b) ≡ of_bits f b
unfolding of_bits of_fields odd
zeros f b h =
    let d : b % hid f ≡ 0 = sym (field f b) ∙ ap (λ (n : ℕ). n % hid f) h ∙ zero-mod (hid f) in
    rw (h, d, zero-div (hid f)) (zero_root f (leb (top f) b))

-- ---- infinities

infinite : (f : Format) (b : ℕ) → ones f * hid f ≤ b → b < top f → root_in f (of_bits f b) ≡ of_bits f b
infinite f b h k =
    let d : b / hid f ≡ ones f = div-eq_of_lt-le (hid f) h (lt_of_lt_of_le k (omega arith)) in
    rw (plain f b k) (go (b / hid f) d)
  where
    go : (x : ℕ) → x ≡ ones f → root_in f (of_fields f false x (b % hid f)) ≡ of_fields f false x (b % hid f)
    go zero e = absurd (omega arith)
    go (suc x) e = unfold of_fields in (rw (eq-eqb (suc x) (ones f) e) (at (eqb (b % hid f) 0)))
      where
        at : (c : Bool) → root_in f (cond c (inf false) nan) ≡ cond c (inf false) nan
        at true = unfold root_in in refl
        at false = unfold root_in in refl

-- ---- the same of a float, by its pattern

back : (f : Format) (x : Float) → T (fits f x) → x ≡ of_bits f (to_bits f x)
back f x t = sym (of_bits-to_bits f x t)

pub zero_same : (f : Format) (x : Float) → T (fits f x) → to_bits f x % top f ≡ 0 → x ≡ root_in f x
zero_same f x t h = back f x t ∙ sym (zeros f (to_bits f x) h) ∙ ap (root_in f) (sym (back f x t))

pub below_nan : (f : Format) (x : Float) → T (fits f x) → (to_bits f x % top f ≡ 0 → ⊥) → top f ≤ to_bits f x → nan ≡ root_in f x
below_nan f x t h k = sym (negative f (to_bits f x) h k) ∙ ap (root_in f) (sym (back f x t))

pub inf_same : (f : Format) (x : Float) → T (fits f x) → ones f * hid f ≤ to_bits f x → to_bits f x < top f → x ≡ root_in f x
inf_same f x t h k = back f x t ∙ sym (infinite f (to_bits f x) h k) ∙ ap (root_in f) (sym (back f x t))

pub nan_same : (f : Format) (x : Float) → x ≡ nan → x ≡ root_in f x
unfolding root_in
nan_same f x e = rw e refl

-- the root of a pattern's value is the root of the float
pub of_pattern : (f : Format) (x : Float) → T (fits f x) → root_in f (of_bits f (to_bits f x)) ≡ root_in f x
of_pattern f x t = ap (root_in f) (sym (back f x t))
