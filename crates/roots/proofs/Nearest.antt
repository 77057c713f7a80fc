-- The root is correctly rounded, for every format: no other value that the format holds is as near to the true root. Assumes nothing.
use mathlib.Core.Path.{◌≡◌, refl, sym, ap, ◌∙◌, subst}
use mathlib.Core.Logic.{dite}
use mathlib.Core.Bool.{true, false, true≢false}
use Prim.Native.Nat.{ℕ, zero, suc, ◌+◌, ◌*◌, ◌-◌, ◌/◌, ◌%◌, ◌^◌, ◌≤◌, ◌<◌, compare, Ordering}
use native.Mathlib.Nat.{pow-succ', mul-le-mul, mul-le-mul_right, mul-le-mul_left, mul-lt-mul_of_pos_right, lt_of_mul-lt-mul_right, eq_of_mul-eq-mul_right, le_trans, le_of_eq, lt_of_lt_of_le, lt_of_le_of_lt, mul_assoc, mul-pos, mul-one, le-div_iff_mul-le, div-mul-le_self, lt-div-mul-add}
use native.Mathlib.Numerals.{add-one}
use native.Mathlib.Decide.{dec_le}
use native.Mathlib.Omega.{arith}
use lib.IntN.{ℤ}
use lib.Dec.{T}
use lib.Pow.{pow_pos, pow-add, pow_mono, pow-lt}
use lib.Ieee.{Float, nan, inf, fin, Format, prec, emax, low, up, down, nearest, units, size, fits}
use lib.Ieee.Digits.{size-le, size_reaches}
use lib.Ieee.Fits.{two, reach, down_pos, kept-lt, nearest-le}
use lib.Ieee.Exact.{HasValue, units_val}
use Rattle.roots.specs.Root.{rounded, root_units, root_in}
use Rattle.roots.specs.Nearest.{Rooted, RootNearest}
use Rattle.roots.proofs.Whole.{Root, Cmp, cmp, four_pow, sq_lt}
use Rattle.roots.proofs.Held.{Held, held, units_of}
use Rattle.roots.proofs.Patterns.{units-held}
use Rattle.roots.proofs.Join.{whole, is_root}

-- ---- whole numbers: q * 2^k is the root of N without its last k digits, all of q's p digits kept where any is dropped

-- a number of at most p digits and some zeros that is above q * 2^k is at least the next multiple of 2^k
next : (p q k o j : ℕ) → (0 < k → 2 ^ p ≤ q * 2) → o < 2 ^ p → q * 2 ^ k < o * 2 ^ j → (q + 1) * 2 ^ k ≤ o * 2 ^ j
next p q k o j full few h =
    dite (dec_le k j)
    (λ g. let e : o * 2 ^ j ≡ o * 2 ^ (j - k) * 2 ^ k =
    ap (λ (x : ℕ). o * 2 ^ x) (let w : j ≡ j - k + k = omega arith in w) ∙ ap (λ (x : ℕ). o * x) (pow-add 2 (j - k) k) ∙ sym (mul_assoc o (2 ^ (j - k)) (2 ^ k)) in
    let l : q < o * 2 ^ (j - k) = lt_of_mul-lt-mul_right (2 ^ k) (subst (λ (x : ℕ). q * 2 ^ k < x) e h) in
    let l' : q + 1 ≤ o * 2 ^ (j - k) = omega arith in
    le_trans (mul-le-mul_right (2 ^ k) l') (le_of_eq (sym e)))
    (λ g. let a : 2 ^ (j + 1) ≤ 2 ^ k = pow_mono (let w : j + 1 ≤ k = omega arith in w) in
    let b : 2 ^ (j + 1) ≡ 2 ^ j * 2 = pow-add 2 j 1 in
    let c : o * 2 ^ j ≤ 2 ^ p * 2 ^ j = mul-le-mul_right (2 ^ j) (let w : o ≤ 2 ^ p = omega arith in w) in
    let d : 2 ^ p * 2 ^ j ≤ q * 2 * 2 ^ j = mul-le-mul_right (2 ^ j) (full (omega arith)) in
    let s : q * (2 ^ j * 2) ≤ q * 2 ^ k = mul-le-mul_left q (le_trans (le_of_eq (sym b)) a) in
    absurd (omega arith))

-- an odd number, times a power of two, is no shorter number times a power of two
odd_part : (m a o b : ℕ) → o % 2 ≡ 1 → m * 2 ^ a ≡ o * 2 ^ b → o ≤ m
odd_part m a o b h e =
    dite (dec_le a b)
    (λ g. let w : 2 ^ b ≡ 2 ^ (b - a) * 2 ^ a = ap (λ (x : ℕ). 2 ^ x) (let w : b ≡ b - a + a = omega arith in w) ∙ pow-add 2 (b - a) a in
    let i : m
    ≡ o * 2 ^ (b - a) = eq_of_mul-eq-mul_right (2 ^ a) (pow_pos a) m (o * 2 ^ (b - a))
    (e ∙ ap (λ (x : ℕ). o * x) w ∙ sym (mul_assoc o (2 ^ (b - a)) (2 ^ a))) in
    le_trans (le_of_eq (sym (mul-one o))) (le_trans (mul-le-mul_left o (pow_pos (b - a))) (le_of_eq (sym i))))
    (λ g. let w : 2 ^ a ≡ 2 ^ (a - b - 1) * 2 * 2 ^ b =
    ap (λ (x : ℕ). 2 ^ x) (let w : a ≡ a - b - 1 + 1 + b = omega arith in w) ∙ pow-add 2 (a - b - 1 + 1) b ∙ ap (λ (x : ℕ). x * 2 ^ b) (pow-add 2 (a - b - 1) 1) in
    let i : m * (2 ^ (a - b - 1) * 2)
    ≡ o = eq_of_mul-eq-mul_right (2 ^ b) (pow_pos b) (m * (2 ^ (a - b - 1) * 2)) o
    (mul_assoc m (2 ^ (a - b - 1) * 2) (2 ^ b) ∙ ap (λ (x : ℕ). m * x) (sym w) ∙ e) in
    absurd (omega arith))

-- no tie: four times N is no square of an odd number, times 4^k
no_tie : (p q k m z : ℕ) → (0 < k → 2 ^ p ≤ q * 2) → m < 2 ^ p → 4 * (m * 2 ^ z) ≡ (2 * q + 1) * (2 * q + 1) * 4 ^ k → ⊥
no_tie p q zero m z full few e = omega (arith, mul-one ((2 * q + 1) * (2 * q + 1)))
no_tie p q (suc k) m z full few e =
    let g : 4 * (m * 2 ^ z) ≡ (2 * q + 1) * (2 * q + 1) * (4 * (2 ^ k * 2 ^ k)) = rw (pow-succ' 4 k, four_pow k) at e in
    let i : m * 2 ^ z ≡ (2 * q + 1) * (2 * q + 1) * 2 ^ (k + k) = rw (pow-add 2 k k) (omega (arith, g)) in
    let o : (2 * q + 1) * (2 * q + 1) % 2 ≡ 1 = omega arith in
    let l = odd_part m z ((2 * q + 1) * (2 * q + 1)) (k + k) o i in
    let f = full (omega arith) in
    let g : 2 * q ≤ 2 * q * (2 * q + 1) = le_trans (le_of_eq (sym (mul-one (2 * q)))) (mul-le-mul_left (2 * q) (omega arith)) in
    omega arith

-- y is nearer to the root of N than any other number of at most p digits and some zeros: the half way points lie on the right sides of it
record Between (p N y : ℕ) : Type 0 where
  above : (o j : ℕ) → o < 2 ^ p → y < o * 2 ^ j → 4 * N < (y + o * 2 ^ j) * (y + o * 2 ^ j)
  below : (o j : ℕ) → o < 2 ^ p → o * 2 ^ j < y → (y + o * 2 ^ j) * (y + o * 2 ^ j) < 4 * N

sq_mono : (a b : ℕ) → a < b → a * a < b * b
sq_mono a b h = let g : a + 1 ≤ b = omega arith in let w = mul-le-mul g g in omega arith

module _ (p N q k : ℕ) (full : 0 < k → 2 ^ p ≤ q * 2) (least : q * 2 ^ k * (q * 2 ^ k) ≤ N) (most : N < (q + 1) * 2 ^ k * ((q + 1) * 2 ^ k)) where
  half : (2 * q + 1) * (2 * q + 1) * 4 ^ k ≡ (q * 2 ^ k + (q + 1) * 2 ^ k) * (q * 2 ^ k + (q + 1) * 2 ^ k)
  half = rw (four_pow k) (omega arith)

  stays : 4 * N < (2 * q + 1) * (2 * q + 1) * 4 ^ k → Between p N (q * 2 ^ k)
  stays h = record {
    above = λ o j few l.
        let g : q * 2 ^ k + (q + 1) * 2 ^ k ≤ q * 2 ^ k + o * 2 ^ j = (let w = next p q k o j full few l in omega arith) in
        lt_of_lt_of_le (subst (λ (x : ℕ). 4 * N < x) half h) (mul-le-mul g g);
    below = λ o j few l.
        let g = sq_mono (q * 2 ^ k + o * 2 ^ j) (q * 2 ^ k + q * 2 ^ k) (omega arith) in
        lt_of_lt_of_le g (omega (arith, least));
  }

  goes_up : (2 * q + 1) * (2 * q + 1) * 4 ^ k < 4 * N → Between p N ((q + 1) * 2 ^ k)
  goes_up h = record {
    above = λ o j few l.
        let g = sq_mono ((q + 1) * 2 ^ k + (q + 1) * 2 ^ k) ((q + 1) * 2 ^ k + o * 2 ^ j) (omega arith) in
        lt_of_le_of_lt (omega (arith, most)) g;
    below = λ o j few l.
        let b : o * 2 ^ j ≤ q * 2 ^ k = dite (dec_le (o * 2 ^ j) (q * 2 ^ k)) (λ x. x) (λ x. let w = next p q k o j full few (omega arith) in absurd (omega arith)) in
        let g : (q + 1) * 2 ^ k + o * 2 ^ j ≤ q * 2 ^ k + (q + 1) * 2 ^ k = omega arith in
        lt_of_le_of_lt (mul-le-mul g g) (subst (λ (x : ℕ). x < 4 * N) half h);
  }

  -- N being a number of at most p digits and some zeros
  chosen : (m z : ℕ) → m < 2 ^ p → N ≡ m * 2 ^ z → Between p N (nearest q (compare (4 * N) ((2 * q + 1) * (2 * q + 1) * 4 ^ k)) * 2 ^ k)
  chosen m z few e = go (compare (4 * N) ((2 * q + 1) * (2 * q + 1) * 4 ^ k)) (cmp (4 * N) ((2 * q + 1) * (2 * q + 1) * 4 ^ k))
    where
      go : (o : Ordering) → Cmp o (4 * N) ((2 * q + 1) * (2 * q + 1) * 4 ^ k) → Between p N (nearest q o * 2 ^ k)
      go Ordering.lt h = stays h
      go Ordering.eq h = absurd (no_tie p q k m z full few (subst (λ (x : ℕ). 4 * x ≡ (2 * q + 1) * (2 * q + 1) * 4 ^ k) e h))
      go Ordering.gt h = subst (λ (x : ℕ). Between p N (x * 2 ^ k)) (add-one q) (goes_up h)

-- ---- fractions: a / d is y / l and b / c is z / l

order-units : (a d b c l y z : ℕ) → 0 < l → a * l ≡ y * d → b * l ≡ z * c → a * c < b * d → y < z
order-units a d b c l y z pos v w h =
    let p : a * l * c ≡ y * d * c = ap (λ (x : ℕ). x * c) v in
    let r : b * l * d ≡ z * c * d = ap (λ (x : ℕ). x * d) w in
    let s : a * c * l < b * d * l = mul-lt-mul_of_pos_right h pos in
    lt_of_mul-lt-mul_right (d * c) (omega arith)

-- the root of a / b = n / l against the half way point of c / d = y / l and e / g = z / l
module _ (a b c d e g l n y z : ℕ) (bp : 0 < b) (dp : 0 < d) (gp : 0 < g) (x : a * l ≡ n * b) (v : c * l ≡ y * d) (w : e * l ≡ z * g) where
  abbrev scale : ℕ
  scale = d * g * (d * g) * b

  scale_pos : 0 < scale
  scale_pos = mul-pos (mul-pos (mul-pos dp gp) (mul-pos dp gp)) bp

  root_side : 4 * a * (d * g * (d * g)) * (l * l) ≡ 4 * (n * l) * scale
  root_side =
      (let r : 4 * a * (d * g * (d * g)) * (l * l) ≡ a * l * (4 * l * (d * g * (d * g))) = omega arith in r)
      ∙ ap (λ (k : ℕ). k * (4 * l * (d * g * (d * g)))) x
      ∙ (let r : n * b * (4 * l * (d * g * (d * g))) ≡ 4 * (n * l) * scale = omega arith in r)

  half_side : (c * g + e * d) * (c * g + e * d) * b * (l * l) ≡ (y + z) * (y + z) * scale
  half_side =
      (let r : (c * g + e * d) * (c * g + e * d) * b * (l * l) ≡ (c * l * g + e * l * d) * (c * l * g + e * l * d) * b = omega arith in r)
      ∙ ap (λ (k : ℕ). (k * g + e * l * d) * (k * g + e * l * d) * b) v
      ∙ ap (λ (k : ℕ). (y * d * g + k * d) * (y * d * g + k * d) * b) w
      ∙ (let r : (y * d * g + z * g * d) * (y * d * g + z * g * d) * b ≡ (y + z) * (y + z) * scale = omega arith in r)

  below_half : 4 * (n * l) < (y + z) * (y + z) → 4 * a * (d * g * (d * g)) < (c * g + e * d) * (c * g + e * d) * b
  below_half h = lt_of_mul-lt-mul_right (l * l) (rw (root_side, half_side) (mul-lt-mul_of_pos_right h scale_pos))

  above_half : (y + z) * (y + z) < 4 * (n * l) → (c * g + e * d) * (c * g + e * d) * b < 4 * a * (d * g * (d * g))
  above_half h = lt_of_mul-lt-mul_right (l * l) (rw (root_side, half_side) (mul-lt-mul_of_pos_right h scale_pos))

-- ---- the root of a value that the format holds

module _ (f : Format) (m : ℕ) (e : ℤ) (t : T (fits f (fin false m e))) where
  abbrev n : ℕ
  n = units_of f m e

  abbrev N : ℕ
  N = n * 2 ^ low f

  in_units : Held f m e n
  in_units = held f false m e t

  abbrev s : ℕ
  s = whole f n in_units.small

  s_root : Root N s
  s_root = is_root f n in_units.small

  abbrev k : ℕ
  k = size s - prec f

  abbrev q : ℕ
  q = s / 2 ^ k

  abbrev r : ℕ
  r = nearest q (compare (4 * N) ((2 * q + 1) * (2 * q + 1) * 4 ^ k))

  full : 0 < k → 2 ^ prec f ≤ q * 2
  full h =
      let a : 2 ^ (prec f - 1 + k) ≤ s = size_reaches s (prec f - 1 + k) (let w = two f in omega arith) in
      let b : 2 ^ (prec f - 1) ≤ q = (le-div_iff_mul-le (pow_pos k)).1 (le_trans (le_of_eq (sym (pow-add 2 (prec f - 1) k))) a) in
      let c : 2 ^ prec f ≡ 2 ^ (prec f - 1) * 2 = ap (λ (x : ℕ). 2 ^ x) (let w = two f in let i : prec f ≡ prec f - 1 + 1 = omega arith in i)
      ∙ pow-add 2 (prec f - 1) 1 in
      omega arith

  q_low : q * 2 ^ k ≤ s
  q_low = div-mul-le_self s (2 ^ k)

  q_high : s + 1 ≤ (q + 1) * 2 ^ k
  q_high = let g = lt-div-mul-add {a = s} (pow_pos k) in omega arith

  between : Between (prec f) N (r * 2 ^ k)
  between =
      chosen (prec f) N q k full (le_trans (mul-le-mul q_low q_low) s_root.low) (lt_of_lt_of_le s_root.high (mul-le-mul q_high q_high))
      m (in_units.zeros + low f) in_units.few
      (ap (λ (x : ℕ). x * 2 ^ low f) in_units.form ∙ mul_assoc m (2 ^ in_units.zeros) (2 ^ low f)
      ∙ ap (λ (x : ℕ). m * x) (sym (pow-add 2 in_units.zeros (low f))))

  -- the root is far below the largest value
  s_small : s < 2 ^ (low f + emax f)
  s_small =
      let w = low f + emax f in
      let a : N < 2 ^ (low f + suc (emax f)) * 2 ^ low f = mul-lt-mul_of_pos_right in_units.small (pow_pos (low f)) in
      let b : 2 ^ (low f + suc (emax f) + low f) ≤ 2 ^ (w + w) = pow_mono (let x = two f in let y = reach f in omega arith) in
      sq_lt s (2 ^ w) (lt_of_le_of_lt s_root.low
      (lt_of_lt_of_le a (le_trans (le_of_eq (sym (pow-add 2 (low f + suc (emax f)) (low f)))) (le_trans b (le_of_eq (pow-add 2 w w))))))

  r_le : r ≤ q + 1
  r_le = le_trans (nearest-le q (compare (4 * N) ((2 * q + 1) * (2 * q + 1) * 4 ^ k))) (omega arith)

  fine : r * 2 ^ k < 2 ^ (low f + suc (emax f))
  fine =
      let w = low f + emax f in
      let a : k ≤ w = (let g = size-le s w s_small in omega arith) in
      let b : 2 ^ w ≡ 2 ^ (w - k) * 2 ^ k = ap (λ (x : ℕ). 2 ^ x) (let i : w ≡ w - k + k = omega arith in i) ∙ pow-add 2 (w - k) k in
      let c : q < 2 ^ (w - k) = lt_of_mul-lt-mul_right (2 ^ k) (lt_of_le_of_lt q_low (lt_of_lt_of_le s_small (le_of_eq b))) in
      let d : r * 2 ^ k ≤ 2 ^ (w - k) * 2 ^ k = mul-le-mul_right (2 ^ k) (let g = r_le in omega arith) in
      lt_of_le_of_lt d (lt_of_le_of_lt (le_of_eq (sym b)) (pow-lt (let g : w < low f + suc (emax f) = omega arith in g)))

  r_few : r ≤ 2 ^ prec f
  r_few = let g = r_le in let w = kept-lt (prec f) s in omega arith

  rooted : (x : Float) → root_in f (fin false m e) ≡ x → HasValue x false (r * 2 ^ k) (2 ^ low f) → T (fits f x) → Rooted f m e
  rooted nan is v h = absurd v
  rooted (inf i) is v h = absurd v
  rooted (fin true o d) is v h = absurd (true≢false v.0)
  rooted (fin false o d) is v h = record {
    n = o;
    d = d;
    is = is;
    near = record {
      held = h;
      above = λ a c i l.
          let z = held f false a c i in
          let g = order-units (o * up d) (down d) (a * up c) (down c) (2 ^ low f) (r * 2 ^ k) (units_of f a c) (pow_pos (low f)) v.1 z.value l in
          below_half (m * up e) (down e) (o * up d) (down d) (a * up c) (down c) (2 ^ low f) n (r * 2 ^ k) (units_of f a c) (down_pos e) (down_pos d)
          (down_pos c) in_units.value v.1 z.value
          (subst (λ (x : ℕ). 4 * N < (r * 2 ^ k + x) * (r * 2 ^ k + x)) (sym z.form) (between.above a z.zeros z.few (subst (λ (x : ℕ). r * 2 ^ k < x) z.form g)));
      below = λ a c i l.
          let z = held f false a c i in
          let g = order-units (a * up c) (down c) (o * up d) (down d) (2 ^ low f) (units_of f a c) (r * 2 ^ k) (pow_pos (low f)) z.value v.1 l in
          above_half (m * up e) (down e) (o * up d) (down d) (a * up c) (down c) (2 ^ low f) n (r * 2 ^ k) (units_of f a c) (down_pos e) (down_pos d)
          (down_pos c) in_units.value v.1 z.value
          (subst (λ (x : ℕ). (r * 2 ^ k + x) * (r * 2 ^ k + x) < 4 * N) (sym z.form) (between.below a z.zeros z.few (subst (λ (x : ℕ). x < r * 2 ^ k) z.form g)));
    };
  }

  is_units : root_in f (fin false m e) ≡ units f false r k
  unfolding root_in root_units rounded
  is_units = refl

  nearest_one : Rooted f m e
  nearest_one = rooted (units f false r k) is_units (units_val f false r k fine) (units-held f r k r_few fine)

pub root_nearest : RootNearest
root_nearest = nearest_one
