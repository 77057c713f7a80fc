-- Whole roots: the whole part of a root is one number, and so is the whole number nearest to a root; how either is cut and counted. Assumes nothing.
use mathlib.Core.Path.{◌≡◌, refl, sym, subst}
use mathlib.Core.Logic.{dite}
use mathlib.Core.Bool.{Bool, true, false, not, cond}
use Prim.Native.Nat.{ℕ, zero, suc, ◌+◌, ◌*◌, ◌-◌, ◌/◌, ◌^◌, ◌≤◌, ◌<◌, compare, Ordering}
use native.Mathlib.Nat.{pow-succ', mul-le-mul, mul-le-mul_right, div-mul-le_self, lt-div-mul-add, lt_of_mul-lt-mul_right, le_of_mul-le-mul_right, eq_of_mul-eq-mul_right, le_antisymm, le_trans, lt_of_lt_of_le, le_of_eq, mul-pos}
use native.Mathlib.Decide.{dec_le}
use native.Mathlib.Omega.{arith}
use lib.Arith.{lt_of_le-ne}
use lib.Dec.{T, leb, is_le, compare_is_eq, eqb, leb→le, nleb→lt, eqb→eq, eqb_refl}
use borrow.Author.Tests.{leb-true, leb-false}
use lib.Pow.{pow_pos, pow-add, pow_mono}
use lib.Ieee.{size, nearest}
use lib.Ieee.Digits.{size-lt, size-le}
use Rattle.roots.specs.Root.{isqrt}
use Rattle.roots.specs.Nearest.{NearestWhole}

-- r is the whole part of the root of n
pub record Root (n r : ℕ) : Type 0 where
  pub low : r * r ≤ n
  pub high : n < (r + 1) * (r + 1)

pub isqrt_is : (k n r : ℕ) → r * r ≤ n → n < (r + 2 ^ k) * (r + 2 ^ k) → Root n (isqrt k n r)
unfolding isqrt
isqrt_is zero n r l h = record { low = l; high = h }
isqrt_is (suc k) n r l h =
    go (leb ((r + 2 ^ k) * (r + 2 ^ k)) n) (leb-true _ _) (leb-false _ _) (λ t. isqrt_is k n (r + 2 ^ k) t (rw (twice r k) at h))
    (λ t. isqrt_is k n r l t)
  where
    twice : (r k : ℕ) → r + 2 ^ suc k ≡ r + 2 ^ k + 2 ^ k
    twice r k = rw (pow-succ' 2 k) (omega arith)

    go : (b : Bool) → (b ≡ true → (r + 2 ^ k) * (r + 2 ^ k) ≤ n) → (b ≡ false → n < (r + 2 ^ k) * (r + 2 ^ k))
        → ((r + 2 ^ k) * (r + 2 ^ k) ≤ n → Root n (isqrt k n (r + 2 ^ k))) → (n < (r + 2 ^ k) * (r + 2 ^ k) → Root n (isqrt k n r))
        → Root n (isqrt k n (cond b (r + 2 ^ k) r))
    go true t f y z = y (t refl)
    go false t f y z = z (f refl)

pub sq_lt : (a b : ℕ) → a * a < b * b → a < b
sq_lt a b h = dite (dec_le b a) (λ k. let g = mul-le-mul k k in absurd (omega arith)) (λ k. omega arith)

pub unique : {n a b : ℕ} → Root n a → Root n b → a ≡ b
unique {n} {a} {b} p q =
    let x = sq_lt a (b + 1) (lt_of_lt_of_le (let g : a * a < n + 1 = omega (arith, p.low) in g) (omega (arith, q.high))) in
    let y = sq_lt b (a + 1) (lt_of_lt_of_le (let g : b * b < n + 1 = omega (arith, q.low) in g) (omega (arith, p.high))) in
    omega arith

-- four to the j is two to the j squared
pub four_pow : (j : ℕ) → 4 ^ j ≡ 2 ^ j * 2 ^ j
four_pow zero = refl
four_pow (suc j) = rw (pow-succ' 4 j, pow-succ' 2 j, four_pow j) (omega arith)

pub four_pos : (j : ℕ) → 0 < 4 ^ j
four_pos j = rw (four_pow j) (mul-pos (pow_pos j) (pow_pos j))

-- the root of n * 4^j, cut by j digits, is the root of n
pub cut : (n j s : ℕ) → Root (n * 4 ^ j) s → Root n (s / 2 ^ j)
cut n j s r =
    let t = s / 2 ^ j in
    let l : t * 2 ^ j ≤ s = div-mul-le_self s (2 ^ j) in
    let h : s + 1 ≤ (t + 1) * 2 ^ j = (let g = lt-div-mul-add {a = s} (pow_pos j) in omega arith) in
    let low2 = mul-le-mul l l in
    let high2 = mul-le-mul h h in
    let e = four_pow j in
    record {
      low = le_of_mul-le-mul_right (let g : t * t * 4 ^ j ≤ n * 4 ^ j = rw e (omega (arith, low2, rw e at r.low)) in g) (rw e (mul-pos (pow_pos j) (pow_pos j)));
      high = lt_of_mul-lt-mul_right (4 ^ j) (let g : n * 4 ^ j < (t + 1) * (t + 1) * 4 ^ j = rw e (omega (arith, high2, rw e at r.high)) in g);
    }

-- p + 1 digits, and then j more: how many there are
pub places : (p j s : ℕ) → 2 ^ p ≤ s / 2 ^ j → s / 2 ^ j < 2 ^ suc p → size s ≡ suc p + j
places p j s l h =
    let low : 2 ^ (p + j) ≤ s = le_trans (le_of_eq (pow-add 2 p j)) (le_trans (mul-le-mul_right (2 ^ j) l) (div-mul-le_self s (2 ^ j))) in
    let high : s < 2 ^ (suc p + j) = lt_of_lt_of_le (lt-div-mul-add {a = s} (pow_pos j))
    (le_trans (let g : s / 2 ^ j * 2 ^ j + 2 ^ j ≤ 2 ^ suc p * 2 ^ j = (let w = mul-le-mul_right (2 ^ j) h in omega arith) in g)
    (le_of_eq (sym (pow-add 2 (suc p) j)))) in
    le_antisymm (size-le s (suc p + j) high)
    (dite (dec_le (suc p + j) (size s)) (λ k. k)
    (λ k. let g : 2 ^ size s ≤ 2 ^ (p + j) = pow_mono (let w : size s ≤ p + j = omega arith in w) in let f = size-lt s in absurd (omega arith)))

-- ---- the whole number nearest to a root

below : (a b w : ℕ) → a < b → w ≤ a * a + a → b * b < w + b → ⊥
below a b w h x y =
    let l : a ≤ b - 1 = omega arith in
    let g = mul-le-mul l l in
    let e : b ≡ b - 1 + 1 = omega arith in
    let z : (b - 1 + 1) * (b - 1 + 1) < w + (b - 1 + 1) = subst (λ (c : ℕ). c * c < w + c) e y in
    omega arith

pub near_unique : {w a b : ℕ} → NearestWhole w a → NearestWhole w b → a ≡ b
near_unique {w} {a} {b} p q =
    le_antisymm
    (dite (dec_le a b) (λ k. k) (λ k. absurd (below b a w (omega arith) q.high p.low)))
    (dite (dec_le b a) (λ k. k) (λ k. absurd (below a b w (omega arith) p.high q.low)))

pub near_low : {w r : ℕ} (b : ℕ) → b * b ≤ w → NearestWhole w r → b ≤ r
near_low {w} {r} b h p = dite (dec_le b r) (λ k. k) (λ k. let l : r + 1 ≤ b = omega arith in let g = mul-le-mul l l in absurd (omega (arith, p.high)))

pub near_high : {w r : ℕ} (b : ℕ) → w < b * b → NearestWhole w r → r ≤ b
near_high {w} {r} b h p = dite (dec_le r b) (λ k. k) (λ k. absurd (below b r w (omega arith) (omega arith) p.low))

-- ---- what `compare` says
abbrev pub Cmp : Ordering → ℕ → ℕ → Type 0
Cmp Ordering.lt a b = a < b
Cmp Ordering.eq a b = a ≡ b
Cmp Ordering.gt a b = b < a

pub cmp : (a b : ℕ) → Cmp (compare a b) a b
cmp a b = go (compare a b) (leb→le a b) (nleb→lt a b) (eqb→eq a b) (λ (e : a ≡ b). subst (λ (x : ℕ). T (eqb a x)) e (eqb_refl a))
  where
    go : (o : Ordering) → (T (is_le o) → a ≤ b) → (T (not (is_le o)) → b < a) → (T (compare_is_eq o) → a ≡ b) → (a ≡ b → T (compare_is_eq o)) → Cmp o a b
    go Ordering.lt h k e n = lt_of_le-ne (h tt) n
    go Ordering.eq h k e n = e tt
    go Ordering.gt h k e n = k tt

-- the whole root, moved up where the root is above the half way point, is the nearest whole number: that point's square times 4 is odd, so it is never the root
pub rounds : (w j q : ℕ) → Root w q → 0 < q → NearestWhole w (nearest q (compare (4 * (w * 4 ^ j)) ((2 * q + 1) * (2 * q + 1) * 4 ^ j)))
rounds w j q p z = go (compare (4 * (w * 4 ^ j)) ((2 * q + 1) * (2 * q + 1) * 4 ^ j)) (cmp (4 * (w * 4 ^ j)) ((2 * q + 1) * (2 * q + 1) * 4 ^ j))
  where
    go : (o : Ordering) → Cmp o (4 * (w * 4 ^ j)) ((2 * q + 1) * (2 * q + 1) * 4 ^ j) → NearestWhole w (nearest q o)
    go Ordering.lt h =
        let g : 4 * w < (2 * q + 1) * (2 * q + 1) = lt_of_mul-lt-mul_right (4 ^ j) (omega (arith, h)) in
        record { low = omega (arith, p.low); high = omega arith }
    go Ordering.eq h =
        let g : 4 * w ≡ (2 * q + 1) * (2 * q + 1) = eq_of_mul-eq-mul_right (4 ^ j) (four_pos j) (4 * w) ((2 * q + 1) * (2 * q + 1)) (omega (arith, h)) in
        absurd (omega arith)
    go Ordering.gt h =
        let g : (2 * q + 1) * (2 * q + 1) < 4 * w = lt_of_mul-lt-mul_right (4 ^ j) (omega (arith, h)) in
        record { low = omega arith; high = omega (arith, p.high) }
