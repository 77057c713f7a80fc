-- The root keeps the order of numbers from 0 up, infinity and -0 included: it follows from the root's being nearest. Assumes nothing.
use mathlib.Core.Path.{◌≡◌, refl, sym, subst}
use mathlib.Core.Logic.{dite}
use mathlib.Core.Bool.{Bool, true, false, ◌&&◌, ◌||◌}
use Prim.Native.Nat.{ℕ, zero, suc, ◌+◌, ◌*◌, ◌^◌, ◌≤◌, ◌<◌}
use native.Mathlib.Nat.{pow-succ', mul-pos, mul_comm, add_comm, le_of_lt, le_of_eq, mul-le-mul_right, mul-lt-mul_of_pos_right}
use native.Mathlib.Decide.{dec_le}
use native.Mathlib.Omega.{arith}
use lib.IntN.{ℤ, pos, negsuc}
use lib.Dec.{T, ltb, eqb, ltb→lt, lt→ltb, eqb→eq}
use lib.Ieee.{Float, nan, inf, fin, Format, up, down, fits, le, lt, eq}
use lib.Ieee.Fits.{up_pos, down_pos, and_l}
use lib.Ieee.Order.{le_of_values}
use Rattle.roots.specs.Root.{root_in}
use Rattle.roots.specs.Nearest.{Rooted}
use Rattle.roots.proofs.Nearest.{root_nearest}
use Rattle.roots.proofs.Edges.{zero_root}

-- ---- what is at least 0

data NotBelow : Float → Type 0 where
  infinite : NotBelow (inf false)
  minus_zero : NotBelow (fin true 0 (pos 0))
  plain : (m : ℕ) (e : ℤ) → NotBelow (fin false m e)

zero_exponent : (f : Format) (s : Bool) (e : ℤ) → T (fits f (fin s 0 e)) → e ≡ pos 0
unfolding fits
zero_exponent f s (pos zero) t = refl
zero_exponent f s (pos (suc k)) t = absurd (let g = eqb→eq (2 ^ suc k * 1) 1 t in let w = pow-succ' 2 k in omega arith)
zero_exponent f s (negsuc k) t = absurd (let g = eqb→eq (1 * 2 ^ suc k) 1 t in let w = pow-succ' 2 k in omega arith)

-- a product that is 0 times something
none : (m u d : ℕ) → 0 < u → m * u * 1 ≡ 0 * 1 * d → m ≡ 0
none zero u d p h = refl
none (suc m) u d p h = absurd (let w = mul-pos (let z : 0 < suc m = omega arith in z) p in omega arith)

equal : (a b : ℕ) (c : Bool) → T (eqb a b && c) → a ≡ b
equal a b c t = eqb→eq a b (and_l (eqb a b) c t)

not_below : (f : Format) (x : Float) → T (fits f x) → T (le (fin false 0 (pos 0)) x) → NotBelow x
unfolding le lt eq
not_below f nan t h = absurd h
not_below f (inf true) t h = absurd h
not_below f (inf false) t h = infinite
not_below f (fin false m e) t h = plain m e
not_below f (fin true m e) t h =
    let z : m ≡ 0 = none m (up e) (down e) (up_pos e) (sym (equal (0 * 1 * down e) (m * up e * 1) (false || eqb (0 * 1 * down e) 0) h)) in
    let i : e ≡ pos 0 = zero_exponent f true e (subst (λ (n : ℕ). T (fits f (fin true n e))) z t) in
    subst (λ (n : ℕ). NotBelow (fin true n e)) (sym z) (subst (λ (d : ℤ). NotBelow (fin true 0 d)) (sym i) minus_zero)

-- ---- the order of floats as an order of products

le_cross : (m : ℕ) (e : ℤ) (n : ℕ) (d : ℤ) → T (le (fin false m e) (fin false n d)) → m * up e * down d ≤ n * up d * down e
unfolding le lt eq
le_cross m e n d h = go (ltb (m * up e * down d) (n * up d * down e)) (eqb (m * up e * down d) (n * up d * down e)) (ltb→lt _ _) (eqb→eq _ _) h
  where
    go : (p q : Bool) → (T p → m * up e * down d < n * up d * down e) → (T q → m * up e * down d ≡ n * up d * down e) → T (p || (q && true))
        → m * up e * down d ≤ n * up d * down e
    go true q x y t = le_of_lt (x tt)
    go false true x y t = le_of_eq (y tt)
    go false false x y t = absurd t

minus_zero_le : (n : ℕ) (d : ℤ) → T (le (fin true 0 (pos 0)) (fin false n d))
unfolding le lt eq
minus_zero_le n d = go (0 * 1 * down d) (n * up d * 1) (omega arith)
  where
    go : (a b : ℕ) → a ≡ 0 → T (ltb 0 (a + b) || (eqb a b && (false || eqb a 0)))
    go a zero z = rw z tt
    go a (suc b) z = rw z (or_first (ltb 0 (0 + suc b)) (eqb 0 (suc b) && (false || eqb 0 0)) (lt→ltb 0 (0 + suc b) (omega arith)))
      where
        or_first : (p q : Bool) → T p → T (p || q)
        or_first true q t = tt
        or_first false q t = absurd t

-- ---- two roots in the wrong order would each be nearer to the other number's root

clash : (x e y d : ℕ) {s s' g g' : ℕ} → 0 < e → 0 < d → x * d ≤ y * e → s' ≡ s → g' ≡ g → s * s * e < 4 * x * (g * g) → 4 * y * (g' * g') < s' * s' * d → ⊥
clash x e y d {s} {s'} {g} {g'} ep dp l i j a b =
    let b' : 4 * y * (g * g) < s * s * d = subst (λ (k : ℕ). 4 * y * (k * k) < s * s * d) j (subst (λ (k : ℕ). 4 * y * (g' * g') < k * k * d) i b) in
    let p : s * s * e * d < 4 * x * (g * g) * d = mul-lt-mul_of_pos_right a dp in
    let q : 4 * y * (g * g) * e < s * s * d * e = mul-lt-mul_of_pos_right b' ep in
    let r : x * d * (4 * (g * g)) ≤ y * e * (4 * (g * g)) = mul-le-mul_right (4 * (g * g)) l in
    omega arith

module _ (f : Format) (m : ℕ) (e : ℤ) (n : ℕ) (d : ℤ) (t : T (fits f (fin false m e))) (u : T (fits f (fin false n d))) (l : T (le (fin false m e) (fin false n d))) where
  a : Rooted f m e
  a = root_nearest f m e t

  b : Rooted f n d
  b = root_nearest f n d u

  ordered : a.n * up a.d * down b.d ≤ b.n * up b.d * down a.d
  ordered =
      dite (dec_le (a.n * up a.d * down b.d) (b.n * up b.d * down a.d)) (λ k. k)
      (λ k. let w : b.n * up b.d * down a.d < a.n * up a.d * down b.d = omega arith in
      absurd (clash (m * up e) (down e) (n * up d) (down d) (down_pos e) (down_pos d) (le_cross m e n d l)
      (add_comm (b.n * up b.d * down a.d) (a.n * up a.d * down b.d)) (mul_comm (down b.d) (down a.d))
      (a.near.below b.n b.d b.near.held w) (b.near.above a.n a.d a.near.held w)))

  plain_mono : T (le (root_in f (fin false m e)) (root_in f (fin false n d)))
  plain_mono =
      rw (a.is, b.is)
      (le_of_values (fin false a.n a.d) (fin false b.n b.d) (a.n * up a.d) (down a.d) (b.n * up b.d) (down b.d)
      (down_pos a.d) (down_pos b.d) (refl, refl) (refl, refl) ordered)

-- ---- every case

by_case : (f : Format) {x y : Float} → NotBelow x → NotBelow y → T (fits f x) → T (fits f y) → T (le x y) → T (le (root_in f x) (root_in f y))
unfolding le lt eq
by_case f infinite infinite t u l = unfold root_in in tt
by_case f infinite minus_zero t u l = absurd l
by_case f infinite (plain n d) t u l = absurd l
by_case f minus_zero infinite t u l = unfold root_in in tt
by_case f minus_zero minus_zero t u l = unfold root_in in tt
by_case f minus_zero (plain n d) t u l = let b = root_nearest f n d u in rw (zero_root f true, b.is) (minus_zero_le b.n b.d)
by_case f (plain m e) infinite t u l = let a = root_nearest f m e t in rw a.is (unfold root_in in tt)
by_case f (plain m e) minus_zero t u l =
    let z : m ≡ 0 = none m (up e) (down e) (up_pos e) (equal (m * up e * 1) (0 * 1 * down e) (false || eqb (m * up e * 1) 0) l) in
    let t' : T (fits f (fin false 0 e)) = subst (λ (n : ℕ). T (fits f (fin false n e))) z t in
    let i : e ≡ pos 0 = zero_exponent f false e t' in
    rw (z, i, zero_root f false, zero_root f true) tt
by_case f (plain m e) (plain n d) t u l = plain_mono f m e n d t u l

pub root_mono : (f : Format) (x y : Float) → T (fits f x) → T (fits f y) → T (le (fin false 0 (pos 0)) x) → T (le (fin false 0 (pos 0)) y)
    → T (le x y) → T (le (root_in f x) (root_in f y))
root_mono f x y t u p q l = by_case f (not_below f x t p) (not_below f y u q) t u l
