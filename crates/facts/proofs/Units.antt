-- Doubles as whole numbers of the format's smallest value, its units: how far two are apart at least, and what a number rounds above. Assumes nothing.
use mathlib.Core.Path.{◌≡◌, refl, ap, sym, ◌∙◌, subst}
use mathlib.Core.Logic.{◌⊎◌, inl, inr, dite}
use mathlib.Core.Bool.{Bool, true, false, not, ◌&&◌, cond, true≢false}
use Prim.Native.Nat.{ℕ, zero, suc, ◌+◌, ◌*◌, ◌-◌, ◌/◌, ◌%◌, ◌^◌, ◌≤◌, ◌<◌, compare, Ordering}
use native.Mathlib.Nat.{le_refl, le_trans, le_of_eq, le_of_lt, lt_of_lt_of_le, lt_of_le_of_lt, mul_comm, mul_assoc, mul_right_comm, mul-one, zero-mul, mul-pos, mul-le-mul_right, mul-lt-mul_of_pos_right, le_of_mul-le-mul_right, mul-div_cancel, div-add-mod', le-div_iff_mul-le, div-lt_iff_lt-mul}
use native.Mathlib.Decide.{dec_le, dec_lt}
use native.Mathlib.Omega.{arith}
use borrow.Author.Tests.{le-ltb, lt-ltb}
use lib.IntN.{ℤ, pos, negsuc}
use lib.Dec.{T, is_le, eqb, lit<, ltb, leb, leb→le, ltb→lt, nltb→le}
use lib.Pow.{pow-add, pow_pos, pow_mono, pow-lt}
use lib.Ieee.{Float, nan, inf, fin, Format, binary32, binary64, prec, emax, low, up, down, size, nearest, round, sum, add, sub, neg, lt, le, fits}
use lib.Ieee.Digits.{size-lt, size-le, size_reaches, back}
use lib.Ieee.Fits.{down_pos, two, two-le_pos, sub-fits}
use lib.Ieee.Exact.{HasValue, round_exact}
use lib.Ieee.Nearest.{closest, closest_same}
use lib.Ieee.Order.{drop, transfer, le_of_values, round_mono}
use lib.Ieee.Scale.{grid, overflow, finite, round_same, round_val, round_under}
use Rattle.floats.specs.Sizes.{Within}
use Rattle.floats.proofs.Order.{of_fin, to_fin, le_trans_float}
use Rattle.floats.proofs.Middle.{NotBelow, round_sign_false}
use Rattle.floats.proofs.Sums.{round_neg}
use Rattle.floats.proofs.Bounds.{lt_not_le}

clash : (X u v w x y : ℕ) → X ≡ u → u < v → v ≡ w → w ≤ x → x ≡ y → y ≤ X → ⊥
clash X u v w x y a b c d e g = omega arith

not_both : (a b : ℕ) → a ≤ b → b < a → ⊥
not_both a b h g = omega arith

middle-two : (a b c d : Bool) → T (a && b && c && d) → T b × T c
middle-two true true true d h = (tt, tt)
middle-two true true false d h = absurd h
middle-two true false c d h = absurd h
middle-two false b c d h = absurd h

-- ---- differences and sums of numbers that are counted in units
minus_scaled : (A B X Y S c : ℕ) → A * S ≡ Y * c → B * S ≡ X * c → B ≤ A → X ≤ Y → (A - B) * S ≡ (Y - X) * c
minus_scaled A B X Y S c a b h g = go (A - B) (Y - X) (let w : A ≡ B + (A - B) = omega arith in w) (let w : Y ≡ X + (Y - X) = omega arith in w)
  where
    go : (k j : ℕ) → A ≡ B + k → Y ≡ X + j → k * S ≡ j * c
    go k j e i =
        let u : (B + k) * S ≡ Y * c = subst (λ (z : ℕ). z * S ≡ Y * c) e a in
        let v : (B + k) * S ≡ (X + j) * c = subst (λ (z : ℕ). (B + k) * S ≡ z * c) i u in
        omega (arith, v, b)

plus_scaled : (A B X Y S c : ℕ) → A * S ≡ Y * c → B * S ≡ X * c → (A + B) * S ≡ (Y + X) * c
plus_scaled A B X Y S c a b = omega (arith, a, b)

nonzero : (a b c d : ℕ) → 0 < a → 0 < b → a * b ≡ c * d → 0 < c
nonzero a b zero d A B e = let w : 0 < a * b = mul-pos A B in absurd (omega (arith, w, e, zero-mul d))
nonzero a b (suc c) d A B e = omega arith

-- what is added, and what is taken off
abbrev pub over : Bool → ℕ → ℕ
over false X = X
over true X = 0

abbrev pub under : Bool → ℕ → ℕ
under false X = 0
under true X = X

over_most : (s : Bool) (X : ℕ) → over s X ≤ X
over_most false X = le_refl X
over_most true X = omega arith

under_most : (s : Bool) (X : ℕ) → under s X ≤ X
under_most false X = omega arith
under_most true X = le_refl X

-- ---- whole numbers with at most as many binary digits as the format keeps, but for zeros at the end
module _ (f : Format) where
  pub record Short (X : ℕ) : Type 0 where
    pub digits : ℕ
    pub shift : ℕ
    pub is : X ≡ digits * 2 ^ shift
    pub few : digits < 2 ^ prec f

  -- half the digits' limit
  abbrev pub top : ℕ
  top = 2 ^ (prec f - 1)

  twice_top : 2 ^ prec f ≡ 2 * top
  twice_top = let P = two-le_pos (prec f) (two f) in let q : prec f ≡ 1 + (prec f - 1) = omega arith in ap (λ (z : ℕ). 2 ^ z) q ∙ pow-add 2 1 (prec f - 1)

  record Multiple (g X : ℕ) : Type 0 where
    times : ℕ
    is : X ≡ times * g

  -- from top × 2^r on it is a multiple of 2^r
  multiple : (X r : ℕ) → Short X → top * 2 ^ r ≤ X → Multiple (2 ^ r) X
  multiple X r s h =
      dite (dec_le r s.shift)
      (λ k. record {
        times = s.digits * 2 ^ (s.shift - r);
        is = s.is ∙ ap (λ (z : ℕ). s.digits * z) (sym (ap (λ (z : ℕ). 2 ^ z) (back s.shift r k)) ∙ pow-add 2 (s.shift - r) r) ∙ sym (mul_assoc s.digits (2 ^ (s.shift - r)) (2 ^ r));
      })
      (λ k. absurd (go s.digits (2 ^ s.shift) (2 ^ r) s.few s.is (pow_pos s.shift) (double s.shift r (omega arith)) h))
    where
      double : (a b : ℕ) → a < b → 2 * 2 ^ a ≤ 2 ^ b
      double a b h = le_trans (le_of_eq (sym (pow-add 2 1 a))) (pow_mono (let q : 1 + a ≤ b = omega arith in q))

      go : (d a b : ℕ) → d < 2 ^ prec f → X ≡ d * a → 0 < a → 2 * a ≤ b → top * b ≤ X → ⊥
      go d a b few is A B h =
          let u : d * a < 2 ^ prec f * a = mul-lt-mul_of_pos_right few A in
          let v : 2 ^ prec f * a ≡ 2 * a * top = ap (λ (z : ℕ). z * a) twice_top ∙ mul_right_comm 2 top a in
          let w : 2 * a * top ≤ b * top = mul-le-mul_right top B in
          let x : b * top ≡ top * b = mul_comm b top in
          clash X (d * a) (2 ^ prec f * a) (2 * a * top) (b * top) (top * b) is u v w x h

  next_multiple : (c d g : ℕ) → d * g < c * g → d * g + g ≤ c * g
  next_multiple c d g h =
      dite (dec_le c d) (λ k. let w = mul-le-mul_right g k in absurd (omega arith))
      (λ k. let w = mul-le-mul_right g (let z : d + 1 ≤ c = omega arith in z) in omega arith)

  -- two of them are at least 2^r apart, if the larger is above top × 2^r
  pub spaced : (X Y r : ℕ) → Short X → Short Y → X < Y → top * 2 ^ r < Y → X + 2 ^ r ≤ Y
  spaced X Y r x y l h =
      let c = multiple Y r y (omega arith) in
      dite (dec_le (top * 2 ^ r) X)
      (λ k. let d = multiple X r x k in
      let w : d.times * 2 ^ r < c.times * 2 ^ r = subst (λ (z : ℕ). z < c.times * 2 ^ r) d.is (subst (λ (z : ℕ). X < z) c.is l) in
      let v = next_multiple c.times d.times (2 ^ r) w in
      omega (arith, v, c.is, d.is))
      (λ k. let w : top * 2 ^ r < c.times * 2 ^ r = subst (λ (z : ℕ). top * 2 ^ r < z) c.is h in
      let v = next_multiple c.times top (2 ^ r) w in
      omega (arith, v, c.is))

  -- ---- rounding
  abbrev pub one : ℕ
  one = 2 ^ low f

  pub near : ℕ → Float
  near N = round f false N (2 ^ low f)

  -- values in units
  pub in_order : (x y : Float) (A B : ℕ) → HasValue x false A one → HasValue y false B one → T (le x y) → A ≤ B
  in_order nan y A B p q h = absurd p
  in_order (inf s) y A B p q h = absurd p
  in_order (fin true m e) y A B p q h = absurd (true≢false p.0)
  in_order (fin false m e) nan A B p q h = absurd q
  in_order (fin false m e) (inf t) A B p q h = absurd q
  in_order (fin false m e) (fin true n d) A B p q h = absurd (true≢false q.0)
  in_order (fin false m e) (fin false n d) A B p q h =
      le_of_mul-le-mul_right (transfer A B one one (m * up e) (n * up d) (down e) (down d) (down_pos e) (down_pos d) (sym p.1) (sym q.1) (of_fin false m e false n d h)) (pow_pos (low f))

  -- a number with so few digits rounds to itself, below the infinity
  pub exact : (N : ℕ) → Short N → N < overflow f → HasValue (near N) false N one
  unfolding near
  exact N s b =
      round_exact f false N one s.digits s.shift (pow_pos (low f)) s.few (subst (λ (z : ℕ). z < overflow f) s.is b) (ap (λ (z : ℕ). z * one) s.is)

  pub near_mono : (M N : ℕ) → M ≤ N → T (le (near M) (near N))
  unfolding near
  near_mono M N h = round_mono f M one N one (pow_pos (low f)) (pow_pos (low f)) (mul-le-mul_right one h)

  -- what is rounded to at most P is at most P in its grid
  grid_most : (N P : ℕ) (x : Float) → HasValue x false P one → T (le (near N) x) → grid f N one ≤ P
  unfolding near
  grid_most N P x v h = in_order (round f false N one) x (grid f N one) P (round_val f N one (round_under f N one (ends (round f false N one) x (round_sign_false f N one) v h))) v h
    where
      ends : (y z : Float) → NotBelow y → HasValue z false P one → T (le y z) → T (finite y)
      ends nan z n v h = absurd n
      ends (inf s) nan n v h = absurd v
      ends (inf s) (inf t) n v h = absurd v
      ends (inf true) (fin t m e) n v h = absurd (true≢false n)
      ends (inf false) (fin t m e) n v h = absurd (unfold le in h)
      ends (fin s k d) z n v h = tt

  -- ---- P is a × 2^t, a with no more digits than the format keeps, all of them if t isn't 0
  module _ (P : ℕ) (short : Short P) where
    abbrev pub step : ℕ
    step = size P - prec f

    pub full : 0 < step → top * 2 ^ step ≤ P
    full h =
        let q = two-le_pos (prec f) (two f) in
        le_trans (le_of_eq (sym (pow-add 2 (prec f - 1) step))) (size_reaches P (prec f - 1 + step) (let z : prec f - 1 + step < size P = omega arith in z))

    pub step_most : 2 ^ step ≤ P + 1
    step_most =
        dite (dec_le 1 step)
        (λ h. let a = full h in let b = mul-le-mul_right (2 ^ step) (pow_pos (prec f - 1)) in omega (arith, a, b))
        (λ h. let q : step ≡ 0 = omega arith in let e : 2 ^ step ≡ 1 = ap (λ (z : ℕ). 2 ^ z) q in omega (arith, e))

    whole : Multiple (2 ^ step) P
    whole =
        dite (dec_le 1 step) (λ h. multiple P step short (full h))
        (λ h. let q : step ≡ 0 = omega arith in record { times = P; is = sym (ap (λ (z : ℕ). P * 2 ^ z) q ∙ mul-one P) })

    few_times : whole.times < 2 ^ prec f
    few_times =
        dite (dec_le (2 ^ prec f) whole.times)
        (λ h. let a = mul-le-mul_right (2 ^ step) h in
        let b = lt_of_lt_of_le (size-lt P) (pow_mono {i = size P} {j = prec f + step} (omega arith)) in
        let c = pow-add 2 (prec f) step in
        absurd (omega (arith, a, b, c, whole.is)))
        (λ h. omega arith)

    next_short : Short (P + 2 ^ step)
    next_short =
        dite (dec_le (2 ^ prec f) (whole.times + 1))
        (λ h. record {
          digits = top;
          shift = 1 + step;
          is =
              let z = few_times in
              let y : whole.times + 1 ≡ 2 ^ prec f = omega (arith, z) in
              let e : whole.times + 1 ≡ 2 * top = y ∙ twice_top in
              let g : P + 2 ^ step ≡ (whole.times + 1) * 2 ^ step = omega (arith, whole.is) in
              g ∙ ap (λ (z : ℕ). z * 2 ^ step) e ∙ ap (λ (z : ℕ). z * 2 ^ step) (mul_comm 2 top) ∙ mul_assoc top 2 (2 ^ step) ∙ ap (λ (z : ℕ). top * z) (sym (pow-add 2 1 step));
          few = let e = twice_top in let q = pow_pos (prec f - 1) in omega (arith, e, q);
        })
        (λ h. record { digits = whole.times + 1; shift = step; is = omega (arith, whole.is); few = omega arith })

    -- what lies between P and the next, above the middle, rounds to the next
    module _ (N : ℕ) (low_end : P < N) (high_end : N < P + 2 ^ step) (more : 2 * P + 2 ^ step < 2 * N) where
      some_step : 0 < step
      some_step =
          dite (dec_le 1 step) (λ h. h)
          (λ h. let q : step ≡ 0 = omega arith in let e : 2 ^ step ≡ 1 = ap (λ (z : ℕ). 2 ^ z) q in absurd (omega (arith, e)))

      size_is : size N ≡ prec f + step
      size_is =
          let q = two-le_pos (prec f) (two f) in
          let a = full some_step in
          let t = mul-le-mul_right (2 ^ step) (let z : whole.times + 1 ≤ 2 ^ prec f = let w = few_times in omega (arith, w) in z) in
          let c = pow-add 2 (prec f) step in
          let d = pow-add 2 (prec f - 1) step in
          let most = size-le N (prec f + step) (let z : N < 2 ^ (prec f + step) = omega (arith, t, c, whole.is) in z) in
          dite (dec_le (size N) (prec f - 1 + step))
          (λ h. let n = lt_of_lt_of_le (size-lt N) (pow_mono {i = size N} {j = prec f - 1 + step} h) in absurd (omega (arith, n, a, d)))
          (λ h. omega (arith, most, q))

      div_is : N / 2 ^ step ≡ whole.times
      div_is =
          let y : N / 2 ^ step < whole.times + 1 = (div-lt_iff_lt-mul (pow_pos step)).1 (let w : N < (whole.times + 1) * 2 ^ step = omega (arith, whole.is) in w) in
          let z : whole.times ≤ N / 2 ^ step = (le-div_iff_mul-le (pow_pos step)).1 (let w : whole.times * 2 ^ step ≤ N = omega (arith, whole.is) in w) in
          omega (arith, y, z)

      up_one : (q x u : ℕ) → u < x → suc q ≤ nearest q (compare x u)
      up_one q x u h = go (compare x u) (leb→le x u)
        where
          go : (o : Ordering) → (T (is_le o) → x ≤ u) → suc q ≤ nearest q o
          go Ordering.lt g = let z = g tt in absurd (omega arith)
          go Ordering.eq g = let z = g tt in absurd (omega arith)
          go Ordering.gt g = le_refl (suc q)

      closest_up : whole.times + 1 ≤ closest N (2 ^ step)
      closest_up =
          let d = div-add-mod' N (2 ^ step) in
          let e : N / 2 ^ step * 2 ^ step ≡ P = ap (λ (z : ℕ). z * 2 ^ step) div_is ∙ sym whole.is in
          let u = up_one (N / 2 ^ step) (N % 2 ^ step * 2) (2 ^ step) (let w : 2 ^ step < N % 2 ^ step * 2 = omega (arith, d, e) in w) in
          let v = div_is in
          omega (arith, u, v)

      drop_is : drop (prec f) (N * one) one ≡ step
      drop_is =
          let e : N * one / one ≡ N = mul-div_cancel N (pow_pos (low f)) in
          let q = size_is in
          ap (λ (z : ℕ). size z - prec f) e ∙ (let w : size N - prec f ≡ step = omega (arith, q) in w)

      rounded_up : P + 2 ^ step ≤ grid f N one
      rounded_up =
          let a : closest (N * one) (one * 2 ^ step) ≡ closest N (2 ^ step) =
          closest_same (N * one) (one * 2 ^ step) N (2 ^ step) (mul-pos (pow_pos (low f)) (pow_pos step)) (pow_pos step) (mul_assoc N one (2 ^ step)) in
          let b = mul-le-mul_right (2 ^ step) closest_up in
          let c : (whole.times + 1) * 2 ^ step ≡ P + 2 ^ step = omega (arith, whole.is) in
          subst (λ (k : ℕ). P + 2 ^ step ≤ closest (N * one) (one * 2 ^ k) * 2 ^ k) (sym drop_is)
          (le_trans (le_of_eq (sym c)) (le_trans b (le_of_eq (ap (λ (z : ℕ). z * 2 ^ step) (sym a)))))

    -- what rounds to P at most is at most half a step above P
    pub half_above : (N : ℕ) (x : Float) → HasValue x false P one → 2 * P + 1 < overflow f → T (le (near N) x) → 2 * N ≤ 2 * P + 2 ^ step
    half_above N x v b h =
        dite (dec_le (2 * N) (2 * P + 2 ^ step)) (λ k. k)
        (λ k. dite (dec_le (P + 2 ^ step) N)
        (λ g. let s = step_most in
        let p = pow_pos step in
        let o = in_order (near (P + 2 ^ step)) x (P + 2 ^ step) P (exact (P + 2 ^ step) next_short (lt_of_le_of_lt (let z : P + 2 ^ step ≤ 2 * P + 1 = omega arith in z) b)) v
        (le_trans_float (near (P + 2 ^ step)) (near N) x (near_mono (P + 2 ^ step) N g) h) in
        absurd (omega (arith, o, p)))
        (λ g. let p = pow_pos step in
        let r = rounded_up N (omega arith) (omega arith) (omega arith) in
        let m = grid_most N P x v h in
        absurd (omega (arith, r, m, p))))

  -- ---- a finite double in units, without its sign
  pub record Counted (m : ℕ) (e : ℤ) : Type 0 where
    pub units : ℕ
    pub short : Short units
    pub value : m * up e * one ≡ units * down e

  held : (s : Bool) (m : ℕ) (e : ℤ) → T (fits f (fin s (suc m) e)) → (suc m < 2 ^ prec f) × (down e ≤ one)
  unfolding fits
  held s m e h =
      let g = middle-two (eqb (suc m % 2) 1) (ltb (suc m) (2 ^ prec f)) (leb (down e) one) (ltb (suc m * up e) (2 ^ suc (emax f) * down e)) h in
      (ltb→lt (suc m) (2 ^ prec f) g.0, leb→le (down e) one g.1)

  pub counted : (s : Bool) (m : ℕ) (e : ℤ) → T (fits f (fin s m e)) → Counted m e
  counted s zero e h = record {
    units = 0;
    short = record { digits = 0; shift = 0; is = refl; few = pow_pos (prec f) };
    value = ap (λ (z : ℕ). z * one) (zero-mul (up e)) ∙ zero-mul one ∙ sym (zero-mul (down e));
  }
  counted s (suc m) (pos k) h = record {
    units = suc m * 2 ^ (k + low f);
    short = record { digits = suc m; shift = k + low f; is = refl; few = (held s m (pos k) h).0 };
    value = mul_assoc (suc m) (2 ^ k) one ∙ ap (λ (z : ℕ). suc m * z) (sym (pow-add 2 k (low f))) ∙ sym (mul-one (suc m * 2 ^ (k + low f)));
  }
  counted s (suc m) (negsuc k) h = record {
    units = suc m * 2 ^ (low f - suc k);
    short = record { digits = suc m; shift = low f - suc k; is = refl; few = (held s m (negsuc k) h).0 };
    value =
        ap (λ (z : ℕ). z * one) (mul-one (suc m)) ∙ ap (λ (z : ℕ). suc m * z) (sym (ap (λ (z : ℕ). 2 ^ z) (back (low f) (suc k) small)) ∙ pow-add 2 (low f - suc k) (suc k))
        ∙ sym (mul_assoc (suc m) (2 ^ (low f - suc k)) (2 ^ suc k));
  }
    where
      small : suc k ≤ low f
      small =
          dite (dec_le (suc k) (low f)) (λ g. g)
          (λ g. let a : 2 ^ suc k ≤ one = (held s m (negsuc k) h).1 in let b = pow-lt {i = low f} {j = suc k} (omega arith) in absurd (not_both (2 ^ suc k) one a b))

  pub has_value : (m : ℕ) (e : ℤ) (c : Counted m e) → HasValue (fin false m e) false c.units one
  has_value m e c = (refl, c.value)

  -- ---- two doubles, the first below the second: how many units they are apart, and that these are rounded
  module _ (m : ℕ) (e : ℤ) (c : Counted m e) (n : ℕ) (d : ℤ) (k : Counted n d) where
    abbrev X : ℕ
    X = c.units

    abbrev Y : ℕ
    Y = k.units

    first_scaled : m * up e * down d * one ≡ X * (down d * down e)
    first_scaled = mul_right_comm (m * up e) (down d) one ∙ ap (λ (z : ℕ). z * down d) c.value ∙ mul_assoc X (down e) (down d) ∙ ap (λ (z : ℕ). X * z) (mul_comm (down e) (down d))

    second_scaled : n * up d * down e * one ≡ Y * (down d * down e)
    second_scaled = mul_right_comm (n * up d) (down e) one ∙ ap (λ (z : ℕ). z * down e) k.value ∙ mul_assoc Y (down d) (down e)

    less : m * up e * down d < n * up d * down e → X < Y
    less h =
        dite (dec_le Y X)
        (λ g. absurd (not_both (n * up d * down e) (m * up e * down d)
        (transfer (n * up d) (m * up e) (down d) (down e) Y X one one (pow_pos (low f)) (pow_pos (low f)) k.value c.value (mul-le-mul_right one g)) h))
        (λ g. omega arith)

  pub record Apart (s : Bool) (X : ℕ) (t : Bool) (Y : ℕ) (x y : Float) : Type 0 where
    pub gap : ℕ
    pub some : 0 < gap
    pub is : gap + over s X + under t Y ≡ over t Y + under s X
    pub rounds : sub f y x ≡ near gap

  pub apart : (s : Bool) (m : ℕ) (e : ℤ) (c : Counted m e) (t : Bool) (n : ℕ) (d : ℤ) (k : Counted n d) → T (lt (fin s m e) (fin t n d))
      → Apart s c.units t k.units (fin s m e) (fin t n d)
  unfolding lt sub add neg sum near
  apart false m e c false n d k h =
      let w = ltb→lt (m * up e * down d) (n * up d * down e) h in
      let l = less m e c n d k w in
      let b = le-ltb (n * up d * down e) (m * up e * down d) (let z : m * up e * down d ≤ n * up d * down e = omega arith in z) in
      record {
        gap = k.units - c.units;
        some = omega arith;
        is = omega arith;
        rounds =
            rw b (round_same f false (n * up d * down e - m * up e * down d) (down d * down e) (k.units - c.units) one (mul-pos (down_pos d) (down_pos e)) (pow_pos (low f))
            (minus_scaled (n * up d * down e) (m * up e * down d) c.units k.units one (down d * down e) (second_scaled m e c n d k) (first_scaled m e c n d k) (omega arith) (omega arith)));
      }
  apart false m e c true n d k h = absurd h
  apart true m e c false n d k h =
      let w = ltb→lt 0 (m * up e * down d + n * up d * down e) h in
      let p = plus_scaled (n * up d * down e) (m * up e * down d) c.units k.units one (down d * down e) (second_scaled m e c n d k) (first_scaled m e c n d k) in
      record {
        gap = k.units + c.units;
        some =
            nonzero (n * up d * down e + m * up e * down d) one (k.units + c.units) (down d * down e) (let z : 0 < n * up d * down e + m * up e * down d = omega arith in z) (pow_pos (low f)) p;
        is = omega arith;
        rounds = round_same f false (n * up d * down e + m * up e * down d) (down d * down e) (k.units + c.units) one (mul-pos (down_pos d) (down_pos e)) (pow_pos (low f)) p;
      }
  apart true m e c true n d k h =
      let w = ltb→lt (n * up d * down e) (m * up e * down d) h in
      let l = less n d k m e c w in
      let b = lt-ltb (n * up d * down e) (m * up e * down d) w in
      record {
        gap = c.units - k.units;
        some = omega arith;
        is = omega arith;
        rounds =
            rw b (round_same f false (m * up e * down d - n * up d * down e) (down d * down e) (c.units - k.units) one (mul-pos (down_pos d) (down_pos e)) (pow_pos (low f))
            (minus_scaled (m * up e * down d) (n * up d * down e) k.units c.units one (down d * down e) (first_scaled m e c n d k) (second_scaled m e c n d k) (omega arith) (omega arith)));
      }

  -- a gap of two doubles, one of which is above top × 2^r in size
  pub wide : (s : Bool) (X : ℕ) (t : Bool) (Y : ℕ) (x y : Float) (a : Apart s X t Y x y) → Short X → Short Y → (r : ℕ) → (top * 2 ^ r < X) ⊎ (top * 2 ^ r < Y) → 2 ^ r ≤ a.gap
  wide false X false Y x y a p q r h =
      let i = a.is in
      let g = a.some in
      let b = spaced X Y r p q (omega (arith, i, g)) (elim h [ inl u ↦ (let z : top * 2 ^ r < Y = omega (arith, u, i, g) in z) | inr u ↦ u ]) in
      omega (arith, b, i)
  wide true X true Y x y a p q r h =
      let i = a.is in
      let g = a.some in
      let b = spaced Y X r q p (omega (arith, i, g)) (elim h [ inl u ↦ u | inr u ↦ (let z : top * 2 ^ r < X = omega (arith, u, i, g) in z) ]) in
      omega (arith, b, i)
  wide true X false Y x y a p q r h =
      let i = a.is in
      let t = mul-le-mul_right (2 ^ r) (pow_pos (prec f - 1)) in
      elim h [ inl u ↦ omega (arith, u, i, t) | inr u ↦ omega (arith, u, i, t) ]
  wide false X true Y x y a p q r h = let i = a.is in let g = a.some in absurd (omega (arith, i, g))

  -- ---- a double from P units up against what is rounded
  module _ (j : ℕ) (g : ℤ) (q : Counted j g) (b : q.units < overflow f) where
    pub at_most_lem : (N : ℕ) → N ≤ q.units → T (le (near N) (fin false j g))
    at_most_lem N h =
        le_trans_float (near N) (near q.units) (fin false j g) (near_mono N q.units h)
        (le_of_values (near q.units) (fin false j g) q.units one q.units one (pow_pos (low f)) (pow_pos (low f)) (exact q.units q.short b) (has_value j g q) (le_refl (q.units * one)))

    pub at_least : (N : ℕ) → q.units ≤ N → T (le (fin false j g) (near N))
    at_least N h =
        le_trans_float (fin false j g) (near q.units) (near N)
        (le_of_values (fin false j g) (near q.units) q.units one q.units one (pow_pos (low f)) (pow_pos (low f)) (has_value j g q) (exact q.units q.short b) (le_refl (q.units * one)))
        (near_mono q.units N h)

  near_above : (N : ℕ) → NotBelow (near N)
  unfolding near
  near_above N = round_sign_false f N one

  from_below : (j : ℕ) (g : ℤ) (y : Float) → NotBelow y → T (le (fin true j g) y)
  from_below j g nan n = absurd n
  from_below j g (inf true) n = absurd (true≢false n)
  from_below j g (inf false) n = unfold le in tt
  from_below j g (fin true k c) n = absurd (true≢false n)
  from_below j g (fin false k c) n = to_fin true j g false k c tt

  turned : (j : ℕ) (g : ℤ) (y : Float) → NotBelow y → T (le y (fin false j g)) → T (le (fin true j g) (neg y))
  unfolding neg
  turned j g nan n h = absurd n
  turned j g (inf true) n h = absurd (true≢false n)
  turned j g (inf false) n h = absurd (unfold le in h)
  turned j g (fin true k c) n h = absurd (true≢false n)
  turned j g (fin false k c) n h = to_fin true j g true k c (of_fin false k c false j g h)

  -- ---- a rounded sum of x and y, y from 0 up: a double that is above it is above the sum
  module _ (m : ℕ) (e : ℤ) (c : Counted m e) (n : ℕ) (d : ℤ) (k : Counted n d) where
    abbrev A : ℕ
    A = m * up e * down d

    abbrev B : ℕ
    B = n * up d * down e

    not_less : B ≤ A → k.units ≤ c.units
    not_less h =
        le_of_mul-le-mul_right
        (transfer k.units c.units one one (n * up d) (m * up e) (down d) (down e) (down_pos d) (down_pos e) (sym k.value) (sym c.value) h) (pow_pos (low f))

    added : round f false (A + B) (down e * down d) ≡ near (c.units + k.units)
    unfolding near
    added =
        round_same f false (A + B) (down e * down d) (c.units + k.units) one (mul-pos (down_pos e) (down_pos d)) (pow_pos (low f))
        (plus_scaled A B k.units c.units one (down e * down d) (second_scaled n d k m e c) (first_scaled n d k m e c))

    rest_over : A ≤ B → c.units ≤ k.units → round f false (B - A) (down e * down d) ≡ near (k.units - c.units)
    unfolding near
    rest_over h g =
        round_same f false (B - A) (down e * down d) (k.units - c.units) one (mul-pos (down_pos e) (down_pos d)) (pow_pos (low f))
        (minus_scaled B A c.units k.units one (down e * down d) (first_scaled n d k m e c) (second_scaled n d k m e c) h g)

    rest_under : B ≤ A → round f false (A - B) (down e * down d) ≡ near (c.units - k.units)
    unfolding near
    rest_under h =
        round_same f false (A - B) (down e * down d) (c.units - k.units) one (mul-pos (down_pos e) (down_pos d)) (pow_pos (low f))
        (minus_scaled A B k.units c.units one (down e * down d) (second_scaled n d k m e c) (first_scaled n d k m e c) h (not_less h))

    module _ (j : ℕ) (g : ℤ) (q : Counted j g) (b : q.units < overflow f) where
      least-sum : (s u : Bool) → over u q.units + under s c.units ≤ over s c.units + k.units + under u q.units
          → T (le (fin u j g) (add f (fin s m e) (fin false n d)))
      unfolding add sum
      least-sum false false h = rw added (at_least j g q b (c.units + k.units) (omega arith))
      least-sum false true h = rw added (from_below j g (near (c.units + k.units)) (near_above (c.units + k.units)))
      least-sum true u h = go u h (ltb A B) (ltb B A) (ltb→lt A B) (nltb→le A B) (ltb→lt B A) (nltb→le B A)
        where
          go : (u : Bool) → over u q.units + c.units ≤ 0 + k.units + under u q.units → (x y : Bool) → (T x → A < B) → (T (not x) → B ≤ A) → (T y → B < A) → (T (not y) → A ≤ B)
              → T (le (fin u j g) (cond x (round f false (B - A) (down e * down d)) (round f (true && y) (A - B) (down e * down d))))
          go u h true y xl xr yl yr =
              let l = less m e c n d k (xl tt) in
              rw (rest_over (le_of_lt (xl tt)) (le_of_lt l)) (upper u h l)
            where
              upper : (u : Bool) → over u q.units + c.units ≤ 0 + k.units + under u q.units → c.units < k.units → T (le (fin u j g) (near (k.units - c.units)))
              upper false h l = at_least j g q b (k.units - c.units) (omega arith)
              upper true h l = from_below j g (near (k.units - c.units)) (near_above (k.units - c.units))
          go false h false true xl xr yl yr = let l = less n d k m e c (yl tt) in absurd (omega arith)
          go true h false true xl xr yl yr =
              rw (round_neg f (A - B) (down e * down d), rest_under (xr tt))
              (turned j g (near (c.units - k.units)) (near_above (c.units - k.units)) (at_most_lem j g q b (c.units - k.units) (omega arith)))
          go false h false false xl xr yl yr = let l = not_less (xr tt) in rw (rest_under (xr tt)) (at_least j g q b (c.units - k.units) (omega arith))
          go true h false false xl xr yl yr = rw (rest_under (xr tt)) (from_below j g (near (c.units - k.units)) (near_above (c.units - k.units)))

      pub above_sum : (s u : Bool) → T (lt (add f (fin s m e) (fin false n d)) (fin u j g)) → over s c.units + k.units + under u q.units < over u q.units + under s c.units
      above_sum s u h =
          dite (dec_lt (over s c.units + k.units + under u q.units) (over u q.units + under s c.units)) (λ z. z)
          (λ z. absurd (lt_not_le (add f (fin s m e) (fin false n d)) (fin u j g) h (least-sum s u (omega arith))))

  -- ---- Between the sum of k and P, rounded, and h there is no double m, if h − l, rounded, is no more than P, for an l below k.
  module _ (sl : Bool) (ml : ℕ) (el : ℤ) (cl : Counted ml el) (sk : Bool) (mk : ℕ) (ek : ℤ) (ck : Counted mk ek) (sm : Bool) (mm : ℕ) (em : ℤ) (cm : Counted mm em)
      (sh : Bool) (mh : ℕ) (eh : ℤ) (ch : Counted mh eh) (n : ℕ) (d : ℤ) (cp : Counted n d) (bm : cm.units < overflow f) (bp : 2 * cp.units + 1 < overflow f)
      (lk : T (lt (fin sl ml el) (fin sk mk ek))) (mh' : T (lt (fin sm mm em) (fin sh mh eh))) (lh : T (lt (fin sl ml el) (fin sh mh eh)))
      (past : T (lt (add f (fin sk mk ek) (fin false n d)) (fin sm mm em))) (long : T (le (sub f (fin sh mh eh) (fin sl ml el)) (fin false n d))) where
    g1 : Apart sl cl.units sk ck.units (fin sl ml el) (fin sk mk ek)
    g1 = apart sl ml el cl sk mk ek ck lk

    g2 : Apart sm cm.units sh ch.units (fin sm mm em) (fin sh mh eh)
    g2 = apart sm mm em cm sh mh eh ch mh'

    g3 : Apart sl cl.units sh ch.units (fin sl ml el) (fin sh mh eh)
    g3 = apart sl ml el cl sh mh eh ch lh

    abbrev t : ℕ
    t = step cp.units cp.short

    -- both gaps together are less than half a step of P
    little : 2 * (g1.gap + g2.gap + 1) ≤ 2 ^ t
    little =
        let a = half_above cp.units cp.short g3.gap (fin false n d) (has_value n d cp) bp (subst (λ (z : Float). T (le z (fin false n d))) g3.rounds long) in
        let b = above_sum mk ek ck n d cp mm em cm bm sk sm past in
        add_up g1.gap g2.gap g3.gap (over sl cl.units) (under sl cl.units) (over sk ck.units) (under sk ck.units) (over sm cm.units) (under sm cm.units)
        (over sh ch.units) (under sh ch.units) cp.units (2 ^ t) g1.is g2.is g3.is a b
      where
        add_up : (x y z lo lu ko ku mo mu ho hu P w : ℕ) → x + lo + ku ≡ ko + lu → y + mo + hu ≡ ho + mu → z + lo + hu ≡ ho + lu → 2 * z ≤ 2 * P + w → ko + P + mu < mo + ku → 2 * (x + y + 1) ≤ w
        add_up x y z lo lu ko ku mo mu ho hu P w a b c e g = omega arith

    some_step' : 0 < t
    some_step' =
        dite (dec_le 1 t) (λ h. h)
        (λ h. let q : t ≡ 0 = omega arith in let e : 2 ^ t ≡ 1 = ap (λ (z : ℕ). 2 ^ z) q in let a = little in absurd (omega (arith, a, e)))

    halved : 2 ^ t ≡ 2 * 2 ^ (t - 1)
    halved = let s = some_step' in let q : t ≡ 1 + (t - 1) = omega arith in ap (λ (z : ℕ). 2 ^ z) q ∙ pow-add 2 1 (t - 1)

    small_m : cm.units ≤ top * 2 ^ (t - 1)
    small_m =
        dite (dec_le cm.units (top * 2 ^ (t - 1))) (λ h. h)
        (λ h. let a = wide sm cm.units sh ch.units (fin sm mm em) (fin sh mh eh) g2 cm.short ch.short (t - 1) (inl (let z : top * 2 ^ (t - 1) < cm.units = omega arith in z)) in
        let b = little in
        let e = halved in
        absurd (omega (arith, a, b, e)))

    small_k : ck.units ≤ top * 2 ^ (t - 1)
    small_k =
        dite (dec_le ck.units (top * 2 ^ (t - 1))) (λ h. h)
        (λ h. let a = wide sl cl.units sk ck.units (fin sl ml el) (fin sk mk ek) g1 cl.short ck.short (t - 1) (inr (let z : top * 2 ^ (t - 1) < ck.units = omega arith in z)) in
        let b = little in
        let e = halved in
        absurd (omega (arith, a, b, e)))

    pub no_room : ⊥
    no_room =
        let a = full cp.units cp.short some_step' in
        let e : top * 2 ^ t ≡ 2 * (top * 2 ^ (t - 1)) = ap (λ (z : ℕ). top * z) halved ∙ sym (mul_assoc top 2 (2 ^ (t - 1))) ∙ ap (λ (z : ℕ). z * 2 ^ (t - 1)) (mul_comm top 2) ∙ mul_assoc 2 top (2 ^ (t - 1)) in
        let b = above_sum mk ek ck n d cp mm em cm bm sk sm past in
        let o = over_most sm cm.units in
        let u = under_most sk ck.units in
        let x = small_m in
        let y = small_k in
        none (over sk ck.units) cp.units (under sm cm.units) (over sm cm.units) (under sk ck.units) cm.units ck.units (top * 2 ^ (t - 1)) (top * 2 ^ t) b o u x y e a
      where
        none : (a P c d e M K B F : ℕ) → a + P + c < d + e → d ≤ M → e ≤ K → M ≤ B → K ≤ B → F ≡ 2 * B → F ≤ P → ⊥
        none a P c d e M K B F h1 h2 h3 h4 h5 h6 h7 = omega arith

  -- ---- sizes
  units_most : (C m : ℕ) (e : ℤ) (c : Counted m e) → m * up e ≤ C * down e → c.units ≤ C * one
  units_most C m e c h =
      le_of_mul-le-mul_right (le_trans (le_of_eq (sym c.value)) (le_trans (mul-le-mul_right one h) (le_of_eq (mul_right_comm C (down e) one)))) (down_pos e)

  below_overflow : (C : ℕ) → C ≤ 2 ^ 23 * one → C < overflow f
  below_overflow C h = lt_of_le_of_lt (le_trans h (le_of_eq (sym (pow-add 2 23 (low f))))) (pow-lt {i = 23 + low f} {j = low f + suc (emax f)} (room f))
    where
      room : (f : Format) → 23 + low f < low f + suc (emax f)
      room binary32 = lit< tt
      room binary64 = lit< tt

  -- the same of any doubles: o < k and P = k − o, rounded
  pub past_end : (o l k m h : Float) → T (fits f o) → T (fits f l) → T (fits f k) → T (fits f m) → T (fits f h) → Within (2 ^ 22) o → Within (2 ^ 22) l → Within (2 ^ 22) k → Within (2 ^ 22) m
      → Within (2 ^ 22) h → Within (2 ^ 21) (sub f k o) → T (lt o k) → T (lt l k) → T (lt m h) → T (lt l h) → T (lt (add f k (sub f k o)) m) → T (le (sub f h l) (sub f k o)) → ⊥
  past_end nan l k m h fo fl fk fm fh wo wl wk wm wh wp ok lk mh lh a b = wo
  past_end (inf s) l k m h fo fl fk fm fh wo wl wk wm wh wp ok lk mh lh a b = wo
  past_end (fin s n d) nan k m h fo fl fk fm fh wo wl wk wm wh wp ok lk mh lh a b = wl
  past_end (fin s n d) (inf t) k m h fo fl fk fm fh wo wl wk wm wh wp ok lk mh lh a b = wl
  past_end (fin s n d) (fin sl ml el) nan m h fo fl fk fm fh wo wl wk wm wh wp ok lk mh lh a b = wk
  past_end (fin s n d) (fin sl ml el) (inf t) m h fo fl fk fm fh wo wl wk wm wh wp ok lk mh lh a b = wk
  past_end (fin s n d) (fin sl ml el) (fin sk mk ek) nan h fo fl fk fm fh wo wl wk wm wh wp ok lk mh lh a b = wm
  past_end (fin s n d) (fin sl ml el) (fin sk mk ek) (inf t) h fo fl fk fm fh wo wl wk wm wh wp ok lk mh lh a b = wm
  past_end (fin s n d) (fin sl ml el) (fin sk mk ek) (fin sm mm em) nan fo fl fk fm fh wo wl wk wm wh wp ok lk mh lh a b = wh
  past_end (fin s n d) (fin sl ml el) (fin sk mk ek) (fin sm mm em) (inf t) fo fl fk fm fh wo wl wk wm wh wp ok lk mh lh a b = wh
  past_end (fin s n d) (fin sl ml el) (fin sk mk ek) (fin sm mm em) (fin sh q eh) fo fl fk fm fh wo wl wk wm wh wp ok lk mh lh a b =
      go (sub f (fin sk mk ek) (fin s n d)) (sub-fits f (fin sk mk ek) (fin s n d)) wp
      (subst NotBelow (sym (apart s n d (counted s n d fo) sk mk ek (counted sk mk ek fk) ok).rounds) (near_above (apart s n d (counted s n d fo) sk mk ek (counted sk mk ek fk) ok).gap)) a b
    where
      go : (P : Float) → T (fits f P) → Within (2 ^ 21) P → NotBelow P → T (lt (add f (fin sk mk ek) P) (fin sm mm em)) → T (le (sub f (fin sh q eh) (fin sl ml el)) P) → ⊥
      go nan fp w p a b = w
      go (inf t) fp w p a b = w
      go (fin true j g) fp w p a b = true≢false p
      go (fin false j g) fp w p a b =
          let cm = counted sm mm em fm in
          let cp = counted false j g fp in
          let x = units_most (2 ^ 22) mm em cm wm in
          let y = units_most (2 ^ 21) j g cp w in
          let z = pow_pos (low f) in
          no_room sl ml el (counted sl ml el fl) sk mk ek (counted sk mk ek fk) sm mm em cm sh q eh (counted sh q eh fh) j g cp
          (below_overflow cm.units (most cm.units one x)) (below_overflow (2 * cp.units + 1) (more cp.units one z y)) lk mh lh a b
        where
          most : (a o : ℕ) → a ≤ 2 ^ 22 * o → a ≤ 2 ^ 23 * o
          most a o h = omega arith

          more : (a o : ℕ) → 0 < o → a ≤ 2 ^ 21 * o → 2 * a + 1 ≤ 2 ^ 23 * o
          more a o p h = omega arith
