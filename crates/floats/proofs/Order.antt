-- The order of floats: `le` is reflexive and total where no NaN stands, and transitive everywhere; least and greatest bound both. Assumes nothing.
use mathlib.Core.Path.{◌≡◌, refl, ap, sym, ◌∙◌, subst}
use mathlib.Core.Logic.{◌⊎◌, inl, inr}
use mathlib.Core.Bool.{Bool, true, false, not, ◌&&◌, ◌||◌, cond}
use Prim.Native.Nat.{ℕ, zero, suc, ◌+◌, ◌*◌, ◌≤◌, ◌<◌}
use native.Mathlib.Nat.{le_of_eq, le_of_lt, zero-mul, mul-pos, eq-or-lt_of_le}
use native.Mathlib.Omega.{arith}
use lib.Dec.{T, leb, ltb, eqb, leb→le, nleb→lt, ltb→lt, lt→ltb, eqb→eq, eqb_refl}
use lib.Ieee.{Float, nan, inf, fin, up, down, lt, eq, le}
use lib.Ieee.Fits.{down_pos, and_l, and_r, and_i, eq→eqb}
use lib.Ieee.Positive.{through}
use lib.Ieee.Bits.{is_true}
use Rattle.floats.specs.Floats.{least, greatest, Skips, Extremes}
use Rattle.floats.specs.Sizes.{Number}

-- ±a ≤ ±b
abbrev pub Le : Bool → ℕ → Bool → ℕ → Type 0
Le false a false b = a ≤ b
Le false a true b = (a ≡ 0) × (b ≡ 0)
Le true a false b = Unit {0}
Le true a true b = b ≤ a

or_split : (a b : Bool) → T (a || b) → T a ⊎ T b
or_split true b t = inl tt
or_split false b t = inr t

or_l : (a b : Bool) → T a → T (a || b)
or_l true b t = tt
or_l false b t = absurd t

or_r : (a b : Bool) → T b → T (a || b)
or_r true b t = tt
or_r false b t = t

of_test : (a b : ℕ) → T (ltb a b || (eqb a b && true)) → a ≤ b
of_test a b t = elim (or_split (ltb a b) (eqb a b && true) t) [ inl u ↦ le_of_lt (ltb→lt a b u) | inr u ↦ le_of_eq (eqb→eq a b (and_l (eqb a b) true u)) ]

to_test : (a b : ℕ) → a ≤ b → T (ltb a b || (eqb a b && true))
to_test a b h =
    elim (eq-or-lt_of_le h)
    [ inl p ↦ or_r (ltb a b) (eqb a b && true) (and_i (eqb a b) true (eq→eqb p) tt) | inr q ↦ or_l (ltb a b) (eqb a b && true) (lt→ltb a b q) ]

pub of_fin : (s : Bool) (m : ℕ) (e : lib.IntN.ℤ) (t : Bool) (n : ℕ) (d : lib.IntN.ℤ) → T (le (fin s m e) (fin t n d)) → Le s (m * up e * down d) t (n * up d * down e)
unfolding le
of_fin false m e false n d h = of_test (m * up e * down d) (n * up d * down e) h
of_fin false m e true n d h =
    let a : m * up e * down d
    ≡ n * up d * down e = eqb→eq (m * up e * down d) (n * up d * down e)
    (and_l (eqb (m * up e * down d) (n * up d * down e)) (eqb (m * up e * down d) 0) h) in
    let b : m * up e * down d ≡ 0 = eqb→eq (m * up e * down d) 0 (and_r (eqb (m * up e * down d) (n * up d * down e)) (eqb (m * up e * down d) 0) h) in
    (b, sym a ∙ b)
of_fin true m e false n d h = tt
of_fin true m e true n d h = go (m * up e * down d) (n * up d * down e) h
  where
    go : (a b : ℕ) → T (ltb b a || (eqb a b && true)) → b ≤ a
    go a b t = elim (or_split (ltb b a) (eqb a b && true) t) [ inl u ↦ le_of_lt (ltb→lt b a u) | inr u ↦ le_of_eq (sym (eqb→eq a b (and_l (eqb a b) true u))) ]

pub to_fin : (s : Bool) (m : ℕ) (e : lib.IntN.ℤ) (t : Bool) (n : ℕ) (d : lib.IntN.ℤ) → Le s (m * up e * down d) t (n * up d * down e) → T (le (fin s m e) (fin t n d))
unfolding le
to_fin false m e false n d h = to_test (m * up e * down d) (n * up d * down e) h
to_fin false m e true n d h =
    and_i (eqb (m * up e * down d) (n * up d * down e)) (eqb (m * up e * down d) 0) (eq→eqb (h.0 ∙ sym h.1)) (eq→eqb h.0)
to_fin true m e false n d h = go (m * up e * down d) (n * up d * down e)
  where
    go : (a b : ℕ) → T (ltb 0 (a + b) || (eqb a b && (false || eqb a 0)))
    go zero zero = tt
    go zero (suc b) = or_l (ltb 0 (zero + suc b)) (eqb zero (suc b) && (false || eqb zero 0)) (lt→ltb 0 (zero + suc b) (omega arith))
    go (suc a) b = or_l (ltb 0 (suc a + b)) (eqb (suc a) b && (false || eqb (suc a) 0)) (lt→ltb 0 (suc a + b) (omega arith))
to_fin true m e true n d h = go (m * up e * down d) (n * up d * down e) h
  where
    go : (a b : ℕ) → b ≤ a → T (ltb b a || (eqb a b && true))
    go a b h =
        elim (eq-or-lt_of_le h) [
          | inl p ↦ or_r (ltb b a) (eqb a b && true) (and_i (eqb a b) true (eq→eqb (sym p)) tt)
          | inr q ↦ or_l (ltb b a)
              (eqb a b && true) (lt→ltb b a q)
        ]

-- ---- total and reflexive
le_or : (a b : ℕ) → (a ≤ b) ⊎ (b ≤ a)
le_or a b = go (leb a b) (leb→le a b) (nleb→lt a b)
  where
    go : (x : Bool) → (T x → a ≤ b) → (T (not x) → b < a) → (a ≤ b) ⊎ (b ≤ a)
    go true f g = inl (f tt)
    go false f g = inr (le_of_lt (g tt))

pub le_total : (x y : Float) → Number x → Number y → T (le x y) ⊎ T (le y x)
unfolding le
le_total nan y p q = absurd p
le_total (inf s) nan p q = absurd q
le_total (inf true) (inf true) p q = inl tt
le_total (inf true) (inf false) p q = inl tt
le_total (inf false) (inf true) p q = inr tt
le_total (inf false) (inf false) p q = inl tt
le_total (inf true) (fin t n d) p q = inl tt
le_total (inf false) (fin t n d) p q = inr tt
le_total (fin s m e) nan p q = absurd q
le_total (fin s m e) (inf true) p q = inr tt
le_total (fin s m e) (inf false) p q = inl tt
le_total (fin false m e) (fin false n d) p q =
    elim (le_or (m * up e * down d) (n * up d * down e)) [ inl h ↦ inl (to_fin false m e false n d h) | inr h ↦ inr (to_fin false n d false m e h) ]
le_total (fin false m e) (fin true n d) p q = inr (to_fin true n d false m e tt)
le_total (fin true m e) (fin false n d) p q = inl (to_fin true m e false n d tt)
le_total (fin true m e) (fin true n d) p q =
    elim (le_or (m * up e * down d) (n * up d * down e)) [ inl h ↦ inr (to_fin true n d true m e h) | inr h ↦ inl (to_fin true m e true n d h) ]

pub le_self : (x : Float) → Number x → T (le x x)
le_self x p = elim (le_total x x p p) [ inl h ↦ h | inr h ↦ h ]

-- ---- transitive
pub left_number : (x y : Float) → T (le x y) → Number x
unfolding le
left_number nan y h = h
left_number (inf s) y h = tt
left_number (fin s m e) y h = tt

pub right_number : (x y : Float) → T (le x y) → Number y
unfolding le
right_number nan y h = absurd h
right_number (inf s) nan h = h
right_number (fin s m e) nan h = h
right_number (inf s) (inf t) h = tt
right_number (fin s m e) (inf t) h = tt
right_number (inf s) (fin t n d) h = tt
right_number (fin s m e) (fin t n d) h = tt

zero_of : (a c : ℕ) → 0 < c → a * c ≡ 0 → a ≡ 0
zero_of zero c h e = refl
zero_of (suc a) c h e = absurd (let z : 0 < suc a * c = mul-pos (omega arith) h in omega arith)

trans_fin : (s t w : Bool) (x y z p q r : ℕ) → 0 < p → 0 < q → 0 < r → Le s (x * q) t (y * p) → Le t (y * r) w (z * q) → Le s (x * r) w (z * p)
trans_fin false false false x y z p q r P Q R h k = through x y z p q r Q h k
trans_fin false false true x y z p q r P Q R h k =
    let y0 : y ≡ 0 = zero_of y r R k.0 in
    let z0 : z ≡ 0 = zero_of z q Q k.1 in
    let x0 : x ≡ 0 = zero_of x q Q (let u : y * p ≡ 0 = ap (λ (n : ℕ). n * p) y0 ∙ zero-mul p in omega arith) in
    (ap (λ (n : ℕ). n * r) x0 ∙ zero-mul r, ap (λ (n : ℕ). n * p) z0 ∙ zero-mul p)
trans_fin false true false x y z p q r P Q R h k = let x0 : x * r ≡ 0 = ap (λ (n : ℕ). n * r) (zero_of x q Q h.0) ∙ zero-mul r in omega arith
trans_fin false true true x y z p q r P Q R h k =
    let y0 : y * r ≡ 0 = ap (λ (n : ℕ). n * r) (zero_of y p P h.1) ∙ zero-mul r in
    (ap (λ (n : ℕ). n * r) (zero_of x q Q h.0) ∙ zero-mul r, ap (λ (n : ℕ). n * p) (zero_of z q Q (omega arith)) ∙ zero-mul p)
trans_fin true false false x y z p q r P Q R h k = tt
trans_fin true false true x y z p q r P Q R h k = let z0 : z * p ≡ 0 = ap (λ (n : ℕ). n * p) (zero_of z q Q k.1) ∙ zero-mul p in omega arith
trans_fin true true false x y z p q r P Q R h k = tt
trans_fin true true true x y z p q r P Q R h k = through z y x r q p Q k h

pub le_trans_float : (x y z : Float) → T (le x y) → T (le y z) → T (le x z)
unfolding le
le_trans_float nan y z h k = absurd h
le_trans_float (inf true) y nan h k = absurd (right_number y nan k)
le_trans_float (inf true) y (inf true) h k = tt
le_trans_float (inf true) y (inf false) h k = tt
le_trans_float (inf true) y (fin w z r) h k = tt
le_trans_float (inf false) nan z h k = absurd h
le_trans_float (inf false) (inf true) z h k = absurd h
le_trans_float (inf false) (inf false) z h k = k
le_trans_float (inf false) (fin t n d) z h k = absurd h
le_trans_float (fin s m e) nan z h k = absurd h
le_trans_float (fin s m e) (inf true) z h k = absurd h
le_trans_float (fin s m e) (inf false) nan h k = absurd k
le_trans_float (fin s m e) (inf false) (inf true) h k = absurd k
le_trans_float (fin s m e) (inf false) (inf false) h k = tt
le_trans_float (fin s m e) (inf false) (fin w z r) h k = absurd k
le_trans_float (fin s m e) (fin t n d) nan h k = absurd k
le_trans_float (fin s m e) (fin t n d) (inf true) h k = absurd k
le_trans_float (fin s m e) (fin t n d) (inf false) h k = tt
le_trans_float (fin s m e) (fin t n d) (fin w z r) h k =
    to_fin s m e w z r
    (trans_fin s t w (m * up e) (n * up d) (z * up r) (down e) (down d) (down r) (down_pos e) (down_pos d) (down_pos r) (of_fin s m e t n d h) (of_fin t n d w z r k))

-- ---- least and greatest of two numbers bound both, and are numbers
pub eq_self : (x : Float) → Number x → T (eq x x)
unfolding eq
eq_self nan p = absurd p
eq_self (inf true) p = tt
eq_self (inf false) p = tt
eq_self (fin true m e) p = and_i (eqb (m * up e * down e) (m * up e * down e)) true (eqb_refl (m * up e * down e)) tt
eq_self (fin false m e) p = and_i (eqb (m * up e * down e) (m * up e * down e)) true (eqb_refl (m * up e * down e)) tt

-- of two numbers not in order one way, the other way
other_way : (x y : Float) → Number x → Number y → le x y ≡ false → T (le y x)
other_way x y p q e = elim (le_total x y p q) [ inl h ↦ absurd (subst T e h) | inr h ↦ h ]

-- a NaN is skipped
pub least_skips : (x : Float) → (least x nan ≡ x) × (least nan x ≡ x)
unfolding least le lt eq
least_skips nan = (refl, refl)
least_skips (inf true) = (refl, refl)
least_skips (inf false) = (refl, refl)
least_skips (fin s m e) = (refl, rw (is_true (eq (fin s m e) (fin s m e)) (eq_self (fin s m e) tt)) refl)

pub greatest_skips : (x : Float) → (greatest x nan ≡ x) × (greatest nan x ≡ x)
unfolding greatest le lt eq
greatest_skips nan = (refl, refl)
greatest_skips (inf true) = (refl, refl)
greatest_skips (inf false) = (refl, refl)
greatest_skips (fin s m e) = (refl, rw (is_true (eq (fin s m e) (fin s m e)) (eq_self (fin s m e) tt)) refl)

pub skips : Skips
skips x = ((least_skips x).0, (least_skips x).1, (greatest_skips x).0, (greatest_skips x).1)

pub record Least (x y z : Float) : Type 0 where
  pub left : T (le z x)
  pub right : T (le z y)
  pub number : Number z

pub least_is : (x y : Float) → Number x → Number y → Least x y (least x y)
unfolding least
least_is x y p q = go (le x y) (eq y y) refl refl
  where
    go : (b c : Bool) → le x y ≡ b → eq y y ≡ c → Least x y (cond b x (cond c y x))
    go true c e f = record { left = le_self x p; right = subst T (sym e) tt; number = p }
    go false true e f = record { left = other_way x y p q e; right = le_self y q; number = q }
    go false false e f = absurd (subst T f (eq_self y q))

pub record Greatest (x y z : Float) : Type 0 where
  pub left : T (le x z)
  pub right : T (le y z)
  pub number : Number z

pub greatest_is : (x y : Float) → Number x → Number y → Greatest x y (greatest x y)
unfolding greatest
greatest_is x y p q = go (le y x) (eq y y) refl refl
  where
    go : (b c : Bool) → le y x ≡ b → eq y y ≡ c → Greatest x y (cond b x (cond c y x))
    go true c e f = record { left = le_self x p; right = subst T (sym e) tt; number = p }
    go false true e f = record { left = other_way y x q p e; right = le_self y q; number = q }
    go false false e f = absurd (subst T f (eq_self y q))

-- either is the first or the second, whatever the two tests give
one_of : (x y : Float) (b c : Bool) → (cond b x (cond c y x) ≡ x) ⊎ (cond b x (cond c y x) ≡ y)
one_of x y true c = inl refl
one_of x y false true = inr refl
one_of x y false false = inl refl

pub extremes : Extremes
unfolding least greatest
extremes x y p q =
    let l = least_is x y p q in
    let g = greatest_is x y p q in
    ((l.left, l.right, one_of x y (le x y) (eq y y)), (g.left, g.right, one_of x y (le y x) (eq y y)))
