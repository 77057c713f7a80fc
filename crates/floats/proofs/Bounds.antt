-- A root against a bound, told by squares: x < t × t, rounded, puts the root of x at t or below; r < t and t × t < x, rounded, put it above r.
-- Both follow from the root's being nearest, and from rounding's keeping the order. Assumes nothing.
use mathlib.Core.Path.{◌≡◌, refl, ap, sym, ◌∙◌, subst}
use mathlib.Core.Logic.{dite}
use mathlib.Core.Bool.{Bool, true, false, true≢false}
use Prim.Native.Nat.{ℕ, suc, ◌+◌, ◌*◌, ◌^◌, ◌≤◌, ◌<◌}
use native.Mathlib.Nat.{le_of_lt, mul-pos, mul-le-mul, mul-le-mul_right, lt_of_mul-lt-mul_right}
use native.Mathlib.Decide.{dec_le}
use native.Mathlib.Omega.{arith}
use lib.IntN.{ℤ, pos}
use lib.Dec.{T, ltb→lt}
use lib.Ieee.{Float, nan, inf, fin, Format, binary64, low, emax, up, down, fits, round, sum, add, mul, lt, le, of_bits}
use lib.Ieee.Bits.{is_true}
use lib.Ieee.Fits.{down_pos, add-fits}
use lib.Ieee.Exact.{HasValue, round_exact}
use lib.Ieee.Order.{round_mono, le_of_values}
use Rattle.roots.specs.Root.{root_in, root_of}
use Rattle.roots.specs.Nearest.{BelowHalfWay, AboveHalfWay}
use Rattle.roots.proofs.Held.{held}
use Rattle.roots.proofs.Nearest.{root_nearest}
use Rattle.roots.proofs.Mono.{root_mono}
use Rattle.floats.specs.declared.Vector3D.{Vector3D}
use Rattle.floats.specs.Floats.{zero64}
use Rattle.floats.specs.Vectors.{dot_of, norm_of}
use Rattle.floats.proofs.Order.{of_fin, to_fin, le_trans_float}
use Rattle.floats.proofs.Middle.{NotBelow, round_sign_false}

-- ---- what is less is not at most

pub lt_not_le : (x y : Float) → T (lt x y) → T (le y x) → ⊥
unfolding lt le
lt_not_le nan y h k = absurd h
lt_not_le (inf s) nan h k = absurd h
lt_not_le (inf true) (inf true) h k = absurd h
lt_not_le (inf true) (inf false) h k = absurd k
lt_not_le (inf false) (inf t) h k = absurd h
lt_not_le (inf true) (fin t n d) h k = absurd k
lt_not_le (inf false) (fin t n d) h k = absurd h
lt_not_le (fin s m e) nan h k = absurd h
lt_not_le (fin s m e) (inf true) h k = absurd h
lt_not_le (fin s m e) (inf false) h k = absurd k
lt_not_le (fin false m e) (fin true n d) h k = absurd h
lt_not_le (fin false m e) (fin false n d) h k = let a = ltb→lt (m * up e * down d) (n * up d * down e) h in let b = of_fin false n d false m e k in omega arith
lt_not_le (fin true m e) (fin false n d) h k =
    let a = ltb→lt 0 (m * up e * down d + n * up d * down e) h in let b = of_fin false n d true m e k in omega (arith, b.0, b.1)
lt_not_le (fin true m e) (fin true n d) h k = let a = ltb→lt (n * up d * down e) (m * up e * down d) h in let b = of_fin true n d true m e k in omega arith

pub none_above : (y : Float) → T (lt (inf false) y) → ⊥
unfolding lt
none_above nan h = absurd h
none_above (inf t) h = absurd h
none_above (fin t n d) h = absurd h

pub none_below_nan : (y : Float) → T (lt y nan) → ⊥
unfolding lt
none_below_nan nan h = absurd h
none_below_nan (inf t) h = absurd h
none_below_nan (fin t n d) h = absurd h

none_below : (y : Float) → T (lt y (inf true)) → ⊥
unfolding lt
none_below nan h = absurd h
none_below (inf true) h = absurd h
none_below (inf false) h = absurd h
none_below (fin t n d) h = absurd h

-- ---- a value that the format holds, against a rounded fraction

exact : (f : Format) (m : ℕ) (e : ℤ) → T (fits f (fin false m e)) → HasValue (round f false (m * up e) (down e)) false (m * up e) (down e)
exact f m e t =
    let h = held f false m e t in
    round_exact f false (m * up e) (down e) m h.zeros (down_pos e) h.few
    (subst (λ (x : ℕ). x < 2 ^ (low f + suc (emax f))) h.form h.small)
    (h.value ∙ ap (λ (x : ℕ). x * down e) h.form)

held_le : (f : Format) (m : ℕ) (e : ℤ) (a c : ℕ) → T (fits f (fin false m e)) → 0 < c → m * up e * c ≤ a * down e → T (le (fin false m e) (round f false a c))
held_le f m e a c t C h =
    le_trans_float (fin false m e) (round f false (m * up e) (down e)) (round f false a c)
    (le_of_values (fin false m e) (round f false (m * up e) (down e)) (m * up e) (down e) (m * up e) (down e) (down_pos e) (down_pos e) (refl, refl)
    (exact f m e t) (omega arith))
    (round_mono f (m * up e) (down e) a c (down_pos e) C h)

le_held : (f : Format) (m : ℕ) (e : ℤ) (a c : ℕ) → T (fits f (fin false m e)) → 0 < c → a * down e ≤ m * up e * c → T (le (round f false a c) (fin false m e))
le_held f m e a c t C h =
    le_trans_float (round f false a c) (round f false (m * up e) (down e)) (fin false m e)
    (round_mono f a c (m * up e) (down e) C (down_pos e) h)
    (le_of_values (round f false (m * up e) (down e)) (fin false m e) (m * up e) (down e) (m * up e) (down e) (down_pos e) (down_pos e)
    (exact f m e t) (refl, refl) (omega arith))

-- ---- half way points and squares

below_square : (a b c d e g : ℕ) → 0 < d → BelowHalfWay a b c d e g → c * g < e * d → a * (g * g) < e * e * b
below_square a b c d e g D h l =
    let s : c * g + e * d ≤ e * d + e * d = omega arith in
    let q = mul-le-mul_right b (mul-le-mul s s) in
    lt_of_mul-lt-mul_right (d * d) (omega arith)

above_square : (a b c d e g : ℕ) → 0 < d → AboveHalfWay a b c d e g → e * d < c * g → e * e * b < a * (g * g)
above_square a b c d e g D h l =
    let s : e * d + e * d ≤ c * g + e * d = omega arith in
    let q = mul-le-mul_right b (mul-le-mul s s) in
    lt_of_mul-lt-mul_right (d * d) (omega arith)

-- ---- above 0 and below t × t: the root is at most t

abbrev pub nil : Float
nil = fin false 0 (pos 0)

root_inside : (f : Format) (m : ℕ) (e : ℤ) (n : ℕ) (d : ℤ) → T (fits f (fin false m e)) → T (fits f (fin false n d))
    → T (lt (fin false m e) (mul f (fin false n d) (fin false n d)))
    → T (le (root_in f (fin false m e)) (fin false n d))
unfolding mul
root_inside f m e n d p q h =
    let a = root_nearest f m e p in
    rw a.is
    (dite (dec_le (a.n * up a.d * down d) (n * up d * down a.d)) (λ k. to_fin false a.n a.d false n d k)
    (λ k. let w : n * up d * down a.d < a.n * up a.d * down d = omega arith in
    let s = above_square (m * up e) (down e) (a.n * up a.d) (down a.d) (n * up d) (down d) (down_pos a.d) (a.near.below n d q w) w in
    absurd (lt_not_le (fin false m e) (round f false (n * up d * (n * up d)) (down d * down d)) h
    (le_held f m e (n * up d * (n * up d)) (down d * down d) p (mul-pos (down_pos d) (down_pos d)) (le_of_lt s)))))

pub inside : (f : Format) (x t : Float) → T (fits f x) → T (fits f t) → T (lt nil x) → T (lt nil t) → T (lt x (mul f t t)) → T (le (root_in f x) t)
unfolding lt
inside f nan t p q u v h = absurd u
inside f (inf true) t p q u v h = absurd u
inside f (inf false) t p q u v h = absurd (none_above (mul f t t) h)
inside f (fin true m e) t p q u v h = absurd u
inside f (fin false m e) nan p q u v h = absurd v
inside f (fin false m e) (inf true) p q u v h = absurd v
inside f (fin false m e) (inf false) p q u v h = let a = root_nearest f m e p in rw a.is (unfold le in tt)
inside f (fin false m e) (fin true n d) p q u v h = absurd v
inside f (fin false m e) (fin false n d) p q u v h = root_inside f m e n d p q h

-- ---- r < t and t × t below x: the root is above r

-- a square is never less than a zero
no_less : (y : Float) (m : ℕ) (e : ℤ) → NotBelow y → T (lt y (fin true m e)) → ⊥
unfolding lt
no_less nan m e p h = absurd p
no_less (inf true) m e p h = absurd (true≢false p)
no_less (inf false) m e p h = absurd h
no_less (fin true n d) m e p h = absurd (true≢false p)
no_less (fin false n d) m e p h = absurd h

square_not_less : (f : Format) (t : Float) (m : ℕ) (e : ℤ) → T (lt (mul f t t) (fin true m e)) → ⊥
unfolding mul
square_not_less f nan m e h = absurd (unfold lt in h)
square_not_less f (inf true) m e h = none_above (fin true m e) h
square_not_less f (inf false) m e h = none_above (fin true m e) h
square_not_less f (fin true n d) m e h =
    no_less (round f false (n * up d * (n * up d)) (down d * down d)) m e (round_sign_false f (n * up d * (n * up d)) (down d * down d)) h
square_not_less f (fin false n d) m e h =
    no_less (round f false (n * up d * (n * up d)) (down d * down d)) m e (round_sign_false f (n * up d * (n * up d)) (down d * down d)) h

root_outside : (f : Format) (m : ℕ) (e : ℤ) (r t : Float) → T (fits f (fin false m e)) → T (fits f t) → T (lt r t)
    → T (lt (mul f t t) (fin false m e)) → T (le (root_in f (fin false m e)) r) → ⊥
unfolding mul
root_outside f m e r nan p q u h k = none_below_nan r u
root_outside f m e r (inf true) p q u h k = none_above (fin false m e) h
root_outside f m e r (inf false) p q u h k = none_above (fin false m e) h
root_outside f m e r (fin true n d) p q u h k =
    let a = root_nearest f m e p in
    lt_not_le r (fin true n d) u (le_trans_float (fin true n d) (fin false a.n a.d) r (to_fin true n d false a.n a.d tt) (rw a.is at k))
root_outside f m e r (fin false n d) p q u h k =
    let a = root_nearest f m e p in
    dite (dec_le (n * up d * down a.d) (a.n * up a.d * down d))
    (λ l. lt_not_le r (fin false n d) u (le_trans_float (fin false n d) (fin false a.n a.d) r (to_fin false n d false a.n a.d l) (rw a.is at k)))
    (λ l. let w : a.n * up a.d * down d < n * up d * down a.d = omega arith in
    let s = below_square (m * up e) (down e) (a.n * up a.d) (down a.d) (n * up d) (down d) (down_pos a.d) (a.near.above n d q w) w in
    lt_not_le (round f false (n * up d * (n * up d)) (down d * down d)) (fin false m e) h
    (held_le f m e (n * up d * (n * up d)) (down d * down d) p (mul-pos (down_pos d) (down_pos d)) (le_of_lt s)))

pub outside : (f : Format) (x r t : Float) → T (fits f x) → T (fits f t) → T (lt r t) → T (lt (mul f t t) x) → T (le (root_in f x) r) → ⊥
unfolding root_in
outside f nan r t p q u h k = none_below_nan (mul f t t) h
outside f (inf true) r t p q u h k = none_below (mul f t t) h
outside f (inf false) nan t p q u h k = absurd (unfold le in k)
outside f (inf false) (inf true) t p q u h k = absurd (unfold le in k)
outside f (inf false) (inf false) t p q u h k = none_above t u
outside f (inf false) (fin s n d) t p q u h k = absurd (unfold le in k)
outside f (fin true m e) r t p q u h k = square_not_less f t m e h
outside f (fin false m e) r t p q u h k = root_outside f m e r t p q u h k

-- ---- as equations of doubles

pub is_false : (b : Bool) → (T b → ⊥) → b ≡ false
is_false true h = absurd (h tt)
is_false false h = refl

pub inside_is : (x t : Float) → T (fits binary64 x) → T (fits binary64 t) → lt zero64 x ≡ true → lt zero64 t ≡ true → lt x (mul binary64 t t) ≡ true
    → true ≡ le (root_of x) t
unfolding of_bits
inside_is x t p q u v h = sym (is_true (le (root_of x) t) (inside binary64 x t p q (subst T (sym u) tt) (subst T (sym v) tt) (subst T (sym h) tt)))

pub outside_is : (x r t : Float) → T (fits binary64 x) → T (fits binary64 t) → lt r t ≡ true → lt (mul binary64 t t) x ≡ true → false ≡ le (root_of x) r
outside_is x r t p q u h = sym (is_false (le (root_of x) r) (outside binary64 x r t p q (subst T (sym u) tt) (subst T (sym h) tt)))

roots_apart : (x y t u : Float) → T (fits binary64 x) → T (fits binary64 y) → T (fits binary64 t) → T (fits binary64 u)
    → lt zero64 y ≡ true → lt zero64 t ≡ true → lt y (mul binary64 t t) ≡ true → lt t u ≡ true → lt (mul binary64 u u) x ≡ true → false ≡ le (root_of x) (root_of y)
roots_apart x y t u p q v w a b c d e =
    sym (is_false (le (root_of x) (root_of y))
    (λ h. outside binary64 x t u p w (subst T (sym d) tt) (subst T (sym e) tt) (le_trans_float (root_of x) (root_of y) t h (subst T (inside_is y t q v a b c) tt))))

-- ---- the sum of three squares is a NaN or not below 0, so that the root keeps the order of two such sums

abbrev pub Square : Float → Type 0
Square nan = Unit {0}
Square (inf s) = s ≡ false
Square (fin s m e) = s ≡ false

of_not_below : (x : Float) → NotBelow x → Square x
of_not_below nan h = absurd h
of_not_below (inf s) h = h
of_not_below (fin s m e) h = h

mul_square : (x : Float) → Square (mul binary64 x x)
unfolding mul
mul_square nan = tt
mul_square (inf true) = refl
mul_square (inf false) = refl
mul_square (fin true m e) =
    of_not_below (round binary64 false (m * up e * (m * up e)) (down e * down e))
    (round_sign_false binary64 (m * up e * (m * up e)) (down e * down e))
mul_square (fin false m e) =
    of_not_below (round binary64 false (m * up e * (m * up e)) (down e * down e))
    (round_sign_false binary64 (m * up e * (m * up e)) (down e * down e))

add_square : (x y : Float) → Square x → Square y → Square (add binary64 x y)
unfolding add sum
add_square nan y p q = tt
add_square (inf s) nan p q = tt
add_square (inf true) (inf t) p q = absurd (true≢false p)
add_square (inf false) (inf true) p q = absurd (true≢false q)
add_square (inf false) (inf false) p q = refl
add_square (inf s) (fin t n d) p q = p
add_square (fin s m e) nan p q = tt
add_square (fin s m e) (inf t) p q = q
add_square (fin true m e) (fin t n d) p q = absurd (true≢false p)
add_square (fin false m e) (fin true n d) p q = absurd (true≢false q)
add_square (fin false m e) (fin false n d) p q =
    of_not_below (round binary64 false (m * up e * down d + n * up d * down e) (down e * down d))
    (round_sign_false binary64 (m * up e * down d + n * up d * down e) (down e * down d))

pub dot_square : (a : Vector3D) → Square (dot_of a a)
unfolding dot_of
dot_square a =
    add_square (add binary64 (mul binary64 a.x a.x) (mul binary64 a.y a.y)) (mul binary64 a.z a.z)
    (add_square (mul binary64 a.x a.x) (mul binary64 a.y a.y) (mul_square a.x) (mul_square a.y)) (mul_square a.z)

pub dot_fits : (a b : Vector3D) → T (fits binary64 (dot_of a b))
unfolding dot_of
dot_fits a b = add-fits binary64 (add binary64 (mul binary64 a.x b.x) (mul binary64 a.y b.y)) (mul binary64 a.z b.z)

not_negative : (x y : Float) → Square x → T (le x y) → T (le nil x)
unfolding le
not_negative nan y p h = absurd h
not_negative (inf true) y p h = absurd (true≢false p)
not_negative (inf false) y p h = tt
not_negative (fin true m e) y p h = absurd (true≢false p)
not_negative (fin false m e) y p h = to_fin false 0 (pos 0) false m e (omega arith)

pub no_longer_is : (a b : Vector3D) → le (dot_of a a) (dot_of b b) ≡ true → true ≡ le (norm_of a) (norm_of b)
unfolding norm_of
no_longer_is a b h =
    let l : T (le (dot_of a a) (dot_of b b)) = subst T (sym h) tt in
    let p = not_negative (dot_of a a) (dot_of b b) (dot_square a) l in
    sym (is_true (le (root_of (dot_of a a)) (root_of (dot_of b b)))
    (root_mono binary64 (dot_of a a) (dot_of b b) (dot_fits a a) (dot_fits b b) p (le_trans_float nil (dot_of a a) (dot_of b b) p l) l))

pub longer_is : (a b : Vector3D) (x y t u : Float) → x ≡ dot_of a a → y ≡ dot_of b b → T (fits binary64 t) → T (fits binary64 u)
    → lt zero64 y ≡ true → lt zero64 t ≡ true → lt y (mul binary64 t t) ≡ true → lt t u ≡ true → lt (mul binary64 u u) x ≡ true → false ≡ le (norm_of a) (norm_of b)
unfolding norm_of
longer_is a b x y t u i j v w f g h k l =
    roots_apart x y t u (subst (λ (z : Float). T (fits binary64 z)) (sym i) (dot_fits a a))
    (subst (λ (z : Float). T (fits binary64 z)) (sym j) (dot_fits b b)) v w f g h k l
    ∙ ap (λ z. le (root_of z) (root_of y)) i ∙ ap (λ z. le (root_of (dot_of a a)) (root_of z)) j
