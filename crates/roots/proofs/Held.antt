-- A value that a format holds, in units of its smallest one: a whole number with no more digits than the format keeps. Assumes nothing.
use mathlib.Core.Path.{◌≡◌, sym, ap, ◌∙◌, subst}
use mathlib.Core.Logic.{dite}
use mathlib.Core.Bool.{Bool, ◌&&◌}
use Prim.Native.Nat.{ℕ, zero, suc, ◌+◌, ◌*◌, ◌-◌, ◌/◌, ◌%◌, ◌^◌, ◌≤◌, ◌<◌}
use native.Mathlib.Nat.{mul-pos, one-mul, mul-le-mul_right, mul-one, zero-mul, mul_assoc, mul_comm, mul_right_comm, mul-div_cancel, lt_of_mul-lt-mul_right, mul-lt-mul_of_pos_right, lt_of_lt_of_le, le_of_eq, le_trans}
use native.Mathlib.Decide.{dec_le}
use native.Mathlib.Omega.{arith}
use lib.IntN.{ℤ, pos, negsuc}
use lib.Dec.{T, leb, ltb, eqb, ltb→lt, leb→le, eqb→eq}
use lib.Pow.{pow_pos, pow-add, pow-lt}
use lib.Ieee.{fin, Format, prec, emax, low, up, down, fits}
use lib.Ieee.Fits.{up_pos, down_pos, and_l, and_r}

-- m * 2 ^ e is n units, and n is m with zeros after it
pub record Held (f : Format) (m : ℕ) (e : ℤ) (n : ℕ) : Type 0 where
  pub value : m * up e * 2 ^ low f ≡ n * down e
  pub zeros : ℕ
  pub form : n ≡ m * 2 ^ zeros
  pub few : m < 2 ^ prec f
  pub small : n < 2 ^ (low f + suc (emax f))

abbrev pub units_of : Format → ℕ → ℤ → ℕ
units_of f m e = m * up e * 2 ^ low f / down e

pub record Kept (f : Format) (m : ℕ) (e : ℤ) : Type 0 where
  pub few : m < 2 ^ prec f
  pub fine : down e ≤ 2 ^ low f
  pub small : m * up e < 2 ^ suc (emax f) * down e

one_of : (u d : ℕ) → 0 < u → u * d ≡ 1 → d ≤ 1
one_of u d p h = dite (dec_le d 1) (λ k. k) (λ k. let g : d ≤ u * d = le_trans (le_of_eq (sym (one-mul d))) (mul-le-mul_right d p) in absurd (omega arith))

kept : (f : Format) (s : Bool) (m : ℕ) (e : ℤ) → T (fits f (fin s m e)) → Kept f m e
unfolding fits
kept f s zero e t = record {
  few = pow_pos (prec f);
  fine = le_trans (one_of (up e) (down e) (up_pos e) (eqb→eq (up e * down e) 1 t)) (pow_pos (low f));
  small = lt_of_lt_of_le (let g : zero * up e < 1 = omega (arith, zero-mul (up e)) in g) (mul-pos (pow_pos (suc (emax f))) (down_pos e));
}
kept f s (suc m) e t =
    let a : Bool = eqb (suc m % 2) 1 in
    let b : Bool = ltb (suc m) (2 ^ prec f) in
    let c : Bool = leb (down e) (2 ^ low f) in
    let d : Bool = ltb (suc m * up e) (2 ^ suc (emax f) * down e) in
    record {
      few = ltb→lt (suc m) (2 ^ prec f) (and_r a b (and_l (a && b) c (and_l (a && b && c) d t)));
      fine = leb→le (down e) (2 ^ low f) (and_r (a && b) c (and_l (a && b && c) d t));
      small = ltb→lt (suc m * up e) (2 ^ suc (emax f) * down e) (and_r (a && b && c) d t);
    }

power_le : (a b : ℕ) → 2 ^ a ≤ 2 ^ b → a ≤ b
power_le a b h = dite (dec_le a b) (λ k. k) (λ k. let g : 2 ^ b < 2 ^ a = pow-lt (let w : b < a = omega arith in w) in absurd (omega arith))

shape : (l m : ℕ) (e : ℤ) → down e ≤ 2 ^ l → (z : ℕ) × (m * up e * 2 ^ l ≡ m * 2 ^ z * down e)
shape l m (pos k) h = (k + l, mul_assoc m (2 ^ k) (2 ^ l) ∙ ap (λ (x : ℕ). m * x) (sym (pow-add 2 k l)) ∙ sym (mul-one (m * 2 ^ (k + l))))
shape l m (negsuc k) h =
    let g : suc k ≤ l = power_le (suc k) l h in
    let w : l - suc k + suc k ≡ l = omega arith in (
      l - suc k,
      ap (λ (x : ℕ). x * 2 ^ l) (mul-one m) ∙ ap (λ (x : ℕ). m * 2 ^ x) (sym w) ∙ ap (λ (x : ℕ). m * x) (pow-add 2 (l - suc k) (suc k))
          ∙ sym (mul_assoc m (2 ^ (l - suc k)) (2 ^ suc k)),
    )

pub held : (f : Format) (s : Bool) (m : ℕ) (e : ℤ) → T (fits f (fin s m e)) → Held f m e (units_of f m e)
held f s m e t =
    let k = kept f s m e t in
    let z = shape (low f) m e k.fine in
    let n : units_of f m e ≡ m * 2 ^ z.0 = ap (λ (x : ℕ). x / down e) z.1 ∙ mul-div_cancel (m * 2 ^ z.0) (down_pos e) in
    let v : m * up e * 2 ^ low f ≡ units_of f m e * down e = z.1 ∙ ap (λ (x : ℕ). x * down e) (sym n) in
    record {
      value = v;
      zeros = z.0;
      form = n;
      few = k.few;
      small = lt_of_mul-lt-mul_right (down e) (subst (λ (x : ℕ). x < 2 ^ (low f + suc (emax f)) * down e) v
          (lt_of_lt_of_le (mul-lt-mul_of_pos_right k.small (pow_pos (low f)))
          (le_of_eq (mul_right_comm (2 ^ suc (emax f)) (down e) (2 ^ low f) ∙ ap (λ (x : ℕ). x * down e) (mul_comm (2 ^ suc (emax f)) (2 ^ low f) ∙ sym (pow-add 2 (low f) (suc (emax f))))))));
    }
