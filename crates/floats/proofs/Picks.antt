-- Least and greatest by one comparison: where the first is a number, the second if it is beyond the first, else the first; else the second. Assumes nothing.
use mathlib.Core.Path.{◌≡◌, refl, sym, subst}
use mathlib.Core.Bool.{Bool, true, false, cond}
use lib.Dec.{T}
use lib.Ieee.{Float, nan, inf, fin, lt, eq, le}
use lib.Ieee.Bits.{is_true}
use Rattle.floats.specs.Floats.{least, greatest}
use Rattle.floats.specs.Sizes.{Number}
use Rattle.floats.proofs.Order.{eq_self}
use Rattle.floats.proofs.Bounds.{lt_not_le}
use Rattle.floats.proofs.Sums.{not_le_lt}

number : (a : Float) → eq a a ≡ true → Number a
unfolding eq
number nan h = subst T (sym h) tt
number (inf s) h = tt
number (fin s m e) h = tt

none : (a : Float) → eq a a ≡ false → a ≡ nan
none nan h = refl
none (inf s) h = absurd (subst T h (eq_self (inf s) tt))
none (fin s m e) h = absurd (subst T h (eq_self (fin s m e) tt))

-- x is where the second is beyond the first, l where it is not
picked : (a b : Float) (x l : Bool) → (T x → T l → ⊥) → (Number b → (T l → ⊥) → T x) → (b ≡ nan → x ≡ false) → cond x b a ≡ cond l a (cond (eq b b) b a)
picked a b true true f g h = absurd (f tt tt)
picked a b false true f g h = refl
picked a b x false f g h = go (eq b b) refl
  where
    go : (e : Bool) → eq b b ≡ e → cond x b a ≡ cond e b a
    go true e = rw (is_true x (g (number b e) (λ w. w))) refl
    go false e = rw (h (none b e)) refl

pub lower_is : (a b : Float) → eq a a ≡ true → cond (lt b a) b a ≡ least a b
unfolding least
lower_is a b h = picked a b (lt b a) (le a b) (lt_not_le b a) (λ n k. not_le_lt b a n (number a h) k) (λ e. rw e (unfold lt in refl))

beyond_nan : (a : Float) → lt a nan ≡ false
unfolding lt
beyond_nan nan = refl
beyond_nan (inf s) = refl
beyond_nan (fin s m e) = refl

pub higher_is : (a b : Float) → eq a a ≡ true → cond (lt a b) b a ≡ greatest a b
unfolding greatest
higher_is a b h = picked a b (lt a b) (le b a) (lt_not_le a b) (λ n k. not_le_lt a b (number a h) n k) (λ e. rw e (beyond_nan a))

-- where the first is no number
second : (b : Float) (l : Bool) → l ≡ false → b ≡ cond l nan (cond (eq b b) b nan)
second b true h = absurd (subst T h tt)
second b false h = go (eq b b) refl
  where
    go : (e : Bool) → eq b b ≡ e → b ≡ cond e b nan
    go true e = refl
    go false e = none b e

nan_le : (b : Float) → le nan b ≡ false
unfolding le
nan_le b = refl

le_nan : (b : Float) → le b nan ≡ false
unfolding le
le_nan nan = refl
le_nan (inf s) = refl
le_nan (fin s m e) = refl

pub second_least : (a b : Float) → eq a a ≡ false → b ≡ least a b
unfolding least
second_least a b h = rw (none a h) (second b (le nan b) (nan_le b))

pub second_greatest : (a b : Float) → eq a a ≡ false → b ≡ greatest a b
unfolding greatest
second_greatest a b h = rw (none a h) (second b (le b nan) (le_nan b))
