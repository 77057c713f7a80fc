-- Least and greatest, ranges and middles of doubles (document 01, module Floats). Definitions only.
use Rattle.std.specs.Prelude.{◌≡◌, ◌⊎◌, Bool, false, cond, ◌*◌, ◌/◌, ◌%◌, pos, negsuc, T, eqb, Float}
use Rattle.std.specs.Float.{nan, inf, fin, binary64}
use Rattle.std.specs.Float.Ieee.{up, down, add, mul, le, eq, of_int, of_bits}
use Rattle.floats.specs.Sizes.{Number}

-- Rust's `f64::min` and `f64::max`: a NaN is skipped. Of two equal numbers, as the zeros, the first; the Rust leaves the sign of a zero open here.
unfoldable pub least : Float → Float → Float
least a b = cond (le a b) a (cond (eq b b) b a)

unfoldable pub greatest : Float → Float → Float
greatest a b = cond (le b a) a (cond (eq b b) b a)

-- "Least and greatest skip a NaN": beside a NaN, on either side, the other one is taken.
abbrev pub Skips : Type 0
Skips = (x : Float) → (least x nan ≡ x) × (least nan x ≡ x) × (greatest x nan ≡ x) × (greatest nan x ≡ x)

-- Of two numbers the least is at most each and the greatest at least each, and either is one of the two.
abbrev pub Extremes : Type 0
Extremes = (a b : Float) → Number a → Number b →
    (T (le (least a b) a) × T (le (least a b) b) × ((least a b ≡ a) ⊎ (least a b ≡ b)))
    × (T (le a (greatest a b)) × T (le b (greatest a b)) × ((greatest a b ≡ a) ⊎ (greatest a b ≡ b)))

-- from lo to hi, ends included; no NaN is
unfoldable pub within : Float → Float → Float → Bool
within lo hi x = cond (le lo x) (le x hi) false

abbrev pub zero64 : Float
zero64 = of_bits binary64 0x0000_0000_0000_0000

abbrev pub one64 : Float
one64 = of_bits binary64 0x3ff0_0000_0000_0000

abbrev pub half64 : Float
half64 = of_bits binary64 0x3fe0_0000_0000_0000

-- 0.5 × (lo + hi), each operation rounded: the middle of a range, and the mean of neighbours in a net
unfoldable pub middle : Float → Float → Float
middle lo hi = mul binary64 half64 (add binary64 lo hi)

-- Rust's `f64::floor`: the greatest whole number that is not above x; x itself where it is whole, a NaN or an infinity. A negative x that isn't whole lies above −(q + 1), q its whole part
unfoldable pub floor_of : Float → Float
floor_of nan = nan
floor_of (inf s) = inf s
floor_of (fin s m e) =
    cond (eqb (m * up e % down e) 0) (fin s m e) (cond s (of_int binary64 (negsuc (m * up e / down e))) (of_int binary64 (pos (m * up e / down e))))
