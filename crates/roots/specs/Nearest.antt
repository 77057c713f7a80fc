-- What "correctly rounded" means for a root, with no real numbers: squares and cross products of whole numbers. Definitions only.
use Rattle.std.specs.Prelude.{◌≡◌, false, ℕ, ◌+◌, ◌*◌, ◌<◌, ◌≤◌, T}
use Rattle.std.specs.Float.{fin, Format}
use Rattle.std.specs.Float.Ieee.{up, down, fits}
use Rattle.roots.specs.Root.{root_in}

-- The true root of x = a / b lies below the half way point of y = c / d and z = e / g, (c g + e d) / (2 d g).
abbrev pub BelowHalfWay : (a b c d e g : ℕ) → Type 0
BelowHalfWay a b c d e g = 4 * a * ((d * g) * (d * g)) < (c * g + e * d) * (c * g + e * d) * b

abbrev pub AboveHalfWay : (a b c d e g : ℕ) → Type 0
AboveHalfWay a b c d e g = (c * g + e * d) * (c * g + e * d) * b < 4 * a * ((d * g) * (d * g))

-- y, which the format holds, is the root of x rounded to nearest: every other finite value z that the format holds lies strictly farther from the true root.
-- A z above y: the root lies below the half way point of the two. A z from 0 up to y: above it. A z below 0 is farther than 0 is.
-- No two values are equally near, so the rule for ties, to even, never decides.
pub record NearestRoot (f : Format) (m : ℕ) (e : lib.IntN.ℤ) (n : ℕ) (d : lib.IntN.ℤ) : Type 0 where
  pub held : T (fits f (fin false n d))
  pub above : (o : ℕ) (c : lib.IntN.ℤ) → T (fits f (fin false o c)) → n * up d * down c < o * up c * down d
      → BelowHalfWay (m * up e) (down e) (n * up d) (down d) (o * up c) (down c)
  pub below : (o : ℕ) (c : lib.IntN.ℤ) → T (fits f (fin false o c)) → o * up c * down d < n * up d * down c
      → AboveHalfWay (m * up e) (down e) (n * up d) (down d) (o * up c) (down c)

-- r is the whole number nearest to the root of n: n lies between the squares of r - 1/2 and r + 1/2. (`nearest_whole` and `nearest_by_digits` make it.)
pub record NearestWhole (n r : ℕ) : Type 0 where
  pub low : r * r < n + r
  pub high : n ≤ r * r + r

-- what the root of m * 2 ^ e is, and that it is correctly rounded
pub record Rooted (f : Format) (m : ℕ) (e : lib.IntN.ℤ) : Type 0 where
  pub n : ℕ
  pub d : lib.IntN.ℤ
  pub is : root_in f (fin false m e) ≡ fin false n d
  pub near : NearestRoot f m e n d

-- the root of every number from +0 up, in every format, is correctly rounded (`root_nearest`)
abbrev pub RootNearest : Type 0
RootNearest = (f : Format) (m : ℕ) (e : lib.IntN.ℤ) → T (fits f (fin false m e)) → Rooted f m e
