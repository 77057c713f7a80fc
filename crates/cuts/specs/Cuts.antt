-- A Bezier net of points of four numbers, cut to a part of its range (`restrict`) by the de Casteljau algorithm (The NURBS Book, Algorithm A1.5, deCasteljau1), in the Rust's order of operations. Definitions only.
use Rattle.std.specs.Prelude.{ℕ, ◌≡◌, ◌*◌, ◌≤◌, cond, List, length, Float}
use Rattle.std.specs.Float.{binary64}
use Rattle.std.specs.Float.Ieee.{add, sub, mul, div, lt}
use Rattle.floats.specs.Floats.{zero64, one64}
use Rattle.lists.specs.Rounds.{paired, remains, firsts}

-- a net of n points, 26 at most
pub record IsNet (n : ℕ) (l : List Float) : Type 0 where
  pub few : n ≤ 26
  pub four_each : length l ≡ n * 4

-- `lerp` of `restrict`: a + f × (b − a)
unfoldable pub lerp_of : Float → Float → Float → Float
lerp_of f a b = add binary64 a (mul binary64 f (sub binary64 b a))

-- the first m numbers, each moved by f towards the one four places on
abbrev pub lerps : Float → ℕ → List Float → List Float
lerps f m l = paired (lerp_of f) 4 m l

-- k points: the part from f on is what remains
abbrev pub from_of : Float → ℕ → List Float → List Float
from_of f k l = remains (lerp_of f) k l

-- k points: the part up to f keeps each round's first point
abbrev pub up_to_of : Float → ℕ → List Float → List Float
up_to_of f k l = firsts (lerp_of f) k l

-- `g` of `restrict`: where f1 lies in the part from f0 on; a NaN for f0 = f1 = 1
unfoldable pub rest_of : Float → Float → Float
rest_of f0 f1 = cond (lt zero64 f0) (div binary64 (sub binary64 f1 f0) (sub binary64 one64 f0)) f1

-- the first cut, only if f > 0
unfoldable pub upper_part : Float → ℕ → List Float → List Float
upper_part f k l = cond (lt zero64 f) (from_of f k l) l

-- the second cut, only if g < 1
unfoldable pub lower_part : Float → ℕ → List Float → List Float
lower_part g k l = cond (lt g one64) (up_to_of g k l) l

-- `restrict`: the net of k points over the part f0 to f1 of its range
unfoldable pub restricted : Float → Float → ℕ → List Float → List Float
restricted f0 f1 k l = lower_part (rest_of f0 f1) k (upper_part f0 k l)
