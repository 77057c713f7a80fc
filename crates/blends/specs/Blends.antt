-- The Bezier points of a knot span (`bezier_matrix`, `span_bezier`): the triangular recurrence of The NURBS Book, carried out on the poles' coefficients. Definitions only.
use Rattle.std.specs.Prelude.{ℕ, zero, suc, ◌+◌, ◌-◌, ◌*◌, ◌≤◌, cond, List, [], ◌∷◌, ltb, eqb, get_or, length, Float}
use Rattle.std.specs.Float.{binary64, nan}
use Rattle.std.specs.Float.Ieee.{add, sub, mul, div, neg}
use Rattle.floats.specs.Floats.{zero64, one64}
use Rattle.points.specs.declared.Point4D.{Point4D}

-- a degree from 1 to 25, and the 2 p knots around a span
pub record HasNear (p : ℕ) (near : List Float) : Type 0 where
  pub low : 1 ≤ p
  pub high : p ≤ 25
  pub around : 2 * p ≤ length near

-- one blend of `bezier_matrix`, (1 − α) × a + α × b: Q_i = α_i P_i + (1 − α_i) P_(i−1) of knot insertion (The NURBS Book, chapter 5), in the Rust's order of operations
unfoldable pub mix_of : Float → Float → Float → Float
mix_of α a b = add binary64 (mul binary64 (sub binary64 one64 α) a) (mul binary64 α b)

-- `knot` of `bezier_matrix`, `left` and `right` of `span_knots` in one: knot m of the 2 p around the span, relative to u; the span runs from number p − 1 to number p
unfoldable pub knot_of : ℕ → Float → List Float → ℕ → Float
knot_of p u near m = cond (ltb m p) (neg (sub binary64 u (get_or near m nan))) (sub binary64 (get_or near m nan) u)

-- `alpha` of `bezier_matrix`, level r + 1 and j = r + i + 1 there: the factor (u − u_i) / (u_(i+p−r+1) − u_i) of knot insertion repeated (The NURBS Book, Algorithm A5.1, CurveKnotIns),
-- at x, by a product with the reciprocal
unfoldable pub alpha_of : ℕ → Float → List Float → Float → ℕ → ℕ → Float
alpha_of p u near x r i =
    mul binary64 (sub binary64 x (knot_of p u near (r + i))) (div binary64 one64 (sub binary64 (knot_of p u near (p + i)) (knot_of p u near (r + i))))

-- `x` of `bezier_matrix`: point k is the blossom at k times the span's end and p − k times its start, so the first k levels take the end, the others the start
unfoldable pub end_of : ℕ → Float → List Float → ℕ → ℕ → Float
end_of p u near k r = cond (ltb r k) (knot_of p u near p) (knot_of p u near (p - 1))

-- `d` of `bezier_matrix`: the coefficient of pole i + x in point i of level r. At level 0 point i is pole i. Point i of the next level blends points i and i + 1 by α r i;
-- it has the coefficients of poles i to i + r + 1, of which point i lacks the last and point i + 1 the first.
unfoldable pub coefficient : (ℕ → ℕ → Float) → ℕ → ℕ → ℕ → Float
coefficient α zero i x = cond (eqb x 0) one64 zero64
coefficient α (suc r) i zero = mix_of (α r i) (coefficient α r i 0) zero64
coefficient α (suc r) i (suc x) = cond (ltb x (suc r)) (mix_of (α r i) (coefficient α r i (suc x)) (coefficient α r (suc i) x)) zero64

-- one turn of `span_bezier`'s sum: m times the pole (a, b, c, d) added
unfoldable pub added : Point4D → Float → Float → Float → Float → Float → Point4D
added q m a b c d =
    record {
      x = add binary64 q.x (mul binary64 m a);
      y = add binary64 q.y (mul binary64 m b);
      z = add binary64 q.z (mul binary64 m c);
      w = add binary64 q.w (mul binary64 m d);
    }

-- the sum's start, +0
abbrev pub nothing : Point4D
nothing = record { x = zero64; y = zero64; z = zero64; w = zero64 }

-- n poles from pole j on, each by its coefficient, added up, the first pole first
unfoldable pub summed : (ℕ → Float) → Point4D → ℕ → ℕ → List Float → Point4D
summed c q zero j poles = q
summed c q (suc n) j poles =
    summed c (added q (c j) (get_or poles (4 * j) nan) (get_or poles (4 * j + 1) nan) (get_or poles (4 * j + 2) nan) (get_or poles (4 * j + 3) nan)) n (suc j) poles

-- point k of `span_bezier`, near the flat knots from number span − p + 1 on, poles those of the span
unfoldable pub point_of : ℕ → Float → List Float → List Float → ℕ → Point4D
point_of p u near poles k = summed (coefficient (λ r. alpha_of p u near (end_of p u near k r) r) p 0) nothing (p + 1) 0 poles

-- n points from point k on
unfoldable pub points_from : ℕ → Float → List Float → List Float → ℕ → ℕ → List Float
points_from p u near poles zero k = []
points_from p u near poles (suc n) k =
    (point_of p u near poles k).x ∷ (point_of p u near poles k).y ∷ (point_of p u near poles k).z ∷ (point_of p u near poles k).w ∷ points_from p u near poles n (suc k)
