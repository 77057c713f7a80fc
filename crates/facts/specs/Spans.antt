-- Where a parameter and the breaks of a range lie among the knots. Definitions only.
use Rattle.std.specs.Prelude.{◌≡◌, ◌⊎◌, true, cond, List, [], ◌∷◌, ℕ, zero, suc, ◌+◌, ◌-◌, T, get_or, Float}
use Rattle.curves.specs.Curves.{net_poles}
use Rattle.floats.specs.Stations.{Piece}
use Rattle.std.specs.Float.{nan, binary64}
use Rattle.std.specs.Float.Ieee.{add, sub, le, lt, fits}
use Rattle.lists.specs.Members.{All}
use Rattle.floats.specs.Floats.{middle}
use Rattle.points.specs.declared.Interval.{Interval}
use Rattle.lines.specs.Lines.{Line}
use Rattle.knots.specs.Knots.{last_of, turn_poles, flat_of, knots_of}
use Rattle.spans.specs.Spans.{span_of, span_end, span_around, turn_span, place_of}
use Rattle.pieces.specs.Pieces.{held, net_at, cut_to}
use Rattle.facts.specs.Faults.{poles}

-- each two neighbours are related
abbrev pub AllTwo : {A : Type 0} → (A → A → Type 0) → List A → Type 0
AllTwo R [] = Unit {0}
AllTwo R (x ∷ []) = Unit {0}
AllTwo R (x ∷ y ∷ l) = R x y × AllTwo R (y ∷ l)

-- u lies in the span that flat knot s opens: from it on, and below the next. Behind the last knot a NaN is read, which nothing is below.
abbrev pub InSpan : Line → Float → ℕ → Type 0
InSpan l u s = T (le (get_or (flat_of l) s nan) u) × T (lt u (get_or (flat_of l) (s + 1) nan))

-- the number of u's span: `KnotVector::span` of a u that the bounds hold
abbrev pub span_number : Line → Float → ℕ
span_number l u = span_of l.degree (flat_of l) u

-- for the piece from t0 to t1: the knots around the middle, which `CurvePieces::new` takes as the net's range when it cuts the net to t0 and t1
abbrev pub cut_span : Line → Float → Float → Interval
cut_span l t0 t1 = span_around (knots_of l) (middle t0 t1)

-- and the number of the span that the net is made of, in `span_bezier`
abbrev pub net_span : Line → Float → Float → ℕ
net_span l t0 t1 = span_number l (held l.degree (flat_of l) (place_of l.closed (knots_of l) (middle t0 t1)))

-- how many poles the flat knots of a line's nets are for, on a closed line those of a turn
abbrev pub net_pole_count : Line → ℕ
net_pole_count l = turn_poles l.closed l.degree (poles l)

-- of the span around the middle, its number in the line's own knots: on a closed line, in its turn
abbrev pub own_span : Line → Float → Float → ℕ
own_span l t0 t1 = cond l.closed (turn_span (knots_of l) (middle t0 t1)) (span_end (knots_of l) (middle t0 t1) - 1)

-- knot i of a closed line a turn later: the last for the first, each other "at knot + period rounded"
abbrev pub comes_again : List Float → ℕ → Float
comes_again knots zero = last_of knots
comes_again knots (suc i) = add binary64 (get_or knots (suc i) nan) (sub binary64 (last_of knots) (get_or knots 0 nan))

-- a is span i of the line's own knots, or, of a closed line, that span a turn later
abbrev pub IsSpan : Line → ℕ → Interval → Type 0
IsSpan l i a =
    ((a.lo ≡ get_or l.knots i nan) × (a.hi ≡ get_or l.knots (i + 1) nan))
    ⊎ ((l.closed ≡ true) × (a.lo ≡ comes_again l.knots i) × (a.hi ≡ comes_again l.knots (i + 1)))

-- The range to which the net is cut holds both breaks; it is a span of the line's own knots or the same a turn later, and that is the span that the net is made of.
pub record InOneSpan (l : Line) (t0 t1 : Float) : Type 0 where
  pub from : T (le (cut_span l t0 t1).lo t0)
  pub to : T (le t1 (cut_span l t0 t1).hi)
  pub same : IsSpan l (own_span l t0 t1) (cut_span l t0 t1)
  pub starts : get_or (flat_of l) (net_span l t0 t1) nan ≡ get_or l.knots (own_span l t0 t1) nan
  pub ends : get_or (flat_of l) (net_span l t0 t1 + 1) nan ≡ get_or l.knots (own_span l t0 t1 + 1) nan

-- a line's knots and the ends of a range are doubles, as all that comes in is
abbrev pub Doubles : Line → Float → Float → Type 0
Doubles l lo hi = All (λ (x : Float). T (fits binary64 x)) l.knots × T (fits binary64 lo) × T (fits binary64 hi)

-- A piece belongs to its stretch: its range lies in one span, and its net is that span's net cut to the range.
pub record OfOneSpan (l : Line) (p : Piece) : Type 0 where
  pub range : InOneSpan l p.lo p.hi
  pub net : p.net
      ≡ cut_to (cut_span l p.lo p.hi) p.lo p.hi (l.degree + 1)
      (net_at l.degree (flat_of l) (net_poles l) (net_span l p.lo p.hi) (held l.degree (flat_of l) (place_of l.closed (knots_of l) (middle p.lo p.hi))))
