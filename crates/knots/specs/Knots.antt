-- A line's flat knots and bounds, its knots unrolled, and the breaks of an asked range. Definitions only.
use Rattle.std.specs.Prelude.{◌≡◌, ℕ, zero, suc, ◌+◌, ◌-◌, ◌≤◌, Bool, false, cond, List, [], ◌∷◌, ◌++◌, length, get_or, take, drop, Float}
use Rattle.std.specs.Float.{binary64, nan}
use Rattle.std.specs.Float.Ieee.{add, sub, neg, lt}
use Rattle.lists.specs.Tests.{total}
use Rattle.points.specs.declared.Interval.{Interval}
use Rattle.lines.specs.Lines.{Line}
use Rattle.lines.specs.Admit.{beyond_of}

-- ---- what the contracts ask
-- from 1 to 128 knots: unrolled at most 255, and 257 breaks
abbrev pub HasKnots : List Float → Type 0
HasKnots knots = (1 ≤ length knots) × (length knots ≤ 128)

-- a multiplicity a knot, and enough flat knots to have bounds: room for 154 holds them
abbrev pub HasBounds : ℕ → List Float → List ℕ → Type 0
HasBounds degree knots mults = (length mults ≡ length knots) × (degree + 1 ≤ total mults) × (total mults ≤ 154)

-- a multiplicity a knot, and poles from degree + 1 to 128: room for 179 holds the flat knots of a line's nets
abbrev pub HasTurn : Bool → ℕ → List Float → List ℕ → Type 0
HasTurn closed degree knots mults =
    (1 ≤ length knots) × (length mults ≡ length knots) × (degree ≤ 25)
    × (1 ≤ beyond_of closed degree mults) × (beyond_of closed degree mults ≤ degree + 1)
    × (degree + 1 + beyond_of closed degree mults ≤ total mults) × (total mults ≤ 128 + beyond_of closed degree mults)

-- ---- flat knots
-- k, n times, before l
unfoldable pub repeated : ℕ → Float → List Float → List Float
repeated zero k l = l
repeated (suc n) k l = k ∷ repeated n k l

-- `flat_knots`: each knot as often as its multiplicity says (the knot vector U of The NURBS Book)
unfoldable pub flat_knots : List Float → List ℕ → List Float
flat_knots (k ∷ ks) (m ∷ ms) = repeated m k (flat_knots ks ms)
flat_knots [] ms = []
flat_knots (k ∷ ks) [] = []

-- `KnotVector::bounds` of an open line: flat knots number degree and number poles, counted from 0
unfoldable pub open_bounds : ℕ → List Float → List ℕ → Interval
open_bounds degree knots mults = record { lo = get_or (flat_knots knots mults) degree nan; hi = get_or (flat_knots knots mults) (total mults - degree - 1) nan }

-- the last knot
abbrev pub last_of : List Float → Float
last_of knots = get_or knots (length knots - 1) nan

-- and of a closed line: its first and last knot
unfoldable pub bounds_in : Bool → ℕ → List Float → List ℕ → Interval
bounds_in closed degree knots mults = cond closed (record { lo = get_or knots 0 nan; hi = last_of knots }) (open_bounds degree knots mults)

-- ---- a closed line's knots over more than a turn
-- the last knot less the first, rounded
abbrev pub period_of : List Float → Float
period_of knots = sub binary64 (last_of knots) (get_or knots 0 nan)

-- each with d added, one rounding
unfoldable pub shifted : Float → List Float → List Float
shifted d [] = []
shifted d (k ∷ ks) = add binary64 k d ∷ shifted d ks

-- "After the last knot each knot but the first comes again, at knot + period rounded" (document 02, M-100)
unfoldable pub unrolled_of : Bool → List Float → List Float
unrolled_of closed knots = cond closed (knots ++ shifted (period_of knots) (drop 1 knots)) knots

-- the tiled knots of `periodic_span_knots` around one turn of n poles and both seam runs, a list of flat knots: before them the last p of the turn a period earlier, behind them those that
-- follow the seam a period later; p + n + p + 1 in all, as many as an open line of n + p poles has. Where the Rust tiles first + period, the last knot stands
unfoldable pub turn_flat : ℕ → ℕ → Float → List Float → List Float
turn_flat p n d flat = shifted (neg d) (take p (drop (n - p) flat)) ++ (flat ++ shifted d (take (p + 1 - (length flat - n)) (drop (length flat - n) flat)))

-- the flat knots that a line's nets are made with
unfoldable pub line_flat : Bool → ℕ → List Float → List ℕ → List Float
line_flat closed degree knots mults =
    cond closed (turn_flat degree (total mults - beyond_of closed degree mults) (period_of knots) (flat_knots knots mults)) (flat_knots knots mults)

-- and how many poles these are the flat knots of: on a closed line of n poles, p of them come again
abbrev pub turn_poles : Bool → ℕ → ℕ → ℕ
turn_poles closed p n = cond closed (n + p) n

-- ---- breaks
-- strictly between: the filter of `CurvePieces::new`
unfoldable pub inside : Float → Float → Float → Bool
inside lo hi k = cond (lt lo k) (lt k hi) false

-- the knots strictly between, then l
unfoldable pub between : Float → Float → List Float → List Float → List Float
between lo hi [] l = l
between lo hi (k ∷ ks) l = cond (inside lo hi k) (k ∷ between lo hi ks l) (between lo hi ks l)

-- the breaks of `CurvePieces::new`: lo, each of these knots strictly between, hi
abbrev pub breaks_in : Float → Float → List Float → List Float
breaks_in lo hi knots = lo ∷ between lo hi knots (hi ∷ [])

-- ---- of a line
abbrev pub flat_of : Line → List Float
flat_of l = line_flat l.closed l.degree l.knots l.mults

abbrev pub bounds_of : Line → Interval
bounds_of l = bounds_in l.closed l.degree l.knots l.mults

-- the knots that part its spans
abbrev pub knots_of : Line → List Float
knots_of l = unrolled_of l.closed l.knots

abbrev pub breaks_of : Line → Float → Float → List Float
breaks_of l lo hi = breaks_in lo hi (knots_of l)
