-- The Bezier pieces of an admitted line over an asked range. Definitions only.
use Rattle.std.specs.Prelude.{ℕ, zero, suc, ◌+◌, ◌-◌, ◌/◌, ◌%◌, Bool, cond, List, [], ◌∷◌, ◌++◌, map, length, Float}
use Rattle.lists.specs.Parts.{block, joined}
use Rattle.floats.specs.Stations.{Cut}
use Rattle.lines.specs.Lines.{Line}
use Rattle.lines.specs.Admit.{beyond_of}
use Rattle.poles.specs.Poles.{homogeneous_poles}
use Rattle.knots.specs.Knots.{between, breaks_in, flat_of, knots_of, breaks_of}
use Rattle.pieces.specs.Pieces.{net_of, nets_of}

-- `CurvePieces::len`: one piece between each two neighbouring breaks
abbrev pub count_in : Float → Float → List Float → ℕ
count_in lo hi knots = length (breaks_in lo hi knots) - 1

abbrev pub piece_count : Line → Float → Float → ℕ
piece_count l lo hi = count_in lo hi (knots_of l)

-- the poles of a line with their weights, three coordinates a pole
abbrev pub poles_of : Line → List Float
poles_of l = homogeneous_poles l.coords l.weights (length l.coords / 3) 0

-- of a closed line's n poles, `left` of a turn from number j on: number j is pole (j + n + 1 − m) mod n, m the multiplicity at the ends (`first` and the wrapped poles of `periodic_span_knots`)
unfoldable pub around_of : ℕ → ℕ → ℕ → ℕ → List Float → List Float
around_of n m zero j poles = []
around_of n m (suc left) j poles = block 4 ((j + n + 1 - m) % n) poles ++ around_of n m left (suc j) poles

-- the poles that the nets of a line of n poles and degree p are made with: on a closed line those of a turn, n + p
unfoldable pub turn_of_poles : Bool → ℕ → ℕ → ℕ → List Float → List Float
turn_of_poles closed p n m poles = cond closed (around_of n m (n + p) 0 poles) poles

abbrev pub net_poles : Line → List Float
net_poles l = turn_of_poles l.closed l.degree (length l.coords / 3) (beyond_of l.closed l.degree l.mults) (poles_of l)

-- `CurvePieces::new`: the nets of all pieces, one after the other
unfoldable pub pieces_of : Line → Float → Float → List Float
pieces_of l lo hi = nets_of l.closed l.degree (knots_of l) (flat_of l) (net_poles l) (breaks_of l lo hi)

-- ---- the same as a list of pieces: for each its range, between neighbouring breaks, and its net
-- a cut at each of these breaks, the first piece starting at t0
unfoldable pub cuts_from : Bool → ℕ → List Float → List Float → List Float → Float → List Float → List Cut
cuts_from closed p knots flat poles t0 [] = []
cuts_from closed p knots flat poles t0 (t1 ∷ ts) = record { to = t1; net = net_of closed p knots flat poles t0 t1 } ∷ cuts_from closed p knots flat poles t1 ts

-- the cuts of a line over a range: at each knot strictly between, and at hi
abbrev pub cuts_of : Line → Float → Float → List Cut
cuts_of l lo hi = cuts_from l.closed l.degree (knots_of l) (flat_of l) (net_poles l) lo (between lo hi (knots_of l) (hi ∷ []))

-- the nets of the cuts, one after the other
abbrev pub nets_in : List Cut → List Float
nets_in cs = joined (map (λ (c : Cut). c.net) cs)
