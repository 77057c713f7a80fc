-- Lines and questions as they come in. Definitions only.
use Rattle.std.specs.Prelude.{ℕ, Bool, List, Float}
use Rattle.lines.specs.declared.Line.{Line as Slices}

-- a line: whether it is closed, its degree, knots, multiplicities, poles as x, y, z in turn, weights, none of which there may be, and its datum
pub record Line : Type 0 where
  pub closed : Bool
  pub degree : ℕ
  pub knots : List Float
  pub mults : List ℕ
  pub coords : List Float
  pub weights : List Float
  pub datum : ℕ

-- a line by its parts, as the code takes them where the datum isn't read: of datum 1
abbrev pub line_of : Bool → ℕ → List Float → List ℕ → List Float → List Float → Line
line_of closed degree knots mults coords weights = record { closed = closed; degree = degree; knots = knots; mults = mults; coords = coords; weights = weights; datum = 1 }

-- the line that these slices hold
abbrev pub seen : Slices → Line
seen l = line_of l.closed l.degree l.knots.now l.mults.now l.coords.now l.weights.now

-- the line with this datum
abbrev pub with_datum : ℕ → Line → Line
with_datum n l = record { closed = l.closed; degree = l.degree; knots = l.knots; mults = l.mults; coords = l.coords; weights = l.weights; datum = n }

-- a question about two lines: a range of each, the gap, and the splits per pair, S
pub record Question : Type 0 where
  pub line1 : Line
  pub lo1 : Float
  pub hi1 : Float
  pub line2 : Line
  pub lo2 : Float
  pub hi2 : Float
  pub gap : Float
  pub splits : ℕ
