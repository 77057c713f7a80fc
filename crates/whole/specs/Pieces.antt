-- A sheet's nets belong to its stretches. Definitions only.
use Rattle.std.specs.Prelude.{◌≡◌, List, ℕ}
use Rattle.lists.specs.Members.{All}
use Rattle.lines.specs.Lines.{Question}
use Rattle.facts.specs.Spans.{OfOneSpan}
use Rattle.opening.specs.Asked.{pieces1, pieces2}
use Rattle.opening.specs.Opens.{search_for}
use Rattle.walks.specs.Sheets.{ChartLine, Chart, walked, charted, walk_of}
use Rattle.charts.specs.Charts.{pair_for}
use Rattle.whole.specs.Refusals.{Faultless}

-- each piece of either line, open or closed, lies in one span, and its net is that span's net cut to the piece
abbrev pub PairPieces : Question → Type 0
PairPieces q = All (OfOneSpan q.line1) (pieces1 (search_for q)) × All (OfOneSpan q.line2) (pieces2 (search_for q))

-- so it is of a sheet of two lines that isn't refused,
abbrev pub SheetPieces : Type 0
SheetPieces = (s : List ℕ) (q : Question) → walk_of s ≡ walked q → Faultless q → PairPieces q

-- and of each line of a chart with the track
abbrev pub ChartPieces : Type 0
ChartPieces = (s : List ℕ) (c : Chart) → walk_of s ≡ charted c → All (λ (l : ChartLine). Faultless (pair_for c l) → PairPieces (pair_for c l)) c.lines
