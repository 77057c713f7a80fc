-- How the first test that a chart meets is found from the openings of its pairs. Cited by inner functions only.
use Rattle.std.specs.Prelude.{List, [], ◌∷◌, ◌&&◌, cond, ℕ, zero, suc, ◌+◌, ◌≤◌, ltb, leb, eqb, length, Option, Some, None, Result, Ok, Err}
use Rattle.opening.specs.Opens.{open_error_number, opened_number, opened_line}
use Rattle.walks.specs.Sheets.{ChartLine, Chart}
use Rattle.walks.specs.Places.{LineInside, LinesInside, chart_in, behind_at}
use Rattle.sheet.specs.Answers.{opened_on}
use Rattle.charts.specs.declared.Met.{Met}
use Rattle.charts.specs.declared.ChartError.{ChartError}
use Rattle.charts.specs.declared.ChartError.TheVariants.{LineCount, Opening}
use Rattle.charts.specs.declared.Chart.{Chart as Bytes}
use Rattle.charts.specs.Charts.{Tested, tested, pair_for}

-- the chart that stands in these bytes
abbrev pub chart_seen : Bytes → Chart
chart_seen c = chart_in c.bytes.now c.parts

-- its track and the question's floats lie inside a sheet's bytes; so do its lines
pub record HasTrack (c : Bytes) : Type 0 where
  pub short : length c.bytes.now ≤ 16384
  pub first : LineInside (length c.bytes.now) c.parts.first
  pub asked : c.parts.asked + 40 ≤ length c.bytes.now

abbrev pub HasLines : Bytes → Type 0
HasLines c = HasTrack c × LinesInside c.bytes.now c.parts.lines c.parts.first.next

-- what was met of the openings, if anything
abbrev pub tested_of : Option Met → Tested
tested_of (Some m) = tested (open_error_number m.error) m.place
tested_of None = tested 0 0

-- what refuses the chart: its number and place (`ChartError::from`, `ChartError::place`), and the test that is met
abbrev pub chart_error_number : ChartError → ℕ
chart_error_number LineCount = 24
chart_error_number (Opening m) = open_error_number m.error

abbrev pub chart_error_place : ChartError → ℕ
chart_error_place LineCount = 0
chart_error_place (Opening m) = m.place

abbrev pub refused_of : Result Unit ChartError → Tested
refused_of (Ok passed) = tested 0 0
refused_of (Err e) = tested (chart_error_number e) (chart_error_place e)

-- the place of a pair's line at fault, its second line being at place k (`place_of`)
abbrev pub place_of : ℕ → ℕ → ℕ
place_of k line = cond (eqb line 2) k line

-- what the opening of the track and one line, at place k, meets (`line_met`)
abbrev pub opened_at : Chart → ChartLine → ℕ → Tested
opened_at c l k = let o = opened_on (pair_for c l) in tested (opened_number o) (place_of k (opened_line o))

-- how many stages of the order of tests are passed before this one: the track's 4 to 14, a line's with 23, 15 of the track, 15 of a line, 16, 17, 18 of the track, 18 of a line, 19; 9 where nothing is met (`Met::rank`)
unfoldable pub rank_of : ℕ → ℕ → ℕ
rank_of n place =
    cond (eqb n 0) 9
    (cond (eqb n 19) 8
    (cond (eqb n 18) (cond (eqb place 1) 6 7)
    (cond (eqb n 17) 5
    (cond (eqb n 16) 4
    (cond (eqb n 15) (cond (eqb place 1) 2 3)
    (cond (eqb place 1) 0 1))))))

-- the one that is tested first, the first of two of one stage (`earlier`)
abbrev pub earlier_of : Tested → Tested → Tested
earlier_of a b = cond (ltb (rank_of b.number b.place) (rank_of a.number a.place)) b a

-- what is met first of the openings of these lines, the first at place k (`lines_met`)
abbrev pub lines_met : Chart → List ChartLine → ℕ → Tested
lines_met c [] k = tested 0 0
lines_met c (l ∷ ls) k = earlier_of (opened_at c l k) (lines_met c ls (suc k))

-- 24 before them (`Chart::tests`)
abbrev pub chart_met : Chart → Tested
chart_met c = cond (leb 1 (length c.lines) && leb (length c.lines) 64) (lines_met c c.lines 2) (tested 24 0)

-- the place of line k of a chart, counted from 0, whose first line is at place `at` of the bytes (`line_place`)
unfoldable pub line_place : List ℕ → ℕ → ℕ → ℕ
line_place s zero at = at
line_place s (suc k) at = line_place s k (behind_at s at)
