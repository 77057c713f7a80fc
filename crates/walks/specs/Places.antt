-- What the positions that the walk answers stand for. Definitions only.
use Rattle.std.specs.Prelude.{◌≡◌, ℕ, zero, suc, ◌+◌, ◌*◌, ◌<◌, ◌≤◌, cond, List, [], ◌∷◌, length, Result, Ok, Err, IfOk}
use Rattle.lines.specs.Lines as given
use Rattle.walks.specs.Words.{word_at, count_of, float_at, words_from, floats_from}
use Rattle.walks.specs.Sheets.{ChartLine, Chart as GivenChart, Walked, walked, charted, refused_as, size_of, word_stands, line_kind, line_after, range_after, lines_after, closing, pair_of, chart_of}
use Rattle.walks.specs.declared.Part.{Part}
use Rattle.walks.specs.declared.Line.{Line}
use Rattle.walks.specs.declared.Lines.{Lines}
use Rattle.walks.specs.declared.Closing.{Closing}
use Rattle.walks.specs.declared.PairPlaces.{PairPlaces}
use Rattle.walks.specs.declared.ChartPlaces.{ChartPlaces}
use Rattle.walks.specs.declared.Sheet.{Sheet}
use Rattle.walks.specs.declared.Sheet.TheVariants.{Pair, Chart}
use Rattle.walks.specs.declared.SheetError.{SheetError}
use Rattle.walks.specs.declared.SheetError.TheVariants.{BadLength, BadWord, BadEnd}

-- the table's number of what refuses a sheet
abbrev pub sheet_error_number : SheetError → ℕ
sheet_error_number BadLength = 1
sheet_error_number BadWord = 2
sheet_error_number BadEnd = 3

-- what follows a part that was found, or the refusal with its number
abbrev pub onward : {A : Type 0} → Result A SheetError → (A → Walked) → Walked
onward (Ok a) go = go a
onward (Err e) go = refused_as (sheet_error_number e)

-- the line that stands at these places
unfoldable pub line_in : List ℕ → Line → given.Line
line_in s l =
    record {
      closed = l.closed;
      degree = l.degree;
      knots = floats_from s l.knots.at l.knots.count;
      mults = words_from s l.mults.at l.mults.count;
      coords = floats_from s l.poles.at (3 * l.poles.count);
      weights = floats_from s l.weights.at l.weights.count;
      datum = l.datum;
    }

-- ---- the places from place `at` on, where the walk refuses nothing
-- a part of this kind (`part_after`); weights, an empty part where another word stands (`weights_after`); a line (`line_at`)
unfoldable pub part_at : List ℕ → ℕ → ℕ → Part
part_at s kind at = record { count = count_of (word_at s at); at = at + 4; next = at + 4 + size_of kind (count_of (word_at s at)) }

unfoldable pub weights_at : List ℕ → ℕ → Part
weights_at s at = cond (word_stands s 5 at) (part_at s 5 at) (record { count = 0; at = at; next = at })

unfoldable pub line_at : List ℕ → ℕ → Line
line_at s at =
    let degree = part_at s (line_kind (word_stands s 8 at)) at in
    let knots = part_at s 2 degree.next in
    let mults = part_at s 3 knots.next in
    let poles = part_at s 4 mults.next in
    let weights = weights_at s poles.next in
    let datum = part_at s 9 weights.next in
    record {
      closed = word_stands s 8 at;
      degree = degree.count;
      knots = knots;
      mults = mults;
      poles = poles;
      weights = weights;
      datum = datum.count;
      next = datum.next;
    }

-- a line of a chart: its range's word is 4 bytes, and its floats 8 each; the place behind them; n lines, one behind the other
unfoldable pub chart_line_at : List ℕ → ℕ → ChartLine
chart_line_at s at = record { line = line_in s (line_at s at); lo = float_at s ((line_at s at).next + 4); hi = float_at s ((line_at s at).next + 12) }

unfoldable pub behind_at : List ℕ → ℕ → ℕ
behind_at s at = (line_at s at).next + 20

unfoldable pub lines_at : List ℕ → ℕ → ℕ → List ChartLine
lines_at s zero at = []
lines_at s (suc n) at = chart_line_at s at ∷ lines_at s n (behind_at s at)

-- ---- the sheet that stands at these places: a chart's lines follow the track
unfoldable pub question_in : List ℕ → PairPlaces → given.Question
question_in s r = pair_of s (line_in s r.first) (line_in s r.second) r.splits r.asked

unfoldable pub chart_in : List ℕ → ChartPlaces → GivenChart
chart_in s r = chart_of s (line_in s r.first) (lines_at s r.lines r.first.next) r.splits r.asked

abbrev pub sheet_in : List ℕ → Sheet → Walked
sheet_in s (Pair r) = walked (question_in s r)
sheet_in s (Chart r) = charted (chart_in s r)

-- ---- each part lies inside n bytes, so that it can be read
pub record LineInside (n : ℕ) (l : Line) : Type 0 where
  pub knots : l.knots.at + 8 * l.knots.count ≤ n
  pub mults : l.mults.at + 4 * l.mults.count ≤ n
  pub poles : l.poles.at + 24 * l.poles.count ≤ n
  pub weights : l.weights.at + 8 * l.weights.count ≤ n

-- a chart's line stands at place `at`: the walk refuses nothing of it, and it lies inside with its range
pub record ChartLineInside (s : List ℕ) (at : ℕ) : Type 0 where
  pub starts : at ≤ length s
  pub walks : (go : given.Line → ℕ → Walked) → line_after s at go ≡ go (line_in s (line_at s at)) (line_at s at).next
  pub line : LineInside (length s) (line_at s at)
  pub range : behind_at s at ≤ length s

-- so do n of them
abbrev pub LinesInside : List ℕ → ℕ → ℕ → Type 0
LinesInside s zero at = Unit {0}
LinesInside s (suc n) at = ChartLineInside s at × LinesInside s n (behind_at s at)

pub record PairInside (s : List ℕ) (r : PairPlaces) : Type 0 where
  pub first : LineInside (length s) r.first
  pub second : LineInside (length s) r.second
  pub asked : r.asked + 40 ≤ length s

pub record ChartInside (s : List ℕ) (r : ChartPlaces) : Type 0 where
  pub first : LineInside (length s) r.first
  pub lines : LinesInside s r.lines r.first.next
  pub asked : r.asked + 40 ≤ length s

abbrev pub SheetInside : List ℕ → Sheet → Type 0
SheetInside s (Pair r) = PairInside s r
SheetInside s (Chart r) = ChartInside s r

-- ---- found from place `at` on: the walk goes on from there with these places, or ends with the refusal's number
-- a part that is there: it is the one that stands there
pub record PartFound (s : List ℕ) (size : ℕ → ℕ) (there p : Part) : Type 0 where
  pub before : p.next ≤ length s
  pub few : p.count < 268435456
  pub fits : p.at + size p.count ≤ length s
  pub is : p ≡ there

pub record PartFits (s : List ℕ) (walk : (ℕ → ℕ → ℕ → Walked) → Walked) (size : ℕ → ℕ) (there : Part) (r : Result Part SheetError) : Type 0 where
  pub says : (go : ℕ → ℕ → ℕ → Walked) → walk go ≡ onward r (λ (p : Part). go p.count p.at p.next)
  pub found : IfOk r (PartFound s size there)

-- a line
pub record LineFound (s : List ℕ) (at : ℕ) (l : Line) : Type 0 where
  pub before : l.next ≤ length s
  pub fits : LineInside (length s) l
  pub is : l ≡ line_at s at

pub record LineFits (s : List ℕ) (at : ℕ) (r : Result Line SheetError) : Type 0 where
  pub says : (go : given.Line → ℕ → Walked) → line_after s at go ≡ onward r (λ (l : Line). go (line_in s l) l.next)
  pub found : IfOk r (LineFound s at)

-- a chart's line, p its range
pub record ChartLineFound (s : List ℕ) (at : ℕ) (p : Part) : Type 0 where
  pub before : p.next ≤ length s
  pub fits : ChartLineInside s at
  pub behind : p.next ≡ behind_at s at

pub record ChartLineFits (s : List ℕ) (at : ℕ) (r : Result Part SheetError) : Type 0 where
  pub says : (go : ChartLine → ℕ → Walked) → line_after s at (λ l a. range_after s l a go) ≡ onward r (λ (p : Part). go (chart_line_at s at) p.next)
  pub found : IfOk r (ChartLineFound s at)

-- a chart's lines, under any bound of their number that is no less than the bytes that are left
pub record LinesFound (s : List ℕ) (at : ℕ) (r : Lines) : Type 0 where
  pub before : r.next ≤ length s
  pub fits : LinesInside s r.count at

pub record LinesFits (s : List ℕ) (at : ℕ) (r : Result Lines SheetError) : Type 0 where
  pub says : (bound : ℕ) → length s ≤ bound + at → (go : List ChartLine → ℕ → Walked)
      → lines_after bound s at go ≡ onward r (λ (r : Lines). go (lines_at s r.count at) r.next)
  pub found : IfOk r (LinesFound s at)

-- the question and the end
pub record ClosingFits (s : List ℕ) (at : ℕ) (r : Result Closing SheetError) : Type 0 where
  pub says : (go : ℕ → ℕ → Walked) → closing s at go ≡ onward r (λ (r : Closing). go r.splits r.asked)
  pub found : IfOk r (λ (r : Closing). r.asked + 40 ≤ length s)
