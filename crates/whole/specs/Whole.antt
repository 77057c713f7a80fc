-- What the sheet program prints, for every list of bytes. Definitions only.
use Rattle.std.specs.Prelude.{◌≡◌, ◌↔◌, Bool, true, false, List, [], ◌∷◌, ◌++◌, ℕ, ◌≤◌, length}
use Rattle.lists.specs.Members.{All}
use Rattle.regions.specs.declared.Word.TheVariants.{Complete}
use Rattle.report.specs.Reports.{Reporting}
use Rattle.opening.specs.Opens.{search_for}
use Rattle.coverage.specs.Complete.{Reports, Clear}
use Rattle.lines.specs.Lines.{Question}
use Rattle.walks.specs.Sheets.{ChartLine, Chart, walked, charted, walk_of}
use Rattle.printing.specs.Printed.{count_line, region_lines, refusal_line}
use Rattle.states.specs.States.{sizes}
use Rattle.sheet.specs.Answers.{lent, lines_text}
use Rattle.charts.specs.Charts.{pair_for, last_line, reports_text}
use Rattle.charts.specs.Answers.{answer_of}
use Rattle.whole.specs.Refusals.{Numbered, Faultless, Fault}

-- The report on two lines, of a question without fault: its text is the line of counts and the region lines of the report after the loop on the lent memory, of which demand 3's claims hold, each node settled having nets that pass
-- the clearing tests. In particular it says "complete" only if every pair of stations lies in a piece pair set apart by its boxes or in a node that the loop settled.
pub record PairReport (q : Question) : Type 0 where
  pub faultless : Faultless q
  pub reporting : Reporting
  pub report : Reports (search_for q) (sizes lent) reporting
  pub text : lines_text q ≡ count_line report.word report.counts report.regions ++ region_lines report.regions reporting.output.regions reporting.output.marks
  pub clear : report.word ≡ Complete → Clear (search_for q) (sizes lent)

-- each of these lines has its own report with the track
abbrev pub LineReports : Chart → List ChartLine → Type 0
LineReports c ls = All (λ (l : ChartLine). PairReport (pair_for c l)) ls

-- each says complete
abbrev pub EachComplete : (c : Chart) (ls : List ChartLine) → LineReports c ls → Type 0
EachComplete c [] rs = Unit {0}
EachComplete c (l ∷ ls) rs = (rs.0.report.word ≡ Complete) × EachComplete c ls rs.1

-- One of three: "refused", the number and the place of the first fault; of two lines without fault their report; of a chart of 1 to 64 lines, each without fault, the reports of its lines in sheet order and the last line.
-- The last line is "chart complete" exactly when every report says complete, and then every pair of stations of the track and of each line is clear.
pub data Printed (s : List ℕ) : Type 0 where
  refused : (n place : ℕ) → Numbered n place → Fault s n place → answer_of s ≡ refusal_line n place → Printed s
  reported : (q : Question) → walk_of s ≡ walked q → PairReport q → answer_of s ≡ lines_text q → Printed s
  chart_reported : (c : Chart) → walk_of s ≡ charted c → 1 ≤ length c.lines → length c.lines ≤ 64 → (rs : LineReports c c.lines) (all : Bool)
      → answer_of s ≡ reports_text c c.lines ++ last_line all → (all ≡ true) ↔ EachComplete c c.lines rs
      → (all ≡ true → All (λ (l : ChartLine). Clear (search_for (pair_for c l)) (sizes lent)) c.lines) → Printed s

abbrev pub Whole : Type 0
Whole = (s : List ℕ) → Printed s

-- the two last lines can be told apart
abbrev pub LastLinesDiffer : Type 0
LastLinesDiffer = last_line true ≡ last_line false → ⊥

-- "each line's own report .. equal to the search of that line alone": it is what a sheet of the track and this line gets
abbrev pub LineAlone : Type 0
LineAlone = (c : Chart) (l : ChartLine) (s : List ℕ) → walk_of s ≡ walked (pair_for c l) → answer_of s ≡ lines_text (pair_for c l)
