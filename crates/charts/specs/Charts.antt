-- A track against every line of a chart (document 02, M-105): which fault is printed, and what is printed where there is none. Definitions only.
use Rattle.std.specs.Prelude.{List, [], ◌∷◌, ◌++◌, map, Bool, true, false, ◌&&◌, cond, ℕ, suc, ltb, leb, eqb, length, Result, Ok, Err}
use Rattle.lists.specs.Tests.{each_two}
use Rattle.floats.specs.Floats.{zero64, within}
use Rattle.lines.specs.Lines.{Question}
use Rattle.lines.specs.Admit.{line_error_number, admit_of, two24}
use Rattle.lines.specs.Data.{one_datum}
use Rattle.knots.specs.Knots.{bounds_of, breaks_of}
use Rattle.questions.specs.Questions.{range_fits, parted}
use Rattle.regions.specs.declared.Word.{Word}
use Rattle.regions.specs.declared.Word.TheVariants.{Complete, Budget, Unseparated}
use Rattle.states.specs.declared.State.{State}
use Rattle.states.specs.declared.StepError.{StepError}
use Rattle.states.specs.States.{Memory, refusal_number}
use Rattle.nodes.specs.Nets.{geometry}
use Rattle.search.specs.Runs.{run_def}
use Rattle.report.specs.declared.Summary.{Summary}
use Rattle.report.specs.declared.ReportError.{ReportError}
use Rattle.report.specs.Reports.{report_def}
use Rattle.opening.specs.declared.OpenError.{OpenError}
use Rattle.opening.specs.Opens.{opened_number, open_def}
use Rattle.walks.specs.Sheets.{ChartLine, Chart}
use Rattle.printing.specs.Printed.{complete_text, newline, refusal_line}
use Rattle.sheet.specs.Answers.{zeros, lent, lent_output, opened_on, lines_text}

-- the question of the track and one line, as a sheet of these two lines asks it
abbrev pub pair_for : Chart → ChartLine → Question
pair_for c l =
    record {
      line1 = c.track.line;
      lo1 = c.track.lo;
      hi1 = c.track.hi;
      line2 = l.line;
      lo2 = l.lo;
      hi2 = l.hi;
      gap = c.gap;
      splits = c.splits;
    }

-- ---- refusals
-- what a test gives: the table's number, 0 where it isn't met, and the place that is printed with it: "the line's place in the sheet, the track being 1"
pub record Tested : Type 0 where
  pub number : ℕ
  pub place : ℕ

abbrev pub tested : ℕ → ℕ → Tested
tested n k = record { number = n; place = k }

-- the first that is met
abbrev pub first_met : List Tested → Tested
first_met [] = tested 0 0
first_met (t ∷ ts) = cond (eqb t.number 0) (first_met ts) t

-- "24 when there are no lines or more than 64"
abbrev pub count_number : Chart → ℕ
count_number c = cond (leb 1 (length c.lines) && leb (length c.lines) 64) 0 24

-- 4 to 14, and 22
abbrev pub line_number : ChartLine → ℕ
line_number l = refusal_number line_error_number (admit_of l.line)

-- 23: "Each datum is held against the track's"
abbrev pub datum_number : Chart → ChartLine → ℕ
datum_number c l = cond (one_datum c.track.line.datum l.line.datum) 0 23

abbrev pub range_number : ChartLine → ℕ
range_number l = cond (range_fits l.line.closed (bounds_of l.line) l.lo l.hi) 0 15

abbrev pub gap_number : Chart → ℕ
gap_number c = cond (within zero64 two24 c.gap) 0 16

abbrev pub splits_number : Chart → ℕ
splits_number c = cond (ltb 256 c.splits) 17 0

abbrev pub breaks_number : ChartLine → ℕ
breaks_number l = cond (each_two parted (breaks_of l.line l.lo l.hi)) 0 18

-- 19: the line's own opening, on memory lent afresh, is refused
abbrev pub room_number : Chart → ChartLine → ℕ
room_number c l = cond (eqb (opened_number (opened_on (pair_for c l))) 0) 0 19

-- a row of the table, of the chart or of one of its lines, with that line's place
pub data Row : Type 0 where
  of_count : Row
  of_line : ℕ → ChartLine → Row
  of_datum : ℕ → ChartLine → Row
  of_range : ℕ → ChartLine → Row
  of_gap : Row
  of_splits : Row
  of_breaks : ℕ → ChartLine → Row
  of_room : ChartLine → Row

-- the rows of each line in sheet order, the first line at place k
abbrev pub each_line : (ℕ → ChartLine → List Row) → ℕ → List ChartLine → List Row
each_line f k [] = []
each_line f k (l ∷ ls) = f k l ++ each_line f (suc k) ls

-- The order of all tests behind the walk's 1 to 3: 24; 4 to 14 and 22 of the track, then of each line, with 23 "after that line's 14"; 15 of the track, then "line by line"; 16; 17; 18 like 15; "every 19".
abbrev pub order : Chart → List Row
order c =
    (of_count ∷ of_line 1 c.track ∷ [])
    ++ (each_line (λ k l. of_line k l ∷ of_datum k l ∷ []) 2 c.lines
    ++ ((of_range 1 c.track ∷ [])
    ++ (each_line (λ k l. of_range k l ∷ []) 2 c.lines
    ++ ((of_gap ∷ of_splits ∷ of_breaks 1 c.track ∷ [])
    ++ (each_line (λ k l. of_breaks k l ∷ []) 2 c.lines
    ++ each_line (λ k l. of_room l ∷ []) 2 c.lines)))))

-- what the test of a row gives
abbrev pub test_of : Chart → Row → Tested
test_of c of_count = tested (count_number c) 0
test_of c (of_line k l) = tested (line_number l) k
test_of c (of_datum k l) = tested (datum_number c l) k
test_of c (of_range k l) = tested (range_number l) k
test_of c of_gap = tested (gap_number c) 0
test_of c of_splits = tested (splits_number c) 0
test_of c (of_breaks k l) = tested (breaks_number l) k
test_of c (of_room l) = tested (room_number c l) 0

unfoldable pub tests : Chart → List Tested
tests c = map (test_of c) (order c)

-- ---- whether a line's report says complete
abbrev pub is_complete : Word → Bool
is_complete Complete = true
is_complete Budget = false
is_complete Unseparated = false

abbrev pub reported_complete : Result Summary ReportError → Bool
reported_complete (Ok r) = is_complete r.word
reported_complete (Err e) = false

abbrev pub stepped_complete : Result State StepError → Memory → Bool
stepped_complete (Ok x) u = reported_complete (report_def geometry x u lent_output).answer
stepped_complete (Err e) u = false

abbrev pub opened_complete : Result State OpenError → Memory → Bool
opened_complete (Ok x) u = let o = run_def geometry x u in stepped_complete o.answer o.memory
opened_complete (Err e) u = false

-- the report of the track and this line, searched alone, says complete
unfoldable pub lines_complete : Question → Bool
lines_complete q = let o = open_def q (zeros 8112) (zeros 8112) lent in opened_complete o.answer o.memory

-- "the chart is complete exactly when every report is"
abbrev pub all_complete : Chart → List ChartLine → Bool
all_complete c [] = true
all_complete c (l ∷ ls) = lines_complete (pair_for c l) && all_complete c ls

-- ---- what is printed
-- "a last line prints "chart complete" or "chart incomplete""
abbrev pub chart_name : List ℕ
chart_name = 99 ∷ 104 ∷ 97 ∷ 114 ∷ 116 ∷ 32 ∷ []

abbrev pub last_line : Bool → List ℕ
last_line true = chart_name ++ (complete_text ++ newline)
last_line false = chart_name ++ (105 ∷ 110 ∷ (complete_text ++ newline))

-- "The answer is each line's own report in sheet order, equal to the search of that line alone"
abbrev pub reports_text : Chart → List ChartLine → List ℕ
reports_text c [] = []
reports_text c (l ∷ ls) = lines_text (pair_for c l) ++ reports_text c ls

-- the reports of these lines and the last line; `good` says that every report before them was complete
abbrev pub rest_text : Chart → List ChartLine → Bool → List ℕ
rest_text c ls good = reports_text c ls ++ last_line (good && all_complete c ls)

-- "All lines are admitted, and every 19 is found, before any is searched or printed"
abbrev pub tested_text : Tested → List ℕ → List ℕ
tested_text t text = cond (eqb t.number 0) text (refusal_line t.number t.place)

unfoldable pub chart_text : Chart → List ℕ
chart_text c = tested_text (first_met (tests c)) (rest_text c c.lines true)
