-- What is printed for two lines and a question (document 01, "Sheet program"). Definitions only.
use Rattle.std.specs.Prelude.{◌≡◌, ℕ, ◌+◌, ◌*◌, List, ◌++◌, take, replicate, Float, Result, Ok, Err}
use Rattle.floats.specs.Floats.{zero64}
use Rattle.lines.specs.Lines.{Line as Given, Question, line_of}
use Rattle.walks.specs.declared.Line.{Line}
use Rattle.walks.specs.Words.{float_at}
use Rattle.states.specs.declared.State.{State}
use Rattle.states.specs.States.{Memory, memory}
use Rattle.points.specs.declared.Interval.{Interval}
use Rattle.states.specs.declared.StepError.{StepError}
use Rattle.states.specs.States.{step_error_number}
use Rattle.nodes.specs.Nets.{geometry}
use Rattle.search.specs.Runs.{run_def}
use Rattle.report.specs.declared.Summary.{Summary}
use Rattle.report.specs.declared.ReportError.{ReportError}
use Rattle.report.specs.Reports.{Output, output, report_error_number, report_def}
use Rattle.opening.specs.declared.Question.{Question as Asking}
use Rattle.opening.specs.declared.OpenError.{OpenError}
use Rattle.opening.specs.Opens.{open_error_number, open_error_line, line_number, open_def}
use Rattle.printing.specs.Printed.{counts_length, region_length, count_line, region_lines, refusal_line}
use Rattle.texts.specs.Texts.{Wrote}
use Rattle.sheet.specs.declared.LineRoom.{LineRoom}
use Rattle.sheet.specs.declared.Pair.{Pair}

-- ---- "It lends 8,112 floats a line for pieces, 7,904 a line for nets, 304 for ranges, 76 depths", now "152", "8,190 each for raw and report"; marks, "the sheet program lends 819": zeros
unfoldable pub zeros : ℕ → List Float
zeros n = replicate n zero64

unfoldable pub zero_depths : List ℕ
zero_depths = replicate 152 0

-- how many regions the report's slices have room for
abbrev pub lent_regions : ℕ
lent_regions = 819

unfoldable pub zero_marks : List ℕ
zero_marks = replicate lent_regions 0

abbrev pub lent : Memory
lent = memory (zeros 7904) (zeros 7904) (zeros 304) zero_depths (zeros 8190)

abbrev pub lent_output : Output
lent_output = output (zeros 8190) zero_marks

-- ---- what each answer prints: a report its lines, a refusal the paper's number
abbrev pub reported_text : Result Summary ReportError → Output → List ℕ
reported_text (Ok r) o = count_line r.word r.counts r.regions ++ region_lines r.regions o.regions o.marks
reported_text (Err e) o = refusal_line (report_error_number e) 0

-- the report of a search that has ended (`answer_report`)
unfoldable pub report_text : State → Memory → Output → List ℕ
report_text x u out = let o = report_def geometry x u out in reported_text o.answer o.output

abbrev pub stepped_text : Result State StepError → Memory → Output → List ℕ
stepped_text (Ok x) u out = report_text x u out
stepped_text (Err e) u out = refusal_line (step_error_number e) 0

-- "a loop above, which the sheet program runs, that gives each step the search's own verdict until the search ends", then the report (`answer_search`)
unfoldable pub search_text : State → Memory → Output → List ℕ
search_text x u out = let o = run_def geometry x u in stepped_text o.answer o.memory out

abbrev pub opened_text : Result State OpenError → Memory → Output → List ℕ
opened_text (Ok x) u out = search_text x u out
opened_text (Err e) u out = refusal_line (open_error_number e) (line_number (open_error_line e))

-- two lines and the question, opened on the lent memory (`answer_lines`)
unfoldable pub lines_text : Question → List ℕ
lines_text q = let o = open_def q (zeros 8112) (zeros 8112) lent in opened_text o.answer o.memory lent_output

-- what the opening on the lent memory answers (`open_lines`, `opens`)
unfoldable pub opened_on : Question → Result State OpenError
opened_on q = (open_def q (zeros 8112) (zeros 8112) lent).answer

-- the answer to two lines: what the opening says, which tells a refusal's number and line, and the text from the buffer's front (`answer_lines`, `answer_pair`)
abbrev pub Answered : Question → List ℕ → List ℕ → Pair → Type 0
Answered q before after r = (r.opened ≡ opened_on q) × Wrote before 0 (lines_text q) after r.length

-- ---- two lines and their question, read from a sheet
-- the line of these places whose numbers were read into this room (`LineRoom::read`, `LineRoom::line`)
abbrev pub held_line : Line → LineRoom → Given
held_line l r = line_of l.closed l.degree (take l.knots.count r.knots) (take l.mults.count r.mults) (take (3 * l.poles.count) r.coords) (take l.weights.count r.weights)

-- a range's lo and hi, the floats at place `at` (`range_at`)
unfoldable pub range_at : List ℕ → ℕ → Interval
range_at s at = record { lo = float_at s at; hi = float_at s (at + 8) }

-- "6 question (N is S; then lo, hi, lo, hi, gap as floats)", the floats at place `at`, of lines with these data; the second line's lo and hi at place `range`, which is at + 16 in a sheet of two lines and behind the line's kind 11 in a chart (`question_at`)
unfoldable pub asking_at : List ℕ → ℕ → ℕ → ℕ → ℕ → ℕ → Asking
asking_at s at range n datum1 datum2 = record { datum1 = datum1; datum2 = datum2; range1 = range_at s at; range2 = range_at s range; gap = float_at s (at + 32); splits = n }

-- the longest text: the line of counts, and one for each region that there is room for; 162,446 bytes
abbrev pub longest : ℕ
longest = counts_length + lent_regions * region_length
