-- Which fault of a sheet gives which number, and with which line it is printed. Definitions only.
use Rattle.std.specs.Prelude.{◌≡◌, ◌⊎◌, ◌↔◌, false, List, [], ◌∷◌, ℕ, ◌≤◌, ◌<◌, length, Float}
use Rattle.lists.specs.Members.{Any}
use Rattle.lines.specs.Lines.{Line, Question}
use Rattle.facts.specs.Faults.{LineFault, FirstLineFault, Fault23, OneDatum, Fault15, Fault16, Fault17, Fault18, QuestionFault, FirstQuestionFault}
use Rattle.states.specs.States.{Memory, sizes, needed, enough}
use Rattle.opening.specs.Asked.{start, state_of}
use Rattle.opening.specs.Opens.{opened_number, search_for, pieces_fit, open_def}
use Rattle.walks.specs.Sheets.{Chart, walked, charted, refused_as, walk_of}
use Rattle.printing.specs.Printed.{refusal_line}
use Rattle.sheet.specs.Answers.{zeros, lent}
use Rattle.charts.specs.Charts.{pair_for, Row, of_count, of_line, of_datum, of_range, of_gap, of_splits, of_breaks, of_room, order}
use Rattle.charts.specs.Answers.{answer_of}

abbrev pub OneOf : List ℕ → ℕ → Type 0
OneOf l n = Any (λ (k : ℕ). n ≡ k) l

-- "the number, and 1 or 2 for a line's fault, range or breaks (4 to 15 and 18), else 0", 22 "printed with its line" and 23 "printed with 2"; of a chart "the line's place in the sheet, the track being 1", and 24; 20 and 21 are
-- never printed
abbrev pub Numbered : ℕ → ℕ → Type 0
Numbered n place =
    ((place ≡ 0) × OneOf (1 ∷ 2 ∷ 3 ∷ 16 ∷ 17 ∷ 19 ∷ 24 ∷ []) n)
    ⊎ (((1 ≤ place) × (place ≤ 65) × OneOf (4 ∷ 5 ∷ 6 ∷ 7 ∷ 22 ∷ 8 ∷ 9 ∷ 10 ∷ 11 ∷ 12 ∷ 13 ∷ 14 ∷ 15 ∷ 18 ∷ []) n) ⊎ ((2 ≤ place) × (place ≤ 65) × (n ≡ 23)))

-- 23 of a question's lines
abbrev pub DatumFault : Question → Type 0
DatumFault q = Fault23 q.line1.datum q.line2.datum

-- no row of the table is met
abbrev pub GoodLine : Line → Type 0
GoodLine l = (n : ℕ) → LineFault n l → ⊥

abbrev pub GoodData : Question → Type 0
GoodData q = OneDatum q.line1.datum q.line2.datum

abbrev pub GoodQuestion : Question → Type 0
GoodQuestion q = (n : ℕ × ℕ) → QuestionFault n q → ⊥

-- 19: a slice that the sheet program lends is shorter than needed, for the pieces or for the search
abbrev pub Short : Question → Type 0
Short q = (pieces_fit q (zeros 8112) (zeros 8112) ≡ false) ⊎ (enough (needed (state_of (search_for q) (start (search_for q)))) (sizes lent) ≡ false)

-- no fault in the lines and the question, and each lent slice is long enough
pub record Faultless (q : Question) : Type 0 where
  pub first : GoodLine q.line1
  pub second : GoodLine q.line2
  pub datum : GoodData q
  pub question : GoodQuestion q
  pub room : Short q → ⊥

-- ---- a chart: the first row that it meets in the order of all tests
-- the chart meets this row, which gives number n with this place
abbrev pub Meets : Chart → Row → ℕ → ℕ → Type 0
Meets c of_count n place = (n ≡ 24) × (place ≡ 0) × ((length c.lines < 1) ⊎ (64 < length c.lines))
Meets c (of_line k l) n place = (place ≡ k) × FirstLineFault n l.line
Meets c (of_datum k l) n place = (n ≡ 23) × (place ≡ k) × Fault23 c.track.line.datum l.line.datum
Meets c (of_range k l) n place = (n ≡ 15) × (place ≡ k) × Fault15 l.line l.lo l.hi
Meets c of_gap n place = (n ≡ 16) × (place ≡ 0) × Fault16 c.gap
Meets c of_splits n place = (n ≡ 17) × (place ≡ 0) × Fault17 c.splits
Meets c (of_breaks k l) n place = (n ≡ 18) × (place ≡ k) × Fault18 l.line l.lo l.hi
Meets c (of_room l) n place = (n ≡ 19) × (place ≡ 0) × Short (pair_for c l)

abbrev pub Unmet : Chart → Row → Type 0
Unmet c r = (n place : ℕ) → Meets c r n place → ⊥

abbrev pub FirstOf : Chart → List Row → ℕ → ℕ → Type 0
FirstOf c [] n place = ⊥
FirstOf c (r ∷ rs) n place = Meets c r n place ⊎ (Unmet c r × FirstOf c rs n place)

-- ---- of a sheet
-- The table's places, in this order: the sheet; of a pair the first line, then the second; their data; the question; the lent memory. The fault of each is the first row that it meets.
pub data Fault (s : List ℕ) (n place : ℕ) : Type 0 where
  in_sheet : walk_of s ≡ refused_as n → place ≡ 0 → Fault s n place
  in_first : (q : Question) → walk_of s ≡ walked q → FirstLineFault n q.line1 → place ≡ 1 → Fault s n place
  in_second : (q : Question) → walk_of s ≡ walked q → GoodLine q.line1 → FirstLineFault n q.line2 → place ≡ 2 → Fault s n place
  in_data : (q : Question) → walk_of s ≡ walked q → GoodLine q.line1 → GoodLine q.line2 → DatumFault q → n ≡ 23 → place ≡ 2 → Fault s n place
  in_question : (q : Question) → walk_of s ≡ walked q → GoodLine q.line1 → GoodLine q.line2 → GoodData q → FirstQuestionFault (n, place) q → Fault s n place
  in_memory : (q : Question) → walk_of s ≡ walked q → GoodLine q.line1 → GoodLine q.line2 → GoodData q → GoodQuestion q → Short q → n ≡ 19 → place ≡ 0 → Fault s n place
  in_chart : (c : Chart) → walk_of s ≡ charted c → FirstOf c (order c) n place → Fault s n place

-- each fault is printed with its number and place
abbrev pub FaultPrinted : Type 0
FaultPrinted = (s : List ℕ) (n place : ℕ) → Fault s n place → answer_of s ≡ refusal_line n place

-- "When, and only then", number 23: an opening, whatever it is lent, answers 23 exactly if both lines are admitted and their data are not one number from 1 to 9,999.
abbrev pub DatumTable : Type 0
DatumTable = (q : Question) (p1 p2 : List Float) (u : Memory)
    → (opened_number (open_def q p1 p2 u).answer ≡ 23) ↔ (GoodLine q.line1 × GoodLine q.line2 × DatumFault q)
