-- The answer to a sheet's bytes, a pair's or a chart's, whole and in instalments of at most one report. Definitions only.
use Rattle.std.specs.Prelude.{◌≡◌, List, [], ◌∷◌, ◌++◌, Bool, true, false, ◌&&◌, cond, ℕ, zero, suc, ltb, leb, eqb, length, drop}
use Rattle.texts.specs.Texts.{Wrote}
use Rattle.walks.specs.Sheets.{ChartLine, Chart, Walked, walked, charted, refused_as, walk_of}
use Rattle.printing.specs.Printed.{refusal_line}
use Rattle.sheet.specs.Answers.{longest, lines_text}
use Rattle.charts.specs.declared.Instalment.{Instalment}
use Rattle.charts.specs.Charts.{Tested, pair_for, first_met, tests, lines_complete, last_line, chart_text}

-- ---- whole
-- "The sheet is walked whole before 4"
abbrev pub walked_text : Walked → List ℕ
walked_text (walked q) = lines_text q
walked_text (charted c) = chart_text c
walked_text (refused_as n) = refusal_line n 0

-- from the bytes on standard input to those on standard output
unfoldable pub answer_of : List ℕ → List ℕ
answer_of s = walked_text (walk_of s)

-- ---- in instalments: a text, whether more follow, and whether each report so far says complete
pub record Part : Type 0 where
  pub text : List ℕ
  pub more : Bool
  pub good : Bool

-- the last instalment; and one behind it, which is empty
abbrev pub last : List ℕ → Bool → Part
last text good = record { text = text; more = false; good = good }

-- the report of the first of these lines, or the last line where none is left
abbrev pub line_part : Chart → List ChartLine → Bool → Part
line_part c (l ∷ ls) good = record { text = lines_text (pair_for c l); more = true; good = good && lines_complete (pair_for c l) }
line_part c [] good = last (last_line good) good

-- instalment k, counted from 0, of a chart that meets no test (`Chart::part`)
abbrev pub chart_part : Chart → ℕ → Bool → Part
chart_part c k good = cond (leb k (length c.lines)) (line_part c (drop k c.lines) good) (last [] good)

-- the first has every report before it complete; it is the refusal where a test is met
abbrev pub first_part : Chart → Tested → Part
first_part c t = cond (eqb t.number 0) (chart_part c 0 true) (last (refusal_line t.number t.place) true)

abbrev pub walked_part : Walked → ℕ → Bool → Part
walked_part (charted c) zero good = first_part c (first_met (tests c))
walked_part (charted c) (suc k) good = chart_part c (suc k) good
walked_part (walked q) zero good = last (lines_text q) true
walked_part (walked q) (suc k) good = last [] good
walked_part (refused_as n) zero good = last (refusal_line n 0) true
walked_part (refused_as n) (suc k) good = last [] good

unfoldable pub part_of : List ℕ → ℕ → Bool → Part
part_of s k good = walked_part (walk_of s) k good

-- the instalments from k on, at most n of them, one after the other
abbrev pub joined : ℕ → List ℕ → ℕ → Bool → List ℕ
joined zero s k good = []
joined (suc n) s k good = let p = part_of s k good in p.text ++ cond p.more (joined n s (suc k) p.good) []

-- "the answer comes in instalments": 64 reports, the last line and one more are enough for every sheet, and joined they are the answer
abbrev pub Instalments : Type 0
Instalments = (s : List ℕ) → joined 66 s 0 true ≡ answer_of s

-- ---- what `next` answers and leaves in the buffer: the instalment from its front; nothing, and nothing more, where the buffer is too short for the longest
abbrev pub Left : Part → List ℕ → List ℕ → Instalment → Type 0
Left p before after r = Wrote before 0 p.text after r.length × (r.more ≡ p.more) × (r.good ≡ p.good)

abbrev pub Given : List ℕ → ℕ → Bool → List ℕ → List ℕ → Instalment → Type 0
Given s k good before after r = Left (cond (ltb (length before) longest) (last [] good) (part_of s k good)) before after r
