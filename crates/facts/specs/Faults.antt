-- Document 01's table in its own words, numbers 4 to 18, with document 02's 22 and what it says of closed lines, and its 23: what a line, two data or a question meet. Definitions only.
use Rattle.std.specs.Prelude.{◌≡◌, ◌⊎◌, Bool, true, false, cond, List, [], ◌∷◌, ℕ, ◌+◌, ◌-◌, ◌*◌, ◌/◌, ◌%◌, ◌^◌, ◌<◌, ◌≤◌, T, eqb, length, get_or, Float, Option, Some, None, Result, Ok, Err}
use Rattle.std.specs.Float.{nan, inf, fin, binary64}
use Rattle.std.specs.Float.Ieee.{up, down, le, lt, sub}
use Rattle.lists.specs.Members.{Any}
use Rattle.lists.specs.Tests.{total}
use Rattle.floats.specs.Floats.{middle}
use Rattle.floats.specs.Sizes.{Within}
use Rattle.lines.specs.Lines.{Line, Question}
use Rattle.knots.specs.Knots.{bounds_of, breaks_of}
use Rattle.verdicts.specs.declared.Side.{Side}
use Rattle.verdicts.specs.Verdicts.{side_number}
use Rattle.lines.specs.declared.LineError.{LineError}
use Rattle.lines.specs.Admit.{line_error_number, inner}
use Rattle.questions.specs.declared.QuestionError.{QuestionError}
use Rattle.questions.specs.Questions.{question_error_number, question_error_line, ask_of}

-- some two neighbours are related
abbrev pub AnyTwo : {A : Type 0} → (A → A → Type 0) → List A → Type 0
AnyTwo R [] = ⊥
AnyTwo R (x ∷ []) = ⊥
AnyTwo R (x ∷ y ∷ l) = R x y ⊎ AnyTwo R (y ∷ l)

-- no infinity and no NaN
abbrev pub Finite : Float → Type 0
Finite nan = ⊥
Finite (inf s) = ⊥
Finite (fin s m e) = Unit {0}

-- from 1 / C to C, whole numbers compared: `fin false m e` is m × 2^e, and that is m × up e / down e
abbrev pub WithinFactor : ℕ → Float → Type 0
WithinFactor C nan = ⊥
WithinFactor C (inf s) = ⊥
WithinFactor C (fin true m e) = ⊥
WithinFactor C (fin false m e) = (down e ≤ C * (m * up e)) × (m * up e ≤ C * down e)

-- from 0 to C, of either zero
abbrev pub FromZero : ℕ → Float → Type 0
FromZero C nan = ⊥
FromZero C (inf s) = ⊥
FromZero C (fin true m e) = (m ≡ 0)
FromZero C (fin false m e) = m * up e ≤ C * down e

-- three coordinates a pole
abbrev pub poles : Line → ℕ
poles l = length l.coords / 3

-- the first of a closed line, the second of an open one
abbrev pub ByClosed : Bool → Type 0 → Type 0 → Type 0
ByClosed true of_closed of_open = of_closed
ByClosed false of_closed of_open = of_open

-- the last multiplicity
abbrev pub last_mult : Line → ℕ
last_mult l = get_or l.mults (length l.mults - 1) 0

-- 4: degree isn't 1 to 25
abbrev pub Fault4 : Line → Type 0
Fault4 l = (l.degree < 1) ⊎ (25 < l.degree)

-- 5: fewer than 2 or over 128 distinct knots, or as many multiplicities don't come
abbrev pub Fault5 : Line → Type 0
Fault5 l = (length l.knots < 2) ⊎ ((128 < length l.knots) ⊎ (length l.mults ≡ length l.knots → ⊥))

-- 6: a knot isn't finite or is beyond ±2^20
abbrev pub Fault6 : Line → Type 0
Fault6 l = Any (λ k. Within (2 ^ 20) k → ⊥) l.knots

-- 7: a knot is not above the one before
abbrev pub Fault7 : Line → Type 0
Fault7 l = AnyTwo (λ before k. T (lt before k) → ⊥) l.knots

-- 22: the end multiplicities of a closed line differ
abbrev pub Fault22 : Line → Type 0
Fault22 l = (l.closed ≡ true) × (get_or l.mults 0 0 ≡ last_mult l → ⊥)

-- 8: an end multiplicity is over degree + 1, or an inner one over degree; on a closed line one is over degree
abbrev pub Fault8 : Line → Type 0
Fault8 l =
    ByClosed l.closed (Any (λ m. l.degree < m) l.mults)
    ((l.degree + 1 < get_or l.mults 0 0) ⊎ ((l.degree + 1 < last_mult l) ⊎ Any (λ m. l.degree < m) (inner l.mults)))

-- 9: a multiplicity is 0
abbrev pub Fault9 : Line → Type 0
Fault9 l = Any (λ m. m ≡ 0) l.mults

-- 10: coordinates are no multiple of 3, or poles ≠ sum of multiplicities − degree − 1; on a closed line, ≠ sum − last multiplicity
abbrev pub Fault10 : Line → Type 0
Fault10 l =
    (length l.coords % 3 ≡ 0 → ⊥) ⊎ ByClosed l.closed (poles l + last_mult l ≡ total l.mults → ⊥) (poles l + (l.degree + 1) ≡ total l.mults → ⊥)

-- 11: poles are fewer than degree + 1 or over 128
abbrev pub Fault11 : Line → Type 0
Fault11 l = (poles l < l.degree + 1) ⊎ (128 < poles l)

-- 12: there are weights, but not one a pole
abbrev pub Fault12 : Line → Type 0
Fault12 l = (length l.weights ≡ 0 → ⊥) × (length l.weights ≡ poles l → ⊥)

-- 13: a weight isn't from 2^−10 to 2^10
abbrev pub Fault13 : Line → Type 0
Fault13 l = Any (λ w. WithinFactor (2 ^ 10) w → ⊥) l.weights

-- 14: a coordinate isn't within ±2^24
abbrev pub Fault14 : Line → Type 0
Fault14 l = Any (λ x. Within (2 ^ 24) x → ⊥) l.coords

-- the number that `admit` answers, 0 for an admitted line
abbrev pub admit_number : Result Unit LineError → ℕ
admit_number (Ok x) = 0
admit_number (Err e) = line_error_number e

-- the line meets the table's row of number n
abbrev pub LineFault : ℕ → Line → Type 0
LineFault n l =
    ((4 ≡ n) × Fault4 l) ⊎ (((5 ≡ n) × Fault5 l) ⊎ (((6 ≡ n) × Fault6 l) ⊎ (((7 ≡ n) × Fault7 l) ⊎ (((22 ≡ n) × Fault22 l) ⊎ (((8 ≡ n) × Fault8 l) ⊎ (((9 ≡ n) × Fault9 l)
    ⊎ (((10 ≡ n) × Fault10 l) ⊎ (((11 ≡ n) × Fault11 l) ⊎ (((12 ≡ n) × Fault12 l) ⊎ (((13 ≡ n) × Fault13 l) ⊎ ((14 ≡ n) × Fault14 l)))))))))))

-- where a row stands among a line's: by its number, and 22 "tested after 7"
abbrev pub row_rank : ℕ → ℕ
row_rank n = cond (eqb n 22) 15 (2 * n)

-- the first row that the line meets has number n
abbrev pub FirstLineFault : ℕ → Line → Type 0
FirstLineFault n l = LineFault n l × ((k : ℕ) → row_rank k < row_rank n → LineFault k l → ⊥)

-- 23: either number is outside 1 to 9,999, or the two differ
abbrev pub Fault23 : ℕ → ℕ → Type 0
Fault23 a b = ((a < 1) ⊎ (9999 < a)) ⊎ (((b < 1) ⊎ (9999 < b)) ⊎ (a ≡ b → ⊥))

-- where it isn't met
abbrev pub OneDatum : ℕ → ℕ → Type 0
OneDatum a b = (1 ≤ a) × (a ≤ 9999) × (a ≡ b)

-- "A range starts in [first knot, last knot) and is, as rounded, no longer than the period": it doesn't, or it isn't
abbrev pub OffTurn : Float → Float → Float → Float → Type 0
OffTurn first last lo hi = (T (le first lo) → ⊥) ⊎ ((T (lt lo last) → ⊥) ⊎ (T (le (sub binary64 hi lo) (sub binary64 last first)) → ⊥))

-- 15: a range isn't finite, lo ≥ hi (a NaN is no number below another), or it leaves the line's bounds; on a closed line, instead of these, what a turn asks
abbrev pub Fault15 : Line → Float → Float → Type 0
Fault15 l lo hi =
    (Finite lo → ⊥) ⊎ ((Finite hi → ⊥) ⊎ ((T (lt lo hi) → ⊥)
    ⊎ ByClosed l.closed (OffTurn (get_or l.knots 0 nan) (get_or l.knots (length l.knots - 1) nan) lo hi)
    ((T (le (bounds_of l).lo lo) → ⊥) ⊎ (T (le hi (bounds_of l).hi) → ⊥))))

-- 16: the gap isn't from 0 to 2^24
abbrev pub Fault16 : Float → Type 0
Fault16 gap = FromZero (2 ^ 24) gap → ⊥

-- 17: splits per pair, S, is over 256
abbrev pub Fault17 : ℕ → Type 0
Fault17 splits = 256 < splits

-- 18: two neighbouring breaks t0, t1 lack t0 < 0.5 × (t0 + t1) < t1
abbrev pub Fault18 : Line → Float → Float → Type 0
Fault18 l lo hi = AnyTwo (λ t0 t1. T (lt t0 (middle t0 t1)) × T (lt (middle t0 t1) t1) → ⊥) (breaks_of l lo hi)

-- the question meets the row of this number and line (0 where it is no line's)
abbrev pub QuestionFault : ℕ × ℕ → Question → Type 0
QuestionFault n q =
    (((15, 1) ≡ n) × Fault15 q.line1 q.lo1 q.hi1) ⊎ ((((15, 2) ≡ n) × Fault15 q.line2 q.lo2 q.hi2)
    ⊎ ((((16, 0) ≡ n) × Fault16 q.gap) ⊎ ((((17, 0) ≡ n) × Fault17 q.splits)
    ⊎ ((((18, 1) ≡ n) × Fault18 q.line1 q.lo1 q.hi1) ⊎ (((18, 2) ≡ n) × Fault18 q.line2 q.lo2 q.hi2)))))

-- a smaller number, or the same of the first line
abbrev pub Earlier : ℕ × ℕ → ℕ × ℕ → Type 0
Earlier m n = (m.0 < n.0) ⊎ ((m.0 ≡ n.0) × (m.1 < n.1))

-- the number that `ask` answers, 0 for a question that is fine
abbrev pub asked_number : Result Unit QuestionError → ℕ
asked_number (Ok x) = 0
asked_number (Err e) = question_error_number e

-- a line by its number, 0 for none
abbrev pub side_place : Option Side → ℕ
side_place None = 0
side_place (Some s) = side_number s

-- the line at fault
abbrev pub asked_line : Result Unit QuestionError → ℕ
asked_line (Ok x) = 0
asked_line (Err e) = side_place (question_error_line e)

-- the number that `ask` answers, and the line
abbrev pub asked_place : Question → ℕ × ℕ
asked_place q = (asked_number (ask_of q), asked_line (ask_of q))

-- the first row that the question meets is this one
abbrev pub FirstQuestionFault : ℕ × ℕ → Question → Type 0
FirstQuestionFault n q = QuestionFault n q × ((k : ℕ × ℕ) → Earlier k n → QuestionFault k q → ⊥)
