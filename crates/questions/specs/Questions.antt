-- Document 01's table, numbers 15 to 18, with what document 02 says of the range of a closed line: what is wrong with a question. Definitions only.
use Rattle.std.specs.Prelude.{ℕ, ◌≤◌, Bool, false, cond, not, List, length, ltb, Float, Option, Some, None, Result, Ok, Err}
use Rattle.std.specs.Float.{binary64}
use Rattle.std.specs.Float.Ieee.{sub, le, lt, eq}
use Rattle.lists.specs.Tests.{each_two}
use Rattle.floats.specs.Floats.{zero64, within, middle}
use Rattle.points.specs.declared.Interval.{Interval}
use Rattle.lines.specs.Admit.{two24}
use Rattle.lines.specs.Lines.{Question}
use Rattle.knots.specs.Knots.{HasBounds, period_of, unrolled_of, breaks_in, bounds_of}
use Rattle.verdicts.specs.declared.Side.{Side}
use Rattle.verdicts.specs.declared.Side.TheVariants.{First, Second}
use Rattle.questions.specs.declared.QuestionError.{QuestionError}
use Rattle.questions.specs.declared.QuestionError.TheVariants.{RangeOutOfBounds, GapOutOfRange, TooManySplits, BreaksTooClose}

-- a line's bounds and breaks are told: at least two knots, room for them unrolled, and bounds
abbrev pub HasRanges : ℕ → List Float → List ℕ → Type 0
HasRanges degree knots mults = (2 ≤ length knots) × (length knots ≤ 128) × HasBounds degree knots mults

-- the table's number for each case
abbrev pub question_error_number : QuestionError → ℕ
question_error_number (RangeOutOfBounds line) = 15
question_error_number GapOutOfRange = 16
question_error_number TooManySplits = 17
question_error_number (BreaksTooClose line) = 18

-- the line at fault, if it is one of them
abbrev pub question_error_line : QuestionError → Option Side
question_error_line (RangeOutOfBounds line) = Some line
question_error_line GapOutOfRange = None
question_error_line TooManySplits = None
question_error_line (BreaksTooClose line) = Some line

-- "A range starts in [first knot, last knot) and is, as rounded, no longer than the period": what of this is not asked of an open line
unfoldable pub turn_fits : Interval → Float → Float → Bool
turn_fits bounds lo hi = cond (lt lo bounds.hi) (le (sub binary64 hi lo) (sub binary64 bounds.hi bounds.lo)) false

-- "On a closed line searched for a whole turn": "the line is closed, its asked hi − lo, as rounded, is the period" (document 02, M-101; `whole_turn`)
unfoldable pub whole_turn : Bool → List Float → Float → Float → Bool
whole_turn closed knots lo hi = cond closed (eq (sub binary64 hi lo) (period_of knots)) false

-- 15 isn't met: lo < hi, and an open line's range lies inside its bounds, a closed one's starts in them and is no longer than the period. The bounds are finite, and so is then the range: an infinite end has an infinite length,
-- and a NaN is neither below nor above a number
unfoldable pub range_fits : Bool → Interval → Float → Float → Bool
range_fits closed bounds lo hi = cond (lt lo hi) (cond (le bounds.lo lo) (cond closed (turn_fits bounds lo hi) (le hi bounds.hi)) false) false

-- 18 isn't met by t0 and t1: t0 < 0.5 × (t0 + t1) < t1
unfoldable pub parted : Float → Float → Bool
parted t0 t1 = cond (lt t0 (middle t0 t1)) (lt (middle t0 t1) t1) false

-- 15 of both ranges, 16, 17, then 18 of both
unfoldable pub ask_within : Bool → Interval → List Float → Float → Float → Bool → Interval → List Float → Float → Float → Float → ℕ → Result Unit QuestionError
ask_within closed1 bounds1 knots1 lo1 hi1 closed2 bounds2 knots2 lo2 hi2 gap splits =
    cond (not (range_fits closed1 bounds1 lo1 hi1)) (Err (RangeOutOfBounds First))
    (cond (not (range_fits closed2 bounds2 lo2 hi2)) (Err (RangeOutOfBounds Second))
    (cond (not (within zero64 two24 gap)) (Err GapOutOfRange)
    (cond (ltb 256 splits) (Err TooManySplits)
    (cond (not (each_two parted (breaks_in lo1 hi1 (unrolled_of closed1 knots1)))) (Err (BreaksTooClose First))
    (cond (not (each_two parted (breaks_in lo2 hi2 (unrolled_of closed2 knots2)))) (Err (BreaksTooClose Second)) (Ok tt))))))

-- 15 to 18: `ask`
abbrev pub ask_of : Question → Result Unit QuestionError
ask_of q =
    ask_within q.line1.closed (bounds_of q.line1) q.line1.knots q.lo1 q.hi1
    q.line2.closed (bounds_of q.line2) q.line2.knots q.lo2 q.hi2 q.gap q.splits
